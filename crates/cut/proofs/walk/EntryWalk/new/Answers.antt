use Rattle.cut.proofs.Walks.{walk_first}
use Rattle.cut.proofs.walk.EntryWalk.new.Goals as goal

pub invariant_of-result : goal.invariant_of-result
invariant_of-result c = walk_first c.args.start c.slice-slice.result _ c.slice-slice.ensures.some c.slice-slice.ensures.front
