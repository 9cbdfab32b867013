use Rattle.split.proofs.Covers.{covers}
use Rattle.checks.proofs.sequence_order.count_ranges.Goals as goal

pub returns-clause-cover : goal.returns-clause-cover
returns-clause-cover g c = covers g.C.Comparator.cmp g.met.C.Comparator.total c.args.split.now c.len.ensures.split.rising
