use Rattle.std.proofs.Common.{List, subst}
use Rattle.std.specs.List.{AllByRecursion}
use Rattle.block.specs.EncodedEntry.{Entry}
use Rattle.merge.specs.MergedLists.{entries_of_lists}
use Rattle.pairing.specs.TestedUnion.{IsLimited}
use Rattle.pairing.proofs.RangeUnions.{joined_limited}
use Rattle.pairing.proofs.range_pair.RangePair.cursors.Goals as goal

pub returns-clause-limited : goal.returns-clause-limited
returns-clause-limited c = subst (λ (lists : List (List Entry)). AllByRecursion IsLimited (entries_of_lists lists)) c.self.view_is (joined_limited c.self.inside.a.now c.self.inside.b.now)
