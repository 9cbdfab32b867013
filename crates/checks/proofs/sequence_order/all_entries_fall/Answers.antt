use Rattle.std.proofs.Common.{None, map, refl}
use Rattle.reads.specs.MergedLists.{entries_of_lists}
use Rattle.checks.proofs.FallingRanges.{fall_everywhere}
use Rattle.checks.proofs.sequence_order.all_entries_fall.Goals as goal

pub returns-clause-falls : goal.returns-clause-falls
returns-clause-falls g c =
    fall_everywhere g.C.Comparator.cmp (record { lower = None; upper = None }) refl refl (entries_of_lists (map (λ t. t.now.entries) c.args.tables.now)) c.entries_fall.result c.entries_fall.ensures.falls
