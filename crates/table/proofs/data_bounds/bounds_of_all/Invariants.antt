use Rattle.std.proofs.Common.{◌≡◌, drop}
use Rattle.table.specs.IndexEntries.{index_entries_of}
use Rattle.table.proofs.DataSteps.{all_bounds, rest_bounds}
use Rattle.table.proofs.data_bounds.bounds_of_all.Given as goal

abbrev pub invariant-loop-entry : goal.invariant-loop-entry
invariant-loop-entry g l = rest_bounds g.C.Comparator.cmp l.bounds l.below l.fits (index_entries_of (drop l.entry-index l.others)) ≡ all_bounds g.C.Comparator.cmp (index_entries_of l.index)
