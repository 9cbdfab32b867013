use Rattle.std.proofs.Common.{◌≡◌, drop}
use Rattle.pick.specs.Parts.{have_ranges}
use Rattle.pick.proofs.Lists.{lent}
use Rattle.pick.proofs.level_parts.have_ranges.Given as goal

-- the rest decides
abbrev pub invariant-loop-file : goal.invariant-loop-file
invariant-loop-file g l = have_ranges g.C.Comparator.cmp (lent (drop l.file-index l.files)) ≡ have_ranges g.C.Comparator.cmp (lent l.files)
