use Rattle.std.proofs.Common.{◌≡◌, drop, fold}
use Rattle.std.specs.Option.{option_copied}
use Rattle.pick.specs.Boundaries.{with_largest, largest_key}
use Rattle.pick.proofs.Lists.{lent}
use Rattle.pick.proofs.boundaries.largest_of.Given as goal

-- the greatest key so far, and then those of the rest
abbrev pub invariant-loop-file : goal.invariant-loop-file
invariant-loop-file g l =
    fold (with_largest g.C.Comparator.cmp) (option_copied l.largest) (lent (drop l.file-index l.files)) ≡ largest_key g.C.Comparator.cmp (lent l.files)
