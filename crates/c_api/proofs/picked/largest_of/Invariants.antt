use Rattle.std.proofs.Common.{◌≡◌, drop, fold}
use Rattle.std.specs.Option.{option_copied}
use Rattle.pick.specs.Boundaries.{with_largest, largest_key}
use Rattle.c_api.proofs.picked.largest_of.Given as goal

abbrev pub invariant-loop-file : goal.invariant-loop-file
invariant-loop-file g l =
    fold (with_largest g.C.Comparator.cmp) (option_copied l.largest) (drop l.file-index l.files) ≡ largest_key g.C.Comparator.cmp l.files
