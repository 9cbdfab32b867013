use Rattle.std.proofs.Common.{◌≡◌, drop, fold}
use Rattle.std.specs.List.{filter}
use Rattle.std.specs.Option.{option_copied}
use Rattle.pick.specs.Boundaries.{with_largest, largest_key}
use Rattle.pick.specs.Choices.{is_chosen}
use Rattle.pick.proofs.Lists.{lent}
use Rattle.pick.proofs.boundaries.largest_chosen.Given as goal

-- the greatest key so far, and then those of the chosen ones of the rest
abbrev pub invariant-loop-file : goal.invariant-loop-file
invariant-loop-file g l =
    fold (with_largest g.C.Comparator.cmp) (option_copied l.largest) (filter (is_chosen g.C.Comparator.cmp l.choice) (lent (drop l.file-index l.files)))
    ≡ largest_key g.C.Comparator.cmp (filter (is_chosen g.C.Comparator.cmp l.choice) (lent l.files))
