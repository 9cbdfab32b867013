use Rattle.std.proofs.Common.{◌≡◌, ◌++◌, drop}
use Rattle.std.specs.List.{filter}
use Rattle.std.specs.Option.{option_copied}
use Rattle.pick.specs.Boundaries.{largest_key}
use Rattle.pick.specs.Choices.{is_chosen, boundary_pass}
use Rattle.pick.proofs.Lists.{lent}
use Rattle.pick.proofs.boundaries.with_boundaries.Given as goal

-- the files so far, and then those of the rest
abbrev pub invariant-loop-file : goal.invariant-loop-file
invariant-loop-file g l =
    lent l.all.items ++ boundary_pass g.C.Comparator.cmp (is_chosen g.C.Comparator.cmp l.choice) (option_copied l.largest) (lent (drop l.file-index l.files))
    ≡ boundary_pass g.C.Comparator.cmp (is_chosen g.C.Comparator.cmp l.choice) (largest_key g.C.Comparator.cmp (filter (is_chosen g.C.Comparator.cmp l.choice) (lent l.files))) (lent l.files)
