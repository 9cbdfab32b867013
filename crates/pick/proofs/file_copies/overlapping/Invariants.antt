use Rattle.std.proofs.Common.{◌≡◌, ◌++◌, drop}
use Rattle.std.specs.List.{filter}
use Rattle.pick.specs.Choices.{is_in}
use Rattle.pick.proofs.Lists.{lent}
use Rattle.pick.proofs.file_copies.overlapping.Given as goal

-- the copies so far, and then those of the rest
abbrev pub invariant-loop-file : goal.invariant-loop-file
invariant-loop-file g l =
    l.found.items ++ filter (is_in g.C.Comparator.cmp l.range) (lent (drop l.file-index l.file-items)) ≡ filter (is_in g.C.Comparator.cmp l.range) (lent l.file-items)
