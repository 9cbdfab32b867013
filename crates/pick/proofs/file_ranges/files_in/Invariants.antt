use Rattle.std.proofs.Common.{◌≡◌, ◌++◌, drop}
use Rattle.std.specs.List.{filter}
use Rattle.pick.specs.Choices.{is_in}
use Rattle.pick.proofs.Lists.{lent}
use Rattle.pick.proofs.file_ranges.files_in.Given as goal

-- the files so far, and then those of the rest
abbrev pub invariant-loop-file : goal.invariant-loop-file
invariant-loop-file g l =
    lent l.found.items ++ filter (is_in g.C.Comparator.cmp l.range) (lent (drop l.file-index l.files)) ≡ filter (is_in g.C.Comparator.cmp l.range) (lent l.files)
