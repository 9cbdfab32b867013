use Rattle.std.proofs.Common.{◌≡◌, ◌-◌, ◌++◌}
use Rattle.pick.specs.PickedInputs.{files_from}
use Rattle.pick.proofs.file_copies.deeper_files.Given as goal

-- the copies so far, and then those of the levels that are left
abbrev pub invariant-loop-level : goal.invariant-loop-level
invariant-loop-level g l =
    l.deeper.items ++ files_from g.C.Comparator.cmp l.version l.level (7 - l.level) ≡ files_from g.C.Comparator.cmp l.version l.from (7 - l.from)
