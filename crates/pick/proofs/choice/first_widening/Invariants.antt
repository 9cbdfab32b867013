use Rattle.std.proofs.Common.{◌≡◌, drop}
use Rattle.std.specs.List.{find}
use Rattle.pick.specs.Choices.{is_widening}
use Rattle.pick.proofs.Lists.{lent}
use Rattle.pick.proofs.choice.first_widening.Given as goal

-- what is found is found in the rest
abbrev pub invariant-loop-file : goal.invariant-loop-file
invariant-loop-file g l =
    find (is_widening g.C.Comparator.cmp l.range) (lent (drop l.file-index l.files)) ≡ find (is_widening g.C.Comparator.cmp l.range) (lent l.files)
