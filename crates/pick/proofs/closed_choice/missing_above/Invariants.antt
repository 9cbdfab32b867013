use Rattle.std.proofs.Common.{◌≡◌, ◌&&◌, not, drop}
use Rattle.std.specs.List.{find}
use Rattle.edit.specs.declared.meta.FileMeta.{FileMeta}
use Rattle.pick.specs.ClosedChoice.{has_number_of, is_needed_above}
use Rattle.pick.proofs.Lists.{lent}
use Rattle.pick.proofs.closed_choice.missing_above.Given as goal

-- what is found is found in the rest
abbrev pub invariant-loop-file : goal.invariant-loop-file
invariant-loop-file g l =
    find (λ (f : FileMeta). not (has_number_of l.numbers f) && is_needed_above g.C.Comparator.cmp l.level (lent l.upper) f) (lent (drop l.file-index l.files))
    ≡ find (λ (f : FileMeta). not (has_number_of l.numbers f) && is_needed_above g.C.Comparator.cmp l.level (lent l.upper) f) (lent l.files)
