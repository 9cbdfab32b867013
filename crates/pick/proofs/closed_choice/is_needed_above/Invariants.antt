use Rattle.std.proofs.Common.{◌≡◌, drop}
use Rattle.std.specs.List.{list_any}
use Rattle.pick.specs.ClosedChoice.{goes_with}
use Rattle.edit.specs.declared.meta.FileMeta.{FileMeta}
use Rattle.pick.proofs.Lists.{lent}
use Rattle.pick.proofs.closed_choice.is_needed_above.Given as goal

-- what is found is found in the rest
abbrev pub invariant-loop-chosen : goal.invariant-loop-chosen
invariant-loop-chosen g l =
    list_any (λ (f : FileMeta). goes_with g.C.Comparator.cmp l.level f l.file) (lent (drop l.chosen-index l.upper)) ≡ list_any (λ (f : FileMeta). goes_with g.C.Comparator.cmp l.level f l.file) (lent l.upper)
