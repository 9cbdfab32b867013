use Rattle.std.proofs.Common.{◌≡◌, drop}
use Rattle.std.specs.List.{list_any}
use Rattle.std.specs.Prelude.{Some}
use Rattle.pick.specs.Boundaries.{goes_on}
use Rattle.edit.specs.declared.meta.FileMeta.{FileMeta}
use Rattle.pick.proofs.Lists.{lent}
use Rattle.pick.proofs.closed_choice.goes_on_some.Given as goal

-- what is found is found in the rest
abbrev pub invariant-loop-other : goal.invariant-loop-other
invariant-loop-other g l =
    list_any (λ (f : FileMeta). goes_on g.C.Comparator.cmp (Some f.largest) l.file) (lent (drop l.other-index l.chosen)) ≡ list_any (λ (f : FileMeta). goes_on g.C.Comparator.cmp (Some f.largest) l.file) (lent l.chosen)
