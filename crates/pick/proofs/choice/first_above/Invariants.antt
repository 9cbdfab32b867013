use Rattle.std.proofs.Common.{◌≡◌, drop}
use Rattle.std.specs.List.{find}
use Rattle.std.specs.Ordering.{is_lt}
use Rattle.edit.specs.Order.{internal_cmp}
use Rattle.edit.specs.declared.meta.FileMeta.{FileMeta}
use Rattle.pick.proofs.Lists.{lent}
use Rattle.pick.proofs.choice.first_above.Given as goal

-- what is found is found in the rest
abbrev pub invariant-loop-file : goal.invariant-loop-file
invariant-loop-file g l =
    find (λ (f : FileMeta). is_lt (internal_cmp g.C.Comparator.cmp l.pointer f.largest)) (lent (drop l.file-index l.files))
    ≡ find (λ (f : FileMeta). is_lt (internal_cmp g.C.Comparator.cmp l.pointer f.largest)) (lent l.files)
