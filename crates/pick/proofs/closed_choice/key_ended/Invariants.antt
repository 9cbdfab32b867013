use Rattle.std.proofs.Common.{◌≡◌, drop}
use Rattle.std.specs.List.{list_any}
use Rattle.std.specs.Ordering.{is_le}
use Rattle.edit.specs.Order.{internal_cmp}
use Rattle.edit.specs.declared.meta.FileMeta.{FileMeta}
use Rattle.pick.proofs.Lists.{lent}
use Rattle.pick.proofs.closed_choice.key_ended.Given as goal

-- what is found is found in the rest
abbrev pub invariant-loop-file : goal.invariant-loop-file
invariant-loop-file g l =
    list_any (λ (f : FileMeta). is_le (internal_cmp g.C.Comparator.cmp l.key f.largest)) (lent (drop l.file-index l.files)) ≡ list_any (λ (f : FileMeta). is_le (internal_cmp g.C.Comparator.cmp l.key f.largest)) (lent l.files)
