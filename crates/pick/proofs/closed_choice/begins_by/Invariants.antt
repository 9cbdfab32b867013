use Rattle.std.proofs.Common.{◌≡◌, drop}
use Rattle.std.specs.List.{list_any}
use Rattle.edit.specs.Key.{user_of}
use Rattle.pick.specs.Ranges.{is_at_most}
use Rattle.edit.specs.declared.meta.FileMeta.{FileMeta}
use Rattle.pick.proofs.Lists.{lent}
use Rattle.pick.proofs.closed_choice.begins_by.Given as goal

-- what is found is found in the rest
abbrev pub invariant-loop-file : goal.invariant-loop-file
invariant-loop-file g l =
    list_any (λ (f : FileMeta). is_at_most g.C.Comparator.cmp (user_of f.smallest) l.user) (lent (drop l.file-index l.files)) ≡ list_any (λ (f : FileMeta). is_at_most g.C.Comparator.cmp (user_of f.smallest) l.user) (lent l.files)
