use Rattle.std.proofs.Common.{◌≡◌, ◌++◌, Bor, map, drop}
use Rattle.edit.specs.VersionOrder.{at_level}
use Rattle.edit.specs.declared.meta.FileMeta.{FileMeta}
use Rattle.edit.proofs.snapshot.push_at_level.Given as goal

-- what is copied and what is left to copy make the whole
abbrev pub invariant-loop-file : goal.invariant-loop-file
invariant-loop-file l =
    l.added.items ++ map (λ (f : Bor FileMeta). at_level l.level f.now) (drop l.file-index l.files) ≡ l.fn.added.items ++ map (λ (f : Bor FileMeta). at_level l.level f.now) l.files
