use Rattle.std.proofs.Common.{◌≡◌, ◌++◌, Bor, map}
use Rattle.std.specs.Map.{values_of}
use Rattle.edit.specs.FilePlaces.{numbered_files}
use Rattle.edit.specs.VersionOrder.{files_at}
use Rattle.edit.specs.declared.meta.FileMeta.{FileMeta}
use Rattle.edit.proofs.files.Files.at_level.Given as goal

-- the files so far, and those of the rest, are the files of all
abbrev pub invariant-loop-place : goal.invariant-loop-place
invariant-loop-place l = map (λ (f : Bor FileMeta). f.now) l.found.items ++ files_at (values_of (numbered_files l.files l.place-iterator)) l.level ≡ files_at l.self l.level
