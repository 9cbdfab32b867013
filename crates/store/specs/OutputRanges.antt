-- Where the outputs of a compaction lie.
use Rattle.std.specs.Prelude.{◌≡◌, ◌⊎◌, ◌+◌, ◌<◌, false, List, map, Contains}
use Rattle.folder.specs.Comparator.{KeyOrder}
use Rattle.folder.specs.Version.{State}
use Rattle.folder.specs.meta.FileMeta.{FileMeta}
use Rattle.folder.specs.meta.NewFile.{NewFile}
use Rattle.pick.specs.ApartChoice.{LiesWithin}
use Rattle.pick.specs.PickedInputs.{PickedInputs}
use Rattle.pick.specs.declared.picked_inputs.InputFile.{InputFile}
use Rattle.compact.specs.ClosedInputs.{is_input}
use Rattle.store.specs.FolderRequest.{manifest_of}

-- the files that are inputs, without their levels
abbrev pub input_metas : PickedInputs → List FileMeta
input_metas p = map (λ (i : InputFile). i.meta) p.files

-- A file after a compaction of these inputs of a version:
-- - it was there, and is no input;
-- - or it is an output: of the next level, with a number above the version's next file, and within
--   the range of the inputs, which goes from the least of their user keys to the greatest.
abbrev pub IsOldOrOutput : KeyOrder → State → PickedInputs → NewFile → Type 0
IsOldOrOutput cmp v p f = (Contains v.files f × (is_input p f.meta.number ≡ false))
    ⊎ ((f.level ≡ p.level + 1) × (manifest_of v < f.meta.number)
    × LiesWithin cmp (input_metas p) f.meta)
