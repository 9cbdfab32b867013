-- Which entries a version has to have after a compaction, so that each get at a readable sequence
-- answers as before.
use Rattle.std.specs.Prelude.{◌≡◌, ◌⊎◌, ℕ, ◌≤◌, true, not, List, map, filter, Contains}
use Rattle.std.specs.List.{All}
use Rattle.ikey.specs.Comparator.{KeyOrder}
use Rattle.table.specs.EncodedEntry.{Entry}
use Rattle.edit.specs.Version.{State}
use Rattle.edit.specs.declared.meta.NewFile.{NewFile}
use Rattle.edit.specs.declared.meta.TheConstants.{LAST_LEVEL}
use Rattle.reads.specs.Union.{IsUnion}
use Rattle.pick.specs.PickedInputs.{PickedInputs, IsPicked}
use Rattle.pick.specs.declared.picked_inputs.InputFile.{InputFile}
use Rattle.reads.specs.Gets.{get_of}
use Rattle.reads.specs.Lawful.{IsLawful}
use Rattle.reads.specs.Tables.{NumberedContents, table_entries, all_entries}
use Rattle.compact.specs.ClosedInputs.{is_input}
use Rattle.keep.specs.DropRule.{kept}
use Rattle.keep.specs.Readable.{Readable, is_read}

-- the files of a version that are no inputs
abbrev pub staying_files : State → PickedInputs → List NewFile
staying_files v p = filter (λ (f : NewFile). not (is_input p f.meta.number)) v.files

-- the entries of the table of each input
abbrev pub entries_of_inputs : List NumberedContents → PickedInputs → List (List Entry)
entries_of_inputs tables p = map (λ (i : InputFile). table_entries tables i.meta.number) p.files

-- The files of the version after have the entries of the files that stay, these of the inputs that
-- are kept, and no other entries.
pub record HoldKept (v : State) (tables : List NumberedContents) (p : PickedInputs)
    (kept_ones : List Entry) (after : State) (tables_after : List NumberedContents) : Type 0 where
  pub holds_staying : (e : Entry) → Contains (all_entries tables (staying_files v p)) e →
      Contains (all_entries tables_after after.files) e
  pub holds_kept : (e : Entry) → Contains kept_ones e →
      Contains (all_entries tables_after after.files) e
  pub only : (e : Entry) → Contains (all_entries tables_after after.files) e →
      Contains (all_entries tables (staying_files v p)) e ⊎ Contains kept_ones e

-- Let the inputs be picked from a lawful version with files at levels up to 6. If the version after
-- holds what is kept of their union, each get at a sequence that stays readable answers as before.
abbrev pub GetsAfter : KeyOrder → Type 0
GetsAfter cmp =
    (v : State) (tables : List NumberedContents) (level : ℕ) (p : PickedInputs) (r : Readable)
    (union : List Entry) (after : State) (tables_after : List NumberedContents) →
    IsLawful cmp v tables → All (λ (f : NewFile). f.level ≤ LAST_LEVEL) v.files →
    IsPicked cmp v level p →
    IsUnion cmp (entries_of_inputs tables p) union →
    HoldKept v tables p (kept cmp r p.deeper union) after tables_after →
    (user : List ℕ) (at : ℕ) → is_read r at ≡ true → get_of after tables_after user at
    ≡ get_of v tables user at
