-- The inputs of a compaction of a lawful version are closed: what stays beside or above them is
-- newer, and what lies below them is older.
use Rattle.std.specs.Prelude.{◌≡◌, ℕ, ◌+◌, ◌≤◌, ◌<◌, nat_eq, Bool, false, ◌&&◌, List, map, filter}
use Rattle.std.specs.Prelude.{Contains}
use Rattle.std.specs.List.{All, list_any}
use Rattle.ikey.specs.Key.{user_of}
use Rattle.ikey.specs.Comparator.{KeyOrder}
use Rattle.table.specs.EncodedEntry.{Entry}
use Rattle.edit.specs.Version.{State}
use Rattle.edit.specs.declared.meta.FileMeta.{FileMeta}
use Rattle.edit.specs.declared.meta.NewFile.{NewFile}
use Rattle.edit.specs.declared.meta.TheConstants.{LAST_LEVEL}
use Rattle.pick.specs.declared.picked_inputs.InputFile.{InputFile}
use Rattle.pick.specs.Ranges.{begins_by, ends_at_or_after, is_in_none}
use Rattle.pick.specs.PickedInputs.{PickedInputs, IsPicked}
use Rattle.reads.specs.Tables.{NumberedContents, table_entries}
use Rattle.reads.specs.Lawful.{AreNewer, IsLawful}

-- whether a file of this number is an input
abbrev pub is_input : PickedInputs → ℕ → Bool
is_input p number = list_any (λ (i : InputFile). nat_eq i.meta.number number) p.files

-- the inputs at the compaction's level
abbrev pub upper_inputs : PickedInputs → List FileMeta
upper_inputs p =
    map (λ (i : InputFile). i.meta) (filter (λ (i : InputFile). nat_eq i.level p.level) p.files)

-- whether a user key is in the range of files, from the least of their user keys to the greatest
abbrev pub is_within : KeyOrder → List FileMeta → List ℕ → Bool
is_within cmp files user = begins_by cmp files user && ends_at_or_after cmp files user

-- of each user key, a file's entries are newer than the inputs'
abbrev pub IsNewerThanInputs : List NumberedContents → PickedInputs → NewFile → Type 0
IsNewerThanInputs tables p f =
    All (λ (i : InputFile). AreNewer (table_entries tables f.meta.number)
    (table_entries tables i.meta.number)) p.files

-- of each user key, a file's entries are older than the inputs'
abbrev pub IsOlderThanInputs : List NumberedContents → PickedInputs → NewFile → Type 0
IsOlderThanInputs tables p f =
    All (λ (i : InputFile). AreNewer (table_entries tables i.meta.number)
    (table_entries tables f.meta.number)) p.files

-- Closed inputs of a compaction of a level:
pub record AreClosed (cmp : KeyOrder) (v : State) (tables : List NumberedContents)
    (p : PickedInputs) : Type 0 where
  -- a file of the level that stays has, of the inputs' user keys, only newer entries;
  pub same_level : (f : NewFile) → Contains v.files f → is_input p f.meta.number ≡ false →
      f.level ≡ p.level
      → IsNewerThanInputs tables p f
  -- a file of the next level that stays has no user key in the range of the level's inputs,
  pub next_level_apart : (f : NewFile) → Contains v.files f → is_input p f.meta.number ≡ false →
      f.level ≡ p.level + 1
      → All (λ (e : Entry). is_within cmp (upper_inputs p) (user_of e.key) ≡ false)
      (table_entries tables f.meta.number)
  -- and of the other inputs' user keys only newer entries;
  pub next_level : (f : NewFile) → Contains v.files f → is_input p f.meta.number ≡ false →
      f.level ≡ p.level + 1
      → IsNewerThanInputs tables p f
  -- files of shallower levels have only newer entries of them;
  pub shallower : (f : NewFile) → Contains v.files f → f.level < p.level →
      IsNewerThanInputs tables p f
  -- files of deeper levels have only older entries of them, and no user key that no deeper range
  -- holds.
  pub deeper : (f : NewFile) → Contains v.files f → p.level + 1 < f.level →
      IsOlderThanInputs tables p f
  pub at_base : (f : NewFile) → Contains v.files f → p.level + 1 < f.level
      → All (λ (e : Entry). is_in_none cmp p.deeper (user_of e.key) ≡ false)
      (table_entries tables f.meta.number)

-- the picked inputs of each lawful version are closed, if its files are at levels up to 6
abbrev pub ClosedInputs : KeyOrder → Type 0
ClosedInputs cmp =
    (v : State) (tables : List NumberedContents) (level : ℕ) (p : PickedInputs) →
    IsLawful cmp v tables → All (λ (f : NewFile). f.level ≤ LAST_LEVEL) v.files →
    IsPicked cmp v level p →
    AreClosed cmp v tables p
