-- Of the entries of a user key in a lawful version, those of the inputs of a compaction are
-- together.
use Rattle.std.specs.Prelude.{◌≡◌, ℕ, zero, suc, ◌+◌, ◌-◌, ◌≤◌, true, not, List, [], ◌++◌, filter}
use Rattle.std.specs.Prelude.{fold}
use Rattle.std.specs.List.{All, flat_map}
use Rattle.std.specs.Str.{bytes_eq}
use Rattle.std.specs.BTreeSet.{insert_key}
use Rattle.ikey.specs.Key.{user_of}
use Rattle.ikey.specs.Comparator.{KeyOrder}
use Rattle.table.specs.EncodedEntry.{Entry}
use Rattle.edit.specs.Version.{State}
use Rattle.edit.specs.VersionOrder.{files_at, level_files}
use Rattle.edit.specs.declared.meta.FileMeta.{FileMeta}
use Rattle.edit.specs.declared.meta.NewFile.{NewFile}
use Rattle.edit.specs.declared.meta.TheConstants.{LAST_LEVEL, LEVELS}
use Rattle.pick.specs.declared.picked_inputs.InputFile.{InputFile}
use Rattle.pick.specs.Ranges.{is_in_none}
use Rattle.pick.specs.PickedInputs.{PickedInputs, IsPicked}
use Rattle.reads.specs.FileList.{newer_number}
use Rattle.reads.specs.Gets.{get_of}
use Rattle.reads.specs.Lawful.{IsLawful}
use Rattle.reads.specs.NewestFirst.{SequencesFall, AreOf, AreThoseOf, answer_at}
use Rattle.reads.specs.Tables.{NumberedContents, table_entries, all_entries}
use Rattle.compact.specs.ClosedInputs.{is_input}

-- the files of a level in the order of reading: those of level 0 by falling number, those of each
-- other level in version order
abbrev pub level_read : KeyOrder → State → ℕ → List FileMeta
level_read cmp v zero = fold (insert_key newer_number) [] (files_at v.files 0)
level_read cmp v (suc n) = level_files cmp v (suc n)

-- the files of n levels from this one on, level by level
unfoldable pub files_read : KeyOrder → State → ℕ → ℕ → List FileMeta
files_read cmp v level zero = []
files_read cmp v level (suc n) = level_read cmp v level ++ files_read cmp v (level + 1) n

-- the entries of a user key in files that are read in this order
abbrev pub entries_read : List NumberedContents → List ℕ → List FileMeta → List Entry
entries_read tables user files =
    filter (λ e. bytes_eq (user_of e.key) user)
    (flat_map (λ f. table_entries tables f.number) files)

-- the files above the inputs: those of the levels down to the inputs' lower one that stay
abbrev pub files_above : KeyOrder → State → PickedInputs → List FileMeta
files_above cmp v p = filter (λ f. not (is_input p f.number)) (files_read cmp v 0 (p.level + 2))

-- the inputs, as they are read
abbrev pub files_taken : KeyOrder → State → PickedInputs → List FileMeta
files_taken cmp v p = filter (λ f. is_input p f.number) (files_read cmp v 0 (p.level + 2))

-- the files below the inputs: all of deeper levels
abbrev pub files_below : KeyOrder → State → PickedInputs → List FileMeta
files_below cmp v p = files_read cmp v (p.level + 2) (5 - p.level)

-- the entries of a user key in the files above the inputs, in the inputs, and below them
abbrev pub entries_above : KeyOrder → State → List NumberedContents → PickedInputs → List ℕ →
    List Entry
entries_above cmp v tables p user = entries_read tables user (files_above cmp v p)

abbrev pub entries_taken : KeyOrder → State → List NumberedContents → PickedInputs → List ℕ →
    List Entry
entries_taken cmp v tables p user = entries_read tables user (files_taken cmp v p)

abbrev pub entries_below : KeyOrder → State → List NumberedContents → PickedInputs → List ℕ →
    List Entry
entries_below cmp v tables p user = entries_read tables user (files_below cmp v p)

-- all of them
abbrev pub entries_together : KeyOrder → State → List NumberedContents → PickedInputs → List ℕ →
    List Entry
entries_together cmp v tables p user = entries_above cmp v tables p user
    ++ (entries_taken cmp v tables p user ++ entries_below cmp v tables p user)

-- The entries of a user key in a version's files:
pub record StandTogether (cmp : KeyOrder) (v : State) (tables : List NumberedContents)
    (p : PickedInputs) (user : List ℕ) : Type 0 where
  -- as they are read they are those above the inputs, those of the inputs, and those below;
  pub read : entries_read tables user (files_read cmp v 0 LEVELS)
      ≡ entries_together cmp v tables p user
  -- their sequences fall;
  pub falls : SequencesFall (entries_together cmp v tables p user)
  -- those of the inputs are all that the inputs have of the user key, and the others all that the
  -- files have that stay;
  pub of_inputs : AreThoseOf user
      (flat_map (λ (i : InputFile). table_entries tables i.meta.number) p.files)
      (entries_taken cmp v tables p user)
  pub of_user : AreOf user (entries_taken cmp v tables p user)
  pub of_others : AreThoseOf user
      (all_entries tables (filter (λ f. not (is_input p f.meta.number)) v.files))
      (entries_above cmp v tables p user ++ entries_below cmp v tables p user)
  -- there are none below if no deeper file's range holds the user key;
  pub at_base : is_in_none cmp p.deeper user ≡ true → entries_below cmp v tables p user ≡ []
  -- and what the version answers of the user key is what they answer, the newest first.
  pub answers : (at : ℕ) → get_of v tables user at
      ≡ answer_at at (entries_together cmp v tables p user)

-- so they are in each lawful version with files at levels up to 6 and picked inputs
abbrev pub InputsStandTogether : KeyOrder → Type 0
InputsStandTogether cmp =
    (v : State) (tables : List NumberedContents) (level : ℕ) (p : PickedInputs) (user : List ℕ) →
    IsLawful cmp v tables → All (λ (f : NewFile). f.level ≤ LAST_LEVEL) v.files →
    IsPicked cmp v level p → StandTogether cmp v tables p user
