-- All entries of a user key in the files of a version.
use Rattle.std.specs.Prelude.{◌≡◌, ℕ, ◌≤◌, ◌<◌, List, AllPairs, Contains}
use Rattle.block.specs.EncodedEntry.{Entry}
use Rattle.folder.specs.meta.NewFile.{NewFile}
use Rattle.reads.specs.Tables.{NumberedContents, table_entries}
use Rattle.scan.specs.UserHistory.{IsEntryOf}
use Rattle.scan.specs.declared.placed_entry.PlacedEntry.{PlacedEntry}
use Rattle.table.specs.Key.{sequence_of, user_of}

-- this was found of an entry of a file: it has the file's level and number
pub record IsFoundOf (f : NewFile) (e : Entry) (own : PlacedEntry) : Type 0 where
  pub level : own.level ≡ f.level
  pub file : own.file ≡ f.meta.number
  pub sequence : sequence_of own.entry.key ≡ sequence_of e.key

-- one of these files has an entry of this user key, with the same sequence, kind and value as what
-- was found
pub record IsPlacedIn (user : List ℕ) (tables : List NumberedContents) (files : List NewFile)
    (own : PlacedEntry) : Type 0 where
  pub source : NewFile
  pub there : Contains files source
  pub level : own.level ≡ source.level
  pub file : own.file ≡ source.meta.number
  pub is : IsEntryOf user (table_entries tables source.meta.number) own.entry

-- What was found are the entries of a user key in these files: each sequence that an entry of the
-- key has in a file is there, with that file, and with the kind and the value of such an entry.
-- Nothing else is.
pub record ArePlaced (user : List ℕ) (tables : List NumberedContents) (files : List NewFile)
    (found : List PlacedEntry) : Type 0 where
  pub each : (f : NewFile) → Contains files f → (e : Entry) →
      Contains (table_entries tables f.meta.number) e → user_of e.key ≡ user →
      (own : PlacedEntry) × Contains found own × IsFoundOf f e own
  pub only : (own : PlacedEntry) → Contains found own → IsPlacedIn user tables files own

-- an entry comes before another one: it isn't older, and it is newer if one file has both
pub record ComesBefore (a b : PlacedEntry) : Type 0 where
  pub newer : sequence_of b.entry.key ≤ sequence_of a.entry.key
  pub own : a.file ≡ b.file → sequence_of b.entry.key < sequence_of a.entry.key

-- the same, the newest first, and no sequence of a file twice
pub record AreHistory (user : List ℕ) (tables : List NumberedContents) (files : List NewFile)
    (found : List PlacedEntry) : Type 0 where
  pub all : ArePlaced user tables files found
  pub newest : AllPairs ComesBefore found
