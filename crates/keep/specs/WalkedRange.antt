-- How far a range was walked.
use Rattle.std.specs.Prelude.{◌≡◌, ℕ, ◌<◌, true, List, length, Option}
use Rattle.reads.specs.EncodedEntry.{Entry}
use Rattle.keep.specs.Versions.{EntryVersion, StoredVersion}
use Rattle.keep.specs.Runs.{Run}

-- the run so far, the version of the previous entry, and how many grandparents lie below the first
-- entry of its user key
pub record WalkedRange : Type 0 where
  pub run : Run
  pub last : Option EntryVersion
  pub passed : ℕ

-- if the previous entry was kept, an entry is kept
abbrev pub IsKeptLast : List Entry → StoredVersion → Type 0
IsKeptLast kept v = v.is_kept ≡ true → 0 < length kept
