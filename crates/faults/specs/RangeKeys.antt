-- The user keys of a range.
use Rattle.std.specs.Prelude.{◌≡◌, ℕ, zero, suc, true, List, [], ◌++◌, filter}
use Rattle.std.specs.List.{All}
use Rattle.table.specs.Comparator.{KeyOrder}
use Rattle.reads.specs.Ranges.{KeyRange, range_at}
use Rattle.folder.specs.meta.FileMeta.{FileMeta}
use Rattle.folder.specs.Calls.{Files}
use Rattle.merge.specs.InRange.{entries_in, is_in_range}
use Rattle.reads.specs.Tables.{NumberedContents}
use Rattle.faults.specs.VersionFault.{MisplacedKey}
use Rattle.faults.specs.KeyFaults.{FileEntries, is_sound}

-- the tables of these files are what the version states of them
abbrev pub AreSoundIn : KeyOrder → Files → List FileMeta → Type 0
AreSoundIn cmp files metas = All (λ f. is_sound cmp files f ≡ true) metas

-- A cursor over a table: `f` has its number and the entries still to come. In the range these are
-- all entries of the table.
pub record IsCursorOf (cmp : KeyOrder) (range : KeyRange) (t : NumberedContents) (f : FileEntries)
    : Type 0 where
  pub number : f.number ≡ t.number
  pub held : entries_in cmp range f.entries ≡ entries_in cmp range t.contents.entries

-- those of the user keys that are in a range
abbrev pub keys_in : KeyOrder → KeyRange → List MisplacedKey → List MisplacedKey
keys_in cmp range keys = filter (λ k. is_in_range cmp range k.user) keys

-- the same of n ranges, from the i-th of a split on
abbrev pub keys_from : KeyOrder → List (List ℕ) → List MisplacedKey → ℕ → ℕ → List MisplacedKey
keys_from cmp boundaries keys i zero = []
keys_from cmp boundaries keys i (suc n) = keys_in cmp (range_at boundaries i) keys
    ++ keys_from cmp boundaries keys (suc i) n
