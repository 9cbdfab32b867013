-- What the bounds of tables tell of their entries, without a walk.
use Rattle.std.specs.Prelude.{◌≡◌, ◌↔◌, nat_lt, Bool, true, false, ◌||◌, List, [], ◌∷◌, ◌++◌}
use Rattle.std.specs.Prelude.{Contains, None}
use Rattle.std.specs.Ordering.{is_lt}
use Rattle.table.specs.EncodedEntry.{Entry}
use Rattle.reads.specs.BuilderView.{last_key}
use Rattle.ikey.specs.Comparator.{KeyOrder}
use Rattle.ikey.specs.Key.{user_of}
use Rattle.reads.specs.MergedLists.{entries_of_lists}
use Rattle.split.specs.Ranges.{KeyRange, IsIn}
use Rattle.table.specs.EntriesFrom.{EntriesRise}
use Rattle.table.specs.EntryTests.{HaveInternalKeys, first_key}
use Rattle.table.specs.Tallies.{has_twins, least_sequence, greatest_sequence}
use Rattle.reads.specs.Lawful.{AreNewer}
use Rattle.reads.specs.TableOrder.{AreFalling, AreFallingIn}

-- what is known of the entries of a checked table: their keys are internal keys, and rise
pub record AreCheckedEntries (cmp : KeyOrder) (entries : List Entry) : Type 0 where
  pub keys : HaveInternalKeys entries
  pub rising : EntriesRise cmp entries

-- whether the last user key of the first entries is below the first of the second
abbrev pub are_below : KeyOrder → List Entry → List Entry → Bool
are_below cmp first second = is_lt (cmp (user_of (last_key [] first)) (user_of (first_key second)))

-- Whether bounds tell that each of the first entries is newer than each of the second. They do if
-- the sequences of the second are all below those of the first, or the user keys of one are all
-- below those of the other.
abbrev pub bounds_tell_apart : KeyOrder → List Entry → List Entry → Bool
bounds_tell_apart cmp newer older = nat_lt (greatest_sequence older) (least_sequence newer)
    || are_below cmp newer older || are_below cmp older newer

-- A table among others falls itself, each of those before it is newer, and it is newer than each of
-- those after it.
pub record IsApartFromOthers (before : List (List Entry)) (entries : List Entry)
    (behind : List (List Entry)) : Type 0 where
  pub falling : AreFalling entries
  pub below : (other : List Entry) → Contains before other → AreNewer other entries
  pub above : (other : List Entry) → Contains behind other → AreNewer entries other

-- in each range of user keys the entries of the first lists fall exactly if those of the second do
abbrev pub FallAlike : KeyOrder → List (List Entry) → List (List Entry) → Type 0
FallAlike cmp lists others = (range : KeyRange) →
    AreFallingIn (IsIn cmp range) (entries_of_lists lists)
    ↔ AreFallingIn (IsIn cmp range) (entries_of_lists others)

-- The law of bounds: why a table that they tell apart from all others needs no walk.
pub record BoundsTell (cmp : KeyOrder) : Type 0 where
  pub alone : (entries : List Entry) → AreCheckedEntries cmp entries →
      has_twins None entries ≡ false →
      AreFalling entries
  pub apart : (newer older : List Entry) → AreCheckedEntries cmp newer →
      AreCheckedEntries cmp older →
      bounds_tell_apart cmp newer older ≡ true → AreNewer newer older
  pub left_out : (before : List (List Entry)) (entries : List Entry) (behind : List (List Entry)) →
      IsApartFromOthers before entries behind → FallAlike cmp (before ++ behind)
      (before ++ entries ∷ behind)
