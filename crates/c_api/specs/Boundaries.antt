-- Boundaries between ranges, chosen of the indexes of the inputs' tables.
use Rattle.std.specs.Prelude.{◌≡◌, ◌⊎◌, ℕ, ◌<◌, nat_eq, nat_le, Bool, ◌&&◌, if◌then◌else◌}
use Rattle.std.specs.Prelude.{MatchBool, List, [], ◌∷◌, ◌++◌, length, map, drop, flat_map, Result}
use Rattle.std.specs.Prelude.{Ok, Err}
use Rattle.ikey.specs.fault.Fault.{Fault}
use Rattle.ikey.specs.fault.FaultName.TheVariants.{SplitCount}
use Rattle.ikey.specs.Bytewise.{bytewise_cmp}
use Rattle.ikey.specs.Shortlex.{shortlex_cmp}
use Rattle.ikey.specs.Comparator.{KeyOrder}
use Rattle.table.specs.TableContents.{Contents, contents_reading}
use Rattle.table.specs.TestResult.{test_result}
use Rattle.split.specs.SplitChoice.{IsChoice, index_sample_of}
use Rattle.split.specs.declared.split.TheConstants.{MAX_RANGES}
use Rattle.c_api.specs.Codes.{coded}
use Rattle.c_api.specs.Merges.{are_inputs}
use Rattle.c_api.specs.Orders.{by_order}
use Rattle.c_api.specs.Places.{part_at}
use Rattle.c_api.specs.Rooms.{IsRefused}
use Rattle.c_api.specs.declared.code.TheConstants.{MEMORY, MISUSE, ROOM}
use Rattle.c_api.specs.declared.input.Input.{Input}
use Rattle.c_api.specs.declared.key_arrays.KeysSize.{KeysSize}
use Rattle.c_api.specs.declared.lent.Lent.{Lent}
use Rattle.c_api.specs.declared.order.TheConstants.{BYTEWISE}

-- boundaries that are asked for
pub record AskedBoundaries : Type 0 where
  pub order : ℕ
  pub keys : List ℕ
  pub tables : List ℕ
  pub inputs : List Input
  pub want : ℕ

-- what is lent, as boundaries that are asked for
abbrev pub boundaries_in : Lent → ℕ → AskedBoundaries
boundaries_in l want = record {
  order = l.request.order;
  keys = l.keys.now;
  tables = l.tables.now;
  inputs = l.inputs.now;
  want = want;
}

-- what a table has that was read, nothing if some test failed
abbrev pub contents_read : Result Contents Fault → List Contents
contents_read (Ok t) = t ∷ []
contents_read (Err e) = []

-- the table of an input
abbrev pub contents_at : KeyOrder → List ℕ → Input → List Contents
contents_at cmp tables i = contents_read (contents_reading cmp (part_at tables i.table))

-- the tables of inputs
abbrev pub tables_read : KeyOrder → List ℕ → List Input → List Contents
tables_read cmp tables inputs = flat_map (contents_at cmp tables) inputs

-- boundaries for so many ranges: fewer than these, and the only choice of a sample of the user keys
-- of the tables' indexes
abbrev pub AreChosen : KeyOrder → AskedBoundaries → List (List ℕ) → Type 0
AreChosen cmp m boundaries = (length boundaries < m.want)
    × IsChoice cmp (index_sample_of m.want (tables_read cmp m.tables m.inputs)) m.want boundaries

-- the same in the order of its number, BYTEWISE or SHORTLEX
abbrev pub AreBoundaries : AskedBoundaries → List (List ℕ) → Type 0
AreBoundaries m boundaries = MatchBool (nat_eq m.order BYTEWISE)
    (AreChosen bytewise_cmp m boundaries) (AreChosen shortlex_cmp m boundaries)

-- SplitCount unless 1 to 4,096 ranges are wanted
abbrev pub count_test : AskedBoundaries → KeyOrder → Result (Unit {0}) Fault
count_test m cmp = test_result (nat_le 1 m.want && nat_le m.want MAX_RANGES) SplitCount

-- the tests of what is asked: MISUSE if an input isn't all lent; Comparator; SplitCount
abbrev pub boundaries_test : AskedBoundaries → Result (Unit {0}) ℕ
boundaries_test m = if are_inputs m.keys m.tables m.inputs
    then coded (by_order m.order (count_test m)) else Err MISUSE

-- user keys in arrays: their bytes one after the other, and how long each is
pub record KeyArrays : Type 0 where
  pub bytes : List ℕ
  pub lengths : List ℕ

-- arrays with these items
abbrev pub key_arrays : List ℕ → List ℕ → KeyArrays
key_arrays bytes lengths = record { bytes = bytes; lengths = lengths }

-- the arrays of keys
abbrev pub arrays_of_keys : List (List ℕ) → KeyArrays
arrays_of_keys keys = key_arrays (flat_map (λ key. key) keys) (map length keys)

-- how much room they take
abbrev pub size_of_keys : KeyArrays → KeysSize
size_of_keys a = record { bytes = length a.bytes; keys = length a.lengths }

-- whether rooms are large enough for them
abbrev pub have_room : KeyArrays → KeyArrays → Bool
have_room rooms a = nat_le (length a.bytes) (length rooms.bytes)
    && nat_le (length a.lengths) (length rooms.lengths)

-- rooms that begin with these arrays
abbrev pub rooms_after : KeyArrays → KeyArrays → KeyArrays
rooms_after old a = key_arrays (a.bytes ++ drop (length a.bytes) old.bytes)
    (a.lengths ++ drop (length a.lengths) old.lengths)

-- the call's number, the rooms and the size say these arrays: 0, and each room begins with its
-- array; or ROOM if a room is too small, and both are unchanged
abbrev pub AreKeysPut : ℕ → KeyArrays → KeyArrays → KeysSize → KeyArrays → Type 0
AreKeysPut code old new size a = (size ≡ size_of_keys a)
    × MatchBool (have_room old a) ((code ≡ 0) × (new ≡ rooms_after old a))
    ((code ≡ ROOM) × (new ≡ old))

-- they say boundaries of what is asked, or the first test that it fails
abbrev pub AreBoundariesWritten : AskedBoundaries → Result (Unit {0}) ℕ → ℕ → KeyArrays → KeyArrays
    → KeysSize → KeysSize → Type 0
AreBoundariesWritten m (Ok none) code old new size_old size_new =
    (boundaries : List (List ℕ)) × AreBoundaries m boundaries
    × AreKeysPut code old new size_new (arrays_of_keys boundaries)
AreBoundariesWritten m (Err n) code old new size_old size_new =
    IsRefused code old new size_old size_new n

-- the same, or 99 for want of memory, and nothing is changed
abbrev pub AreBoundariesWrittenOrMemory : AskedBoundaries → ℕ → KeyArrays → KeyArrays → KeysSize →
    KeysSize → Type 0
AreBoundariesWrittenOrMemory m code old new size_old size_new =
    AreBoundariesWritten m (boundaries_test m) code old new size_old size_new
    ⊎ IsRefused code old new size_old size_new MEMORY
