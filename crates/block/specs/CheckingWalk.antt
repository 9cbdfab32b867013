-- A place in bytes that may be a block: the entry there, and what is known of the bytes before it.
use Rattle.std.specs.Prelude.{◌≡◌, ◌≢◌, ℕ, Bool, true, false, if◌then◌else◌, List, [], ◌∷◌, length}
use Rattle.block.specs.EntriesOfBytes.{entries_of_encoded}
use Rattle.block.specs.BuilderState.{IsArea}
use Rattle.block.specs.BlockParts.{BeginsWith, HasBlockParts}
use Rattle.block.specs.BlockPass.{PassState}
use Rattle.block.specs.CheckedBytes.{BlockChecking}
use Rattle.block.specs.declared.checking_cursor.CheckingCursor.TheInside.{Inside}

-- the bytes, all entries before the restarts, and those from the place on
abbrev pub checking_of : Inside → BlockChecking
checking_of c = record {
  bytes = c.bytes.now;
  all = entries_of_encoded [] c.area.now;
  ahead = if c.valid then record { key = c.key; value = c.value.now } ∷ entries_of_encoded
      c.key c.rest.now else [];
}

-- The bytes up to the place pass the tests. If no entry is there, all of them do.
pub record Passes (bytes area rest pending key : List ℕ) (valid : Bool) : Type 0 where
  pub restarts : List ℕ
  pub split : HasBlockParts bytes area restarts
  pub begins : BeginsWith restarts 0
  pub some : valid ≡ true → area ≢ []
  pub walks : valid ≡ true → PassState area restarts rest pending (length key)
  pub ended : valid ≡ false → IsArea area restarts

-- the bytes of a checking cursor up to its place pass the tests
abbrev pub IsTesting : Inside → Type 0
IsTesting c = Passes c.bytes.now c.area.now c.rest.now c.pending.now c.key c.valid
