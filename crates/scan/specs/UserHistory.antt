-- All entries of a user key in a table.
use Rattle.std.specs.Prelude.{◌≡◌, ℕ, ◌<◌, List, AllPairs, Contains}
use Rattle.block.specs.EncodedEntry.{Entry}
use Rattle.table.specs.Key.{kind_of, sequence_of, user_of}

-- one of these entries has this user key, and the same sequence, kind and value as what was found
pub record IsEntryOf (user : List ℕ) (entries : List Entry) (found : Entry) : Type 0 where
  pub entry : Entry
  pub there : Contains entries entry
  pub own : user_of entry.key ≡ user
  pub sequence : sequence_of entry.key ≡ sequence_of found.key
  pub kind : kind_of entry.key ≡ kind_of found.key
  pub value : entry.value ≡ found.value

-- What was found are the entries of a user key: each sequence that an entry of the key has is
-- there, with the kind and the value of such an entry, and nothing else is. The newest comes first,
-- and no sequence comes twice.
pub record AreEntriesOf (user : List ℕ) (entries found : List Entry) : Type 0 where
  pub each : (e : Entry) → Contains entries e → user_of e.key ≡ user →
      (own : Entry) × Contains found own × (sequence_of own.key ≡ sequence_of e.key)
  pub only : (own : Entry) → Contains found own → IsEntryOf user entries own
  pub newest : AllPairs (λ a b. sequence_of b.key < sequence_of a.key) found
