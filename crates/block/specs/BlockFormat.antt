-- The one block that is written of a list of entries.
use Rattle.std.specs.Prelude.{ℕ, ◌+◌, ◌%◌, nat_eq, ◌==◌, true, false, if◌then◌else◌, List, [], ◌∷◌}
use Rattle.std.specs.Prelude.{drop}
use Rattle.std.specs.List.{common_prefix_len}
use Rattle.block.specs.EncodedEntry.{Entry, EncodedEntry, block_bytes}

-- The encoded entry of the entry at a place, after the key `before`. At each multiple of the
-- interval it shares nothing and is a restart. Any other shares the longest common beginning with
-- the key before it.
abbrev pub encoded_entry_of : ℕ → ℕ → List ℕ → Entry → EncodedEntry
encoded_entry_of interval place before e =
    if place % interval == 0
    then record { is_restart = true; shared = 0; unshared = e.key; value = e.value }
    else record {
      is_restart = false;
      shared = common_prefix_len nat_eq before e.key;
      unshared = drop (common_prefix_len nat_eq before e.key) e.key;
      value = e.value;
    }

-- the encoded entries of entries, the first of them at place `place` and after the key `before`
abbrev pub encoded_entries_from : ℕ → ℕ → List ℕ → List Entry → List EncodedEntry
encoded_entries_from interval place before [] = []
encoded_entries_from interval place before (e ∷ es) =
    encoded_entry_of interval place before e ∷ encoded_entries_from interval (place + 1) e.key es

-- the block of a list at a restart interval
unfoldable pub block : ℕ → List Entry → List ℕ
block interval entries = block_bytes (encoded_entries_from interval 0 [] entries)
