-- The entries in a block's bytes before its restarts.
use Rattle.std.specs.Prelude.{◌≡◌, ℕ, zero, suc, List, [], ◌∷◌, length}
use Rattle.std.specs.List.{flat_map}
use Rattle.std.specs.Option.{option_map_or}
use Rattle.block.specs.EncodedEntry.{Entry, EncodedEntry, encoded_entry_bytes, key_after}
use Rattle.block.specs.EncodedEntry.{AreEncodedEntries}
use Rattle.block.specs.EntryFormat.{encoded_entry_at}

-- the entries of at most n encoded entries, the first of which comes after the key `before`
abbrev pub entries_of_bytes : ℕ → List ℕ → List ℕ → List Entry
entries_of_bytes zero before bytes = []
entries_of_bytes (suc n) before bytes =
    option_map_or
    (λ p. record { key = key_after before p.field; value = p.field.value } ∷ entries_of_bytes n
    (key_after before p.field) p.rest) (encoded_entry_at bytes) []

-- the entries after the key `before`, up to the first bytes that are no encoded entry
abbrev pub entries_of_encoded : List ℕ → List ℕ → List Entry
entries_of_encoded before bytes = entries_of_bytes (length bytes) before bytes

-- the bytes are encoded entries, the first of which comes after the key `before`
abbrev pub AreEncodedEntriesAfter : List ℕ → List ℕ → Type 0
AreEncodedEntriesAfter before rest = (ps : List EncodedEntry) × AreEncodedEntries (length before) ps
    × (rest ≡ flat_map encoded_entry_bytes ps)
