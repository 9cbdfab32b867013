-- The tests of a block, and the entries that a reader answers.
use Rattle.std.specs.Prelude.{◌≡◌, ℕ, zero, suc, ◌+◌, ◌-◌, ◌*◌, ◌^◌, nat_eq, nat_le, nat_lt, Bool}
use Rattle.std.specs.Prelude.{true, false, ◌&&◌, ◌||◌, not, if◌then◌else◌, List, [], ◌∷◌, length}
use Rattle.std.specs.Prelude.{take, drop, Result, Ok, Err}
use Rattle.std.specs.List.{list_all}
use Rattle.std.specs.Option.{option_map_or}
use Rattle.std.specs.Str.{bytes_eq}
use Rattle.byteorder.specs.Endian.{little_number}
use Rattle.coding.specs.Answers.{fault}
use Rattle.coding.specs.declared.fault.Fault.{Fault}
use Rattle.coding.specs.declared.fault.FaultName.TheVariants.{Block}
use Rattle.block.specs.EncodedEntry.{Entry, EncodedEntry, encoded_entry_bytes, entries_after}
use Rattle.block.specs.EncodedEntry.{restarts_of, block_bytes, IsBlock}
use Rattle.block.specs.EntryFormat.{encoded_entry_at}
use Rattle.block.specs.BlockView.{numbers_in}

-- the count of restarts, in the last four bytes
abbrev pub restart_count : List ℕ → ℕ
restart_count bytes = little_number 4 (drop (length bytes - 4) bytes)

-- the length of the bytes before the restarts
abbrev pub area_len : List ℕ → ℕ
area_len bytes = length bytes - (4 * restart_count bytes + 4)

-- the restarts
abbrev pub restarts_in : List ℕ → List ℕ
restarts_in bytes = numbers_in (take (4 * restart_count bytes) (drop (area_len bytes) bytes))

-- whether the next restart is this offset
abbrev pub is_next : List ℕ → ℕ → Bool
is_next [] at = false
is_next (restart ∷ restarts) at = nat_eq restart at

-- the restarts after this offset
abbrev pub restarts_from_place : List ℕ → ℕ → List ℕ
restarts_from_place restarts at = if is_next restarts at then drop 1 restarts else restarts

-- the encoded entry, with whether a restart points at it
abbrev pub with_mark : Bool → EncodedEntry → EncodedEntry
with_mark is_restart p =
    record { is_restart = is_restart; shared = p.shared; unshared = p.unshared; value = p.value }

-- at most n encoded entries at the front of bytes, the first of them at offset `at`, with these
-- restarts
abbrev pub encoded_entries_in : ℕ → ℕ → List ℕ → List ℕ → List EncodedEntry
encoded_entries_in zero at restarts bytes = []
encoded_entries_in (suc n) at restarts bytes =
    option_map_or
    (λ p. with_mark (is_next restarts at) p.field ∷ encoded_entries_in n
    (at + length (encoded_entry_bytes p.field)) (restarts_from_place restarts at) p.rest)
    (encoded_entry_at bytes) []

-- the encoded entries in the bytes, up to the first bytes that are no encoded entry
unfoldable pub encoded_entries_of : List ℕ → List EncodedEntry
encoded_entries_of bytes = encoded_entries_in (area_len bytes) 0 (restarts_in bytes)
    (take (area_len bytes) bytes)

-- whether an encoded entry may come after a key of length `before`
abbrev pub is_encoded_entry_after : ℕ → EncodedEntry → Bool
is_encoded_entry_after before p =
    nat_le p.shared before && (not p.is_restart || nat_eq p.shared 0) && nat_lt p.shared (2 ^ 32)
    && nat_lt (length p.unshared) (2 ^ 32) && nat_lt (length p.value) (2 ^ 32)

-- whether each encoded entry may come after the key before it, the first after a key of length
-- `before`
abbrev pub are_encoded_entries : ℕ → List EncodedEntry → Bool
are_encoded_entries before [] = true
are_encoded_entries before (p ∷ ps) = is_encoded_entry_after before p
    && are_encoded_entries (p.shared + length p.unshared) ps

-- whether a restart points at the first encoded entry, if there is one
abbrev pub begins_with_restart : List EncodedEntry → Bool
begins_with_restart [] = true
begins_with_restart (p ∷ ps) = p.is_restart

-- whether the encoded entries are those of a block
abbrev pub are_of_block : List EncodedEntry → Bool
are_of_block ps = are_encoded_entries 0 ps && begins_with_restart ps
    && list_all (λ restart. nat_lt restart (2 ^ 32)) (length (restarts_of ps) ∷ restarts_of ps)

-- The entries of the bytes as a block, or Block: the encoded entries in them have to be those of a
-- block, and their block has to be the bytes.
unfoldable pub block_reading : List ℕ → Result (List Entry) Fault
block_reading bytes =
    if are_of_block (encoded_entries_of bytes)
    && bytes_eq bytes (block_bytes (encoded_entries_of bytes)) then Ok
    (entries_after [] (encoded_entries_of bytes)) else Err (fault Block)

-- bytes read as a list of entries exactly if they are a block of it
pub record ReadsBlocks : Type 0 where
  pub found : (bytes : List ℕ) (entries : List Entry) → block_reading bytes ≡ Ok entries →
      IsBlock bytes entries
  pub only : (bytes : List ℕ) (entries : List Entry) → IsBlock bytes entries →
      block_reading bytes ≡ Ok entries
