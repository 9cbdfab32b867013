-- What a block is made of: encoded entries, then restarts, then the count of restarts.
use Rattle.std.specs.Prelude.{◌≡◌, ℕ, ◌+◌, ◌<◌, ◌≤◌, ◌^◌, Bool, true, if◌then◌else◌, List, [], ◌∷◌}
use Rattle.std.specs.Prelude.{◌++◌, length, take}
use Rattle.std.specs.List.{flat_map, AllByRecursion}
use Rattle.byteorder.specs.Endian.{little_bytes}
use Rattle.coding.specs.Varint.{varint}

-- a key and its value
pub record Entry : Type 0 where
  pub key : List ℕ
  pub value : List ℕ

-- An entry as it is stored in a block: how many bytes of the key before it begin its key, the other
-- bytes of its key, and its value. And whether a restart points at it.
pub record EncodedEntry : Type 0 where
  pub is_restart : Bool
  pub shared : ℕ
  pub unshared : List ℕ
  pub value : List ℕ

-- an entry's bytes: three lengths, the unshared bytes of its key, and its value
abbrev pub encoded_entry_bytes : EncodedEntry → List ℕ
encoded_entry_bytes p = varint p.shared
    ++ (varint (length p.unshared) ++ (varint (length p.value) ++ (p.unshared ++ p.value)))

-- the key of an encoded entry after the key `before`: its shared first bytes, then the unshared
-- ones
abbrev pub key_after : List ℕ → EncodedEntry → List ℕ
key_after before p = take p.shared before ++ p.unshared

-- the entries of encoded entries, the first of which comes after the key `before`
abbrev pub entries_after : List ℕ → List EncodedEntry → List Entry
entries_after before [] = []
entries_after before (p ∷ ps) = record { key = key_after before p; value = p.value } ∷ entries_after
    (key_after before p) ps

-- the offsets of the encoded entries that restarts point at, the first encoded entry being at
-- offset `at`
abbrev pub restarts_from : ℕ → List EncodedEntry → List ℕ
restarts_from at [] = []
restarts_from at (p ∷ ps) = (if p.is_restart then at ∷ [] else [])
    ++ restarts_from (at + length (encoded_entry_bytes p)) ps

-- the restarts of a block; without entries it has the one restart 0
abbrev pub restarts_of : List EncodedEntry → List ℕ
restarts_of [] = 0 ∷ []
restarts_of (p ∷ ps) = restarts_from 0 (p ∷ ps)

-- the restarts and their count, four bytes each, the lowest first
abbrev pub restart_bytes : List ℕ → List ℕ
restart_bytes restarts = flat_map (little_bytes 4) restarts ++ little_bytes 4 (length restarts)

-- the bytes of a block of these encoded entries
abbrev pub block_bytes : List EncodedEntry → List ℕ
block_bytes ps = flat_map encoded_entry_bytes ps ++ restart_bytes (restarts_of ps)

-- An encoded entry that may come after a key of length `before`: it shares no more than that, and
-- nothing if a restart points at it. Its three lengths are below 2 ^ 32.
pub record IsEncodedEntryAfter (before : ℕ) (p : EncodedEntry) : Type 0 where
  pub shared : p.shared ≤ before
  pub restart : p.is_restart ≡ true → p.shared ≡ 0
  pub shared_fits : p.shared < 2 ^ 32
  pub unshared_fits : length p.unshared < 2 ^ 32
  pub value_fits : length p.value < 2 ^ 32

-- each encoded entry may come after the key before it, the first after a key of length `before`
abbrev pub AreEncodedEntries : ℕ → List EncodedEntry → Type 0
AreEncodedEntries before [] = Unit {0}
AreEncodedEntries before (p ∷ ps) = IsEncodedEntryAfter before p
    × AreEncodedEntries (p.shared + length p.unshared) ps

-- a restart points at the first encoded entry, if there is one
abbrev pub BeginsWithRestart : List EncodedEntry → Type 0
BeginsWithRestart [] = Unit {0}
BeginsWithRestart (p ∷ ps) = p.is_restart ≡ true

-- The encoded entries of a block: a restart points at the first, and the restarts and their count
-- have four bytes each.
pub record AreOfBlock (ps : List EncodedEntry) : Type 0 where
  pub pieces : AreEncodedEntries 0 ps
  pub first : BeginsWithRestart ps
  pub restarts : AllByRecursion (λ restart. restart < 2 ^ 32)
      (length (restarts_of ps) ∷ restarts_of ps)

-- The bytes are a block of these entries, with any lawful sharing and any lawful restarts. A
-- cross-check of `block_reading`, which takes encoded entries out of the bytes: this says that
-- there are some whose block the bytes are. `reads_blocks` is the law that both agree. Both rest on
-- `block_bytes` and `entries_after`.
abbrev pub IsBlock : List ℕ → List Entry → Type 0
IsBlock bytes entries = (ps : List EncodedEntry) × AreOfBlock ps × (bytes ≡ block_bytes ps)
    × (entries_after [] ps ≡ entries)
