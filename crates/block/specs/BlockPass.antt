-- One pass over the encoded entries of bytes that may be a block's, with the restarts beside it.
use Rattle.std.specs.Prelude.{◌≡◌, ℕ, ◌+◌, ◌-◌, ◌^◌, ◌<◌, ◌≤◌, List, [], ◌∷◌, ◌++◌, length, Some}
use Rattle.std.specs.List.{flat_map, AllByRecursion}
use Rattle.byteorder.specs.Endian.{little_bytes}
use Rattle.block.specs.EncodedEntry.{EncodedEntry, encoded_entry_bytes, restarts_from}
use Rattle.block.specs.EncodedEntry.{AreEncodedEntries, BeginsWithRestart}
use Rattle.block.specs.EntryFormat.{FieldReading, encoded_entry_at}
use Rattle.block.specs.BuilderState.{IsArea}
use Rattle.block.specs.BlockParts.{BeginsWith}

-- the length of the last key, if the key before these encoded entries has the length `before`
abbrev pub key_len_after : ℕ → List EncodedEntry → ℕ
key_len_after before [] = before
key_len_after before (p ∷ ps) = key_len_after (p.shared + length p.unshared) ps

-- each of the numbers is below the limit
abbrev pub AreBelowLimit : ℕ → List ℕ → Type 0
AreBelowLimit limit xs = AllByRecursion (λ x. x < limit) xs

-- what was read so far are lawful encoded entries with their restarts
pub record PassRead (area restarts rest pending : List ℕ) (key_len : ℕ) : Type 0 where
  pub done : List EncodedEntry
  pub pieces : AreEncodedEntries 0 done
  pub whole : area ≡ flat_map encoded_entry_bytes done ++ rest
  pub passed : restarts ≡ flat_map (little_bytes 4) (restarts_from 0 done) ++ pending
  pub last : key_len ≡ key_len_after 0 done
  pub fit : AreBelowLimit (2 ^ 32) (restarts_from 0 done)
  pub first : BeginsWithRestart done

-- what is still to be read are lawful encoded entries with their restarts
pub record PassAhead (rest pending : List ℕ) (key_len at : ℕ) : Type 0 where
  pub more : List EncodedEntry
  pub pieces : AreEncodedEntries key_len more
  pub whole : rest ≡ flat_map encoded_entry_bytes more
  pub to_pass : pending ≡ flat_map (little_bytes 4) (restarts_from at more)
  pub fit : AreBelowLimit (2 ^ 32) (restarts_from at more)

-- what one pass keeps: what it read is lawful, and if all bytes are of a block, so is what is left
pub record PassState (area restarts rest pending : List ℕ) (key_len : ℕ) : Type 0 where
  pub so_far : PassRead area restarts rest pending key_len
  pub ahead : IsArea area restarts → PassAhead rest pending key_len (length area - length rest)

-- The next encoded entry, and the restarts after it: it shares no more than the key before it has,
-- and a pass goes on after it.
pub record IsNextEncodedEntry (area rest pending : List ℕ) (key_len : ℕ)
    (x : FieldReading EncodedEntry) (others : List ℕ) : Type 0 where
  pub read : encoded_entry_at rest ≡ Some x
  pub shared : x.field.shared ≤ key_len
  pub kept : (restarts : List ℕ) → BeginsWith restarts 0 →
      PassState area restarts rest pending key_len →
      PassState area restarts x.rest others (x.field.shared + length x.field.unshared)
