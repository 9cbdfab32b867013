-- The state of a block: of one that was checked, and of one that is being written.
use Rattle.std.specs.Prelude.{◌≡◌, ℕ, ◌%◌, ◌≤◌, List, [], map, length, take}
use Rattle.std.specs.List.{flat_map}
use Rattle.byteorder.specs.Endian.{little_bytes}
use Rattle.block.specs.EncodedEntry.{Entry, EncodedEntry, AreOfBlock, encoded_entry_bytes}
use Rattle.block.specs.EncodedEntry.{restarts_from, restarts_of}
use Rattle.block.specs.BlockFormat.{encoded_entries_from, block}
use Rattle.block.specs.BuilderView.{last_key}
use Rattle.block.specs.BlockView.{BlockView, numbers_in}
use Rattle.block.specs.EntriesOfBytes.{entries_of_encoded}
use Rattle.block.specs.declared.builder.TheConstants.{MAX_BLOCK_LEN, MAX_RESTART_INTERVAL}

-- the bytes before the restarts, and those of the restarts, are of a block
abbrev pub IsArea : List ℕ → List ℕ → Type 0
IsArea area restarts = (ps : List EncodedEntry) × AreOfBlock ps
    × (area ≡ flat_map encoded_entry_bytes ps)
    × (restarts ≡ flat_map (little_bytes 4) (restarts_of ps))

-- how many entries come before this offset
abbrev pub entries_before : List ℕ → ℕ → ℕ
entries_before area offset = length (entries_of_encoded [] (take offset area))

-- the block that these bytes before the restarts and these restarts are
abbrev pub sound_in : List ℕ → List ℕ → BlockView
sound_in area restarts = record {
  entries = entries_of_encoded [] area;
  restarts = map (entries_before area) (numbers_in restarts);
}

-- The state of a block builder with these entries: their encoded entries, the offsets of the
-- restarts, the last key, and the number of entries after the last whole interval. Their block has
-- at most MAX_BLOCK_LEN bytes.
pub record IsBlockBuilder (interval : ℕ) (entries : List Entry) (pieces restarts last : List ℕ)
    (since : ℕ) : Type 0 where
  pub interval_pos : 1 ≤ interval
  pub interval_le : interval ≤ MAX_RESTART_INTERVAL
  pub pieces_are : pieces
      ≡ flat_map encoded_entry_bytes (encoded_entries_from interval 0 [] entries)
  pub restarts_are : restarts ≡ restarts_from 0 (encoded_entries_from interval 0 [] entries)
  pub last_is : last ≡ last_key [] entries
  pub since_is : since ≡ length entries % interval
  pub fits : length (block interval entries) ≤ MAX_BLOCK_LEN
