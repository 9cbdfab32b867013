-- The state of a table that was checked.
use Rattle.std.specs.Prelude.{◌≡◌, ℕ, List, [], Ok}
use Rattle.ikey.specs.Comparator.{KeyOrder}
use Rattle.block.specs.EncodedEntry.{Entry}
use Rattle.block.specs.BuilderView.{last_key}
use Rattle.table.specs.EntryTests.{HaveInternalKeys, first_key}
use Rattle.table.specs.IndexReading.{IndexEntry, index_reading}
use Rattle.table.specs.TableContents.{Contents, DataBlock, contents_reading, index_in, data_reading}
use Rattle.table.specs.TableContents.{entries_of}
use Rattle.table.specs.Tallies.{tally_of}
use Rattle.table.specs.declared.bounds.Bounds.{Bounds}

-- The bytes have an index block of these entries, and data blocks that begin with the first of
-- these keys and end with the second.
pub record IsChecked (cmp : KeyOrder) (bytes : List ℕ) (named : List Entry)
    (smallest largest : List ℕ) : Type 0 where
  pub index : List IndexEntry
  pub blocks : List DataBlock
  pub index_block : index_in bytes ≡ Ok named
  pub index_entries : index_reading bytes named ≡ Ok index
  pub data_blocks : data_reading cmp index ≡ Ok blocks
  pub first : smallest ≡ first_key (entries_of blocks)
  pub last : largest ≡ last_key [] (entries_of blocks)

-- the same, the keys are internal keys, and this is counted of the entries of the data blocks
pub record HasBounds (cmp : KeyOrder) (bytes : List ℕ) (named : List Entry)
    (bounds : Bounds) : Type 0 where
  pub checked : IsChecked cmp bytes named bounds.smallest bounds.largest
  pub keys : HaveInternalKeys (entries_of checked.blocks)
  pub tally : bounds.tally ≡ tally_of (entries_of checked.blocks)

-- the same for some entries of the index block
pub record IsCheckedTable (cmp : KeyOrder) (bytes : List ℕ) (bounds : Bounds) : Type 0 where
  pub named : List Entry
  pub has : HasBounds cmp bytes named bounds

-- the bytes read as a table of these bounds, of which this is counted
pub record HasBoundsRead (cmp : KeyOrder) (bytes : List ℕ) (bounds : Bounds) : Type 0 where
  pub contents : Contents
  pub read : contents_reading cmp bytes ≡ Ok contents
  pub first : bounds.smallest ≡ first_key contents.entries
  pub last : bounds.largest ≡ last_key [] contents.entries
  pub tally : bounds.tally ≡ tally_of contents.entries
