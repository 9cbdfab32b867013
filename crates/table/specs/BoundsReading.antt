-- What a check finds of what it reads: the first and the last key, and what it counts.
use Rattle.std.specs.Prelude.{ℕ, List, [], Option, Result, Ok}
use Rattle.coding.specs.Answers.{◌>>=◌}
use Rattle.coding.specs.declared.fault.Fault.{Fault}
use Rattle.ikey.specs.Comparator.{KeyOrder}
use Rattle.block.specs.EncodedEntry.{Entry}
use Rattle.block.specs.BuilderView.{last_key}
use Rattle.table.specs.EntryTests.{first_key, data_test}
use Rattle.table.specs.IndexReading.{block_in}
use Rattle.table.specs.TableContents.{DataBlock, entries_of}
use Rattle.table.specs.Tallies.{tally_of}
use Rattle.table.specs.TallySteps.{tally_after}
use Rattle.table.specs.declared.bounds.Bounds.{Bounds}
use Rattle.table.specs.declared.tally.Tally.{Tally}

-- The first and the last key of a data block after the key `before`, or the first test that its
-- entries fail. What is counted goes on from `so_far`.
abbrev pub bounds_reading : KeyOrder → Option (List ℕ) → Tally → List Entry → Result Bounds Fault
bounds_reading cmp before so_far entries = do
  _ ← data_test cmp before entries
  Ok (record {
    smallest = first_key entries;
    largest = last_key [] entries;
    tally = tally_after so_far before entries;
  })

-- the first and the last key of data blocks, and what is counted of their entries
abbrev pub bounds_of : List DataBlock → Bounds
bounds_of blocks = record {
  smallest = first_key (entries_of blocks);
  largest = last_key [] (entries_of blocks);
  tally = tally_of (entries_of blocks);
}

-- the same as `bounds_reading`, of a stored data block
abbrev pub stored_bounds : KeyOrder → Option (List ℕ) → Tally → List ℕ → Result Bounds Fault
stored_bounds cmp before so_far stored = do
  entries ← block_in stored
  bounds_reading cmp before so_far entries
