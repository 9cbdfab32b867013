-- What an entry of the index names.
use Rattle.std.specs.Prelude.{List, map}
use Rattle.table.specs.IndexReading.{IndexEntry}
use Rattle.table.specs.declared.indexed_block.IndexedBlock.{IndexedBlock}

-- the index entry, as contracts see it
abbrev pub index_entry_of : IndexedBlock → IndexEntry
index_entry_of p = record { key = p.key; stored = p.stored.now }

-- the index entries, as contracts see them
abbrev pub index_entries_of : List IndexedBlock → List IndexEntry
index_entries_of ps = map index_entry_of ps
