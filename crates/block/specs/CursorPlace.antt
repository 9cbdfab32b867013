-- A place in a block: the entry there, and the encoded entries after it.
use Rattle.std.specs.Prelude.{if◌then◌else◌, List, [], ◌∷◌}
use Rattle.block.specs.EncodedEntry.{Entry}
use Rattle.block.specs.EntriesOfBytes.{entries_of_encoded, AreEncodedEntriesAfter}
use Rattle.block.specs.declared.cursor.BlockCursor.TheInside.{Inside}

-- the entry at the place, if there is one, and those after it
abbrev pub remaining_entries : Inside → List Entry
remaining_entries c = if c.valid then record { key = c.key; value = c.value.now } ∷
    entries_of_encoded c.key c.rest.now else []

-- the bytes there are encoded entries that come after the key
abbrev pub IsWalking : Inside → Type 0
IsWalking c = AreEncodedEntriesAfter c.key c.rest.now
