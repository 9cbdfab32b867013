-- An encoded entry at the front of a block's bytes, and its lengths, as the code holds them.
use Rattle.std.specs.Prelude.{false}
use Rattle.block.specs.EncodedEntry.{EncodedEntry}
use Rattle.block.specs.EntryFormat.{FieldReading}
use Rattle.block.specs.EntryLengths.{EntryLengths}
use Rattle.block.specs.declared.front.FrontEntry.{FrontEntry}
use Rattle.block.specs.declared.front.FrontLengths.{FrontLengths}

-- the encoded entry, and the bytes after it
abbrev pub front_field : FrontEntry → FieldReading EncodedEntry
front_field p = record {
  field = record {
    is_restart = false;
    shared = p.shared;
    unshared = p.unshared.now;
    value =
        p.value.now;
  };
  rest = p.rest.now;
}

-- the three lengths, and the bytes after them
abbrev pub front_lengths : FrontLengths → FieldReading EntryLengths
front_lengths p = record {
  field = record { shared = p.shared; unshared = p.unshared; value = p.value };
  rest = p.rest.now;
}
