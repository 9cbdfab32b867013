-- Files of the host's version, whose keys lie in bytes that it lends.
use Rattle.std.specs.Prelude.{ℕ, Bool, ◌&&◌, List}
use Rattle.std.specs.Result.{is_ok}
use Rattle.ikey.specs.Key.{internal_key_reading}
use Rattle.edit.specs.declared.meta.FileMeta.{FileMeta}
use Rattle.c_api.specs.Places.{is_within, part_at}
use Rattle.c_api.specs.declared.file.File.{File}
use Rattle.c_api.specs.declared.place.Place.{Place}

-- whether an internal key lies at a place
abbrev pub is_key_at : List ℕ → Place → Bool
is_key_at keys place = is_within keys place && is_ok (internal_key_reading (part_at keys place))

-- whether both keys of a file are internal keys
abbrev pub has_keys : List ℕ → File → Bool
has_keys keys file = is_key_at keys file.smallest && is_key_at keys file.largest

-- what a file's version states of it
abbrev pub meta_at : List ℕ → File → FileMeta
meta_at keys file = record {
  number = file.number;
  size = file.size;
  smallest = part_at keys file.smallest;
  largest = part_at keys file.largest;
}
