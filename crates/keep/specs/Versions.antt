-- The version of an entry: its user key and its sequence.
use Rattle.std.specs.Prelude.{ℕ, Bool, if◌then◌else◌, List, Option, Some, None}
use Rattle.std.specs.Option.{option_map}
use Rattle.std.specs.Str.{bytes_eq}
use Rattle.ikey.specs.Key.{user_of, sequence_of}

pub record EntryVersion : Type 0 where
  pub user : List ℕ
  pub sequence : ℕ

-- the last version as it is stored: its user key is that of the last kept entry, or else `user`
pub record StoredVersion : Type 0 where
  pub is_kept : Bool
  pub user : List ℕ
  pub sequence : Option ℕ

-- the last version, by how it is stored and by the last kept key
abbrev pub last_version : List ℕ → StoredVersion → Option EntryVersion
last_version kept v = option_map
    (λ s. record { user = if v.is_kept then user_of kept else v.user; sequence = s }) v.sequence

-- the version of an internal key
abbrev pub version_of : List ℕ → EntryVersion
version_of key = record { user = user_of key; sequence = sequence_of key }

-- the sequence of the last version, if it is of this user key
abbrev pub newer_of : Option EntryVersion → List ℕ → Option ℕ
newer_of None user = None
newer_of (Some v) user = if bytes_eq v.user user then Some v.sequence else None
