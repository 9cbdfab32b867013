-- Internal keys: a user key, and then the fixed64 of sequence * 256 + the number of the type.
use Rattle.std.specs.Prelude.{◌≡◌, ℕ, ◌+◌, ◌*◌, ◌-◌, ◌/◌, ◌%◌, ◌≤◌, ◌<◌, nat_lt, nat_eq}
use Rattle.std.specs.Prelude.{if◌then◌else◌, List, ◌++◌, length, take, drop, Result, Ok, Err}
use Rattle.byteorder.specs.Endian.{little_number, little_bytes}
use Rattle.coding.specs.Answers.{fault}
use Rattle.coding.specs.declared.fault.Fault.{Fault}
use Rattle.coding.specs.declared.fault.FaultName.TheVariants.{Key, TooLarge}
use Rattle.ikey.specs.declared.kind.Kind.{Kind}
use Rattle.ikey.specs.declared.kind.Kind.TheVariants.{Delete, Put}
use Rattle.ikey.specs.declared.key.TheConstants.{MAX_USER_KEY}

-- the number of a type
abbrev pub kind_number : Kind → ℕ
kind_number Delete = 0
kind_number Put = 1

-- the user key of an internal key: all but the last 8 bytes
abbrev pub user_of : List ℕ → List ℕ
user_of bytes = take (length bytes - 8) bytes

-- the tag of an internal key: the number in its last 8 bytes
unfoldable pub tag_of : List ℕ → ℕ
tag_of bytes = little_number 8 (drop (length bytes - 8) bytes)

-- the 8 bytes of a tag, the lowest first
unfoldable pub tag_bytes : ℕ → List ℕ
tag_bytes tag = little_bytes 8 tag

-- the sequence of an internal key
abbrev pub sequence_of : List ℕ → ℕ
sequence_of bytes = tag_of bytes / 256

-- the type of an internal key
abbrev pub kind_of : List ℕ → Kind
kind_of bytes = if nat_eq (tag_of bytes % 256) 1 then Put else Delete

-- the internal key of these parts
unfoldable pub internal_key : List ℕ → ℕ → Kind → List ℕ
internal_key user sequence kind = user ++ tag_bytes (sequence * 256 + kind_number kind)

-- the bytes are an internal key: a user key of at most MAX_USER_KEY bytes, and then 8 bytes of a
-- tag of type 0 or 1
pub record IsInternalKey (bytes : List ℕ) : Type 0 where
  pub tagged : 8 ≤ length bytes
  pub spelled : drop (length bytes - 8) bytes ≡ tag_bytes (tag_of bytes)
  pub typed : tag_of bytes % 256 < 2
  pub fits : length bytes ≤ MAX_USER_KEY + 8

-- the bytes if they are an internal key, else the first test that fails
abbrev pub internal_key_reading : List ℕ → Result (List ℕ) Fault
internal_key_reading bytes =
    if nat_lt (length bytes) 8 then Err (fault Key)
    else if nat_lt 1 (tag_of bytes % 256) then Err (fault Key)
    else if nat_lt (MAX_USER_KEY + 8) (length bytes) then Err (fault TooLarge)
    else Ok bytes
