-- The JSON objects of answers, as rows of named fields, and the line of an object.
use Rattle.std.specs.Prelude.{ℕ, List, [], ◌∷◌, ◌++◌, true, codes, Option, Some, None}
use Rattle.std.specs.Prelude.{if◌then◌else◌}
use Rattle.std.specs.Str.{is_utf8}
use Rattle.serde_json.specs.Data.{Data, Members, boolean, member, no_members, null, number, object}
use Rattle.serde_json.specs.Data.{put, string, unsigned}
use Rattle.serde_json.specs.Written.{compact_text}
use Rattle.texts.specs.Spelling.{key_text, value_text}
use Rattle.texts.specs.Text.{text_of_bytes}
use Rattle.texts.specs.declared.spelling.Spelling.{Spelling}
use Rattle.texts.specs.declared.spelling.Spelling.TheVariants.{Utf8}
use Rattle.answers.specs.declared.history_lines.EntryPlace.{EntryPlace}

-- the members and these fields, one put in after the other
abbrev pub with_fields : Members → List (List ℕ × Data) → Members
with_fields ms [] = ms
with_fields ms (field ∷ fields) = with_fields (put field.0 field.1 ms) fields

-- these fields, by name
abbrev pub members_of : List (List ℕ × Data) → Members
members_of fields = with_fields no_members fields

-- their object
abbrev pub object_of : List (List ℕ × Data) → Data
object_of fields = object (members_of fields)

-- the line of an object: its text without blanks, and a newline
abbrev pub json_line : Data → List ℕ
json_line d = compact_text d ++ codes "\n"

-- a number
abbrev pub natural : ℕ → Data
natural n = number (unsigned n)

-- a number; null for none
abbrev pub number_or_null : Option ℕ → Data
number_or_null None = null
number_or_null (Some n) = natural n

-- `{"hex":H}`: bytes in hexadecimal digits
abbrev pub hex_object : List ℕ → Data
hex_object bytes = object (member (codes "hex") (string (text_of_bytes bytes)) no_members)

-- bytes that are UTF-8 as a JSON string of their characters; others as `{"hex":H}`
abbrev pub utf8_data : List ℕ → Data
utf8_data bytes = if is_utf8 bytes then string bytes else hex_object bytes

-- a key as a JSON string
abbrev pub key_data : Spelling → List ℕ → Data
key_data Utf8 key = utf8_data key
key_data spelling key = string (key_text spelling key)

-- a value as a JSON string
abbrev pub some_data : Spelling → List ℕ → Data
some_data Utf8 value = utf8_data value
some_data spelling value = string (value_text spelling value)

-- the same; null for none
abbrev pub value_data : Spelling → Option (List ℕ) → Data
value_data spelling None = null
value_data spelling (Some value) = some_data spelling value

-- how many logs have writes that are in no table; null if that isn't known
abbrev pub logs_object : Option ℕ → Data
logs_object logs = object_of ((codes "logs", number_or_null logs) ∷ [])

-- the same after how many rows
abbrev pub count_object : ℕ → Option ℕ → Data
count_object count logs =
    object_of ((codes "count", natural count) ∷ (codes "logs", number_or_null logs) ∷ [])

-- a lawful version; how many logs have writes, and a missing log: null if that isn't known, if
-- none is
abbrev pub lawful_object : ℕ → ℕ → Option ℕ → Option ℕ → Data
lawful_object files entries logs missing = object_of ((codes "entries", natural entries)
    ∷ (codes "files", natural files) ∷ (codes "lawful", boolean true)
    ∷ (codes "logs", number_or_null logs) ∷ (codes "missing_log", number_or_null missing) ∷ [])

-- a valid table
abbrev pub valid_object : ℕ → Data
valid_object entries =
    object_of ((codes "entries", natural entries) ∷ (codes "valid", boolean true) ∷ [])

-- a file that was removed
abbrev pub removed_object : List ℕ → ℕ → Data
removed_object name bytes =
    object_of ((codes "bytes", natural bytes) ∷ (codes "removed", string name) ∷ [])

-- a file that a copy needs
abbrev pub name_object : List ℕ → Data
name_object name = object_of ((codes "name", string name) ∷ [])

-- a key and its value, null if it has none
abbrev pub value_object : Spelling → List ℕ → Option (List ℕ) → Option ℕ → Data
value_object spelling key value logs = object_of ((codes "key", key_data spelling key)
    ∷ (codes "logs", number_or_null logs) ∷ (codes "value", value_data spelling value) ∷ [])

-- an entry; null in place of its value for a deletion
abbrev pub entry_object : Spelling → EntryPlace → Option (List ℕ) → Data
entry_object spelling place value = object_of ((codes "file", natural place.file)
    ∷ (codes "level", natural place.level) ∷ (codes "sequence", natural place.sequence)
    ∷ (codes "value", value_data spelling value) ∷ [])

-- one key of many, and its value if values aren't left out
abbrev pub pair_object : Spelling → List ℕ → Option (List ℕ) → Data
pair_object spelling key None = object_of ((codes "key", key_data spelling key) ∷ [])
pair_object spelling key (Some value) = object_of ((codes "key", key_data spelling key)
    ∷ (codes "value", some_data spelling value) ∷ [])
