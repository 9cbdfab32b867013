-- The rows of answers that are lists: the line of each, and its JSON object.
use Rattle.std.specs.Prelude.{ℕ, List, [], ◌∷◌, ◌++◌, map, codes, decimal}
use Rattle.std.specs.List.{flat_map}
use Rattle.serde_json.specs.Data.{Data, array}
use Rattle.serde_json.specs.View.{items_of}
use Rattle.table.specs.Key.{kind_number, kind_of, sequence_of, user_of}
use Rattle.edit.specs.declared.meta.DeletedFile.{DeletedFile}
use Rattle.edit.specs.declared.meta.FileMeta.{FileMeta}
use Rattle.texts.specs.Spelling.{key_text}
use Rattle.texts.specs.declared.spelling.Spelling.{Spelling}
use Rattle.answers.specs.Objects.{key_data, natural, object_of}

-- An output of a compaction by number and length; an input of it; the compact pointer of a level,
-- an internal key; a file of a level.
pub data AnswerRow : Type 0 where
  output : ℕ → ℕ → AnswerRow
  deleted : DeletedFile → AnswerRow
  pointer : ℕ → List ℕ → AnswerRow
  listed : ℕ → FileMeta → AnswerRow

-- its line
abbrev pub row_line : Spelling → AnswerRow → List ℕ
row_line spelling (output number size) =
    codes "output " ++ decimal number ++ codes " " ++ decimal size ++ codes "\n"
row_line spelling (deleted d) =
    codes "deleted " ++ decimal d.level ++ codes " " ++ decimal d.number ++ codes "\n"
row_line spelling (pointer level key) = codes "pointer " ++ decimal level ++ codes " "
    ++ key_text spelling (user_of key) ++ codes " "
    ++ decimal (sequence_of key) ++ codes " " ++ decimal (kind_number (kind_of key)) ++ codes "\n"
row_line spelling (listed level f) = codes "file " ++ decimal level ++ codes " "
    ++ decimal f.number ++ codes " " ++ decimal f.size ++ codes "\n"

-- its object, with user keys
abbrev pub row_object : Spelling → AnswerRow → Data
row_object spelling (output number size) =
    object_of ((codes "number", natural number) ∷ (codes "size", natural size) ∷ [])
row_object spelling (deleted d) =
    object_of ((codes "level", natural d.level) ∷ (codes "number", natural d.number) ∷ [])
row_object spelling (pointer level key) = object_of ((codes "key", key_data spelling (user_of key))
    ∷ (codes "level", natural level) ∷ (codes "sequence", natural (sequence_of key))
    ∷ (codes "type", natural (kind_number (kind_of key))) ∷ [])
row_object spelling (listed level f) =
    object_of ((codes "largest", key_data spelling (user_of f.largest))
    ∷ (codes "level", natural level) ∷ (codes "number", natural f.number)
    ∷ (codes "size", natural f.size) ∷ (codes "smallest", key_data spelling (user_of f.smallest))
    ∷ [])

-- the lines of rows
abbrev pub rows_lines : Spelling → List AnswerRow → List ℕ
rows_lines spelling rows = flat_map (row_line spelling) rows

-- their objects
abbrev pub rows_array : Spelling → List AnswerRow → Data
rows_array spelling rows = array (items_of (map (row_object spelling) rows))
