-- The lines of a compaction, and its JSON object.
use Rattle.std.specs.Prelude.{ℕ, List, [], ◌∷◌, ◌++◌, map, codes}
use Rattle.serde_json.specs.Data.{Data, string}
use Rattle.edit.specs.declared.meta.DeletedFile.{DeletedFile}
use Rattle.folder.specs.Names.{manifest_name}
use Rattle.texts.specs.declared.spelling.Spelling.TheVariants.{Hexadecimal}
use Rattle.answers.specs.Objects.{natural, object_of}
use Rattle.answers.specs.Rows.{AnswerRow, deleted, output, rows_array, rows_lines}
use Rattle.answers.specs.declared.compaction_answer.CompactionEnd.{CompactionEnd}
use Rattle.answers.specs.declared.compaction_answer.CompactionEnd.TheVariants.{Installed, Written}

-- the name and the text of what became of it
abbrev pub end_field : CompactionEnd → List ℕ × List ℕ
end_field (Installed manifest) = (codes "installed", manifest_name manifest)
end_field (Written name) = (codes "written", name.now)

-- its line
abbrev pub field_line : List ℕ × List ℕ → List ℕ
field_line field = field.0 ++ codes " " ++ field.1 ++ codes "\n"

-- the row of an output, of which this is the number and the length
abbrev pub output_row : ℕ × ℕ → AnswerRow
output_row o = output o.0 o.1

-- The outputs in order, the inputs by level and number, and what became of it. No key is in them,
-- so their spelling is any.
abbrev pub compaction_lines : List (ℕ × ℕ) → List DeletedFile → CompactionEnd → List ℕ
compaction_lines outputs inputs end = rows_lines Hexadecimal (map output_row outputs)
    ++ rows_lines Hexadecimal (map deleted inputs)
    ++ field_line (end_field end)

-- the same with the level that was compacted, as an object
abbrev pub compaction_object : ℕ → List (ℕ × ℕ) → List DeletedFile → CompactionEnd → Data
compaction_object level outputs inputs end = object_of ((codes "level", natural level)
    ∷ ((end_field end).0, string (end_field end).1)
    ∷ (codes "outputs", rows_array Hexadecimal (map output_row outputs))
    ∷ (codes "deleted", rows_array Hexadecimal (map deleted inputs)) ∷ [])
