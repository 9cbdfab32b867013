-- A row whose key or file is lent.
use Rattle.answers.specs.Rows.{AnswerRow, deleted, listed, output, pointer}
use Rattle.answers.specs.declared.rows.Row.{Row}
use Rattle.answers.specs.declared.rows.Row.TheVariants.{Output, Deleted, Pointer, File}

abbrev pub seen : Row → AnswerRow
seen (Output number size) = output number size
seen (Deleted d) = deleted d
seen (Pointer level key) = pointer level key.now
seen (File level f) = listed level f.now
