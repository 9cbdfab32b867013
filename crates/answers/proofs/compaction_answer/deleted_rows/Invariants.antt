use Rattle.std.proofs.Common.{◌≡◌, ◌++◌, map}
use Rattle.answers.specs.Rows.{deleted}
use Rattle.answers.specs.Seen.{seen}
use Rattle.answers.proofs.compaction_answer.deleted_rows.Given as goal

-- the rows so far, and those of the files that are left, are all
abbrev pub invariant-loop-file : goal.invariant-loop-file
invariant-loop-file l = map seen l.rows.items ++ map deleted l.file-iterator ≡ map deleted l.files.keys
