use Rattle.std.proofs.Common.{◌≡◌, ◌++◌, ◌-◌, map}
use Rattle.folder.specs.Levels.{by_level}
use Rattle.answers.specs.Seen.{seen}
use Rattle.answers.specs.VersionAnswer.{pointer_row, pointer_rows}
use Rattle.answers.proofs.version_answer.pointer_rows.Given as goal

-- the rows so far, and those of the levels that are left, are all
abbrev pub invariant-loop-level : goal.invariant-loop-level
invariant-loop-level l = map seen l.rows.items ++ by_level (pointer_row l.version) l.level (7 - l.level) ≡ pointer_rows l.version
