use Rattle.std.proofs.Common.{◌≡◌, ◌++◌, ◌-◌, map}
use Rattle.folder.specs.Levels.{by_level}
use Rattle.answers.specs.Seen.{seen}
use Rattle.answers.specs.VersionAnswer.{file_rows, files_at}
use Rattle.answers.proofs.version_answer.rows_by.Given as goal

-- the rows so far, and those of the levels that are left, are all
abbrev pub invariant-loop-level : goal.invariant-loop-level
invariant-loop-level g l =
    let cmp = g.C.Comparator.cmp in
    map seen l.rows.items ++ by_level (files_at cmp l.version) l.level (7 - l.level) ≡ file_rows cmp l.version
