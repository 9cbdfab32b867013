use Rattle.std.proofs.Common.{◌≡◌, ◌++◌, map, take}
use Rattle.answers.specs.Rows.{listed}
use Rattle.answers.specs.Seen.{seen}
use Rattle.answers.proofs.version_answer.push_files.Given as goal

abbrev pub invariant-loop-file : goal.invariant-loop-file
invariant-loop-file l = map seen l.rows.items ≡ map seen l.fn.rows.items ++ map (λ f. listed l.level f.now) (take l.file-index l.files)
