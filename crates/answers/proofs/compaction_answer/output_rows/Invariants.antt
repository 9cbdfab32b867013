use Rattle.std.proofs.Common.{◌≡◌, map, take}
use Rattle.answers.specs.CompactionAnswer.{output_row}
use Rattle.answers.specs.Seen.{seen}
use Rattle.answers.proofs.compaction_answer.output_rows.Given as goal

abbrev pub invariant-loop-number : goal.invariant-loop-number
invariant-loop-number l = map seen l.rows.items ≡ map output_row (take l.number-index l.outputs)
