use Rattle.std.proofs.Common.{◌≡◌}
use Rattle.block.specs.FoldedLines.{folded_lines}
use Rattle.block.proofs.read_ahead.folded_lines.Given as goal

abbrev pub invariant-loop-line : goal.invariant-loop-line
invariant-loop-line l = l.folded ≡ folded_lines l.line l.bytes
