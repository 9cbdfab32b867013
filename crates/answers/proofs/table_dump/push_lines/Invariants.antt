use Rattle.std.proofs.Common.{◌≡◌, ◌++◌, length, string_bytes}
use Rattle.answers.specs.Dump.{dump_lines}
use Rattle.answers.proofs.table_dump.push_lines.Given as goal

abbrev pub invariant-loop-alloc : goal.invariant-loop-alloc
invariant-loop-alloc l = string_bytes l.out ++ dump_lines l.spelling l.cursor ≡ string_bytes l.fn.out ++ dump_lines l.spelling l.initial.cursor

abbrev pub decreases-loop-alloc : goal.decreases-loop-alloc
decreases-loop-alloc l = length l.cursor
