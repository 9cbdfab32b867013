use Rattle.std.proofs.Common.{true, ◌+◌, ◌-◌, ◌*◌, ◌++◌, length}
use Rattle.logrec.specs.Log.{fragments}
use Rattle.logrec.proofs.Loops.{Writes}
use Rattle.logrec.proofs.log_writer.push_fragments.Given as goal

abbrev pub invariant-loop-room : goal.invariant-loop-room
invariant-loop-room l = Writes (l.initial.log.items ++ fragments (length l.record) true l.fn.room l.record) l.log.items l.begins l.room l.left

abbrev pub decreases-loop-room : goal.decreases-loop-room
decreases-loop-room l = 2 * length l.left + (32761 - l.room)
