use Rattle.std.proofs.Common.{◌-◌, [], length}
use Rattle.board.specs.WorkerResult.{IsWorking}
use Rattle.board.proofs.worker.serve.Given as goal

abbrev pub invariant-loop-job : goal.invariant-loop-job
invariant-loop-job g l = IsWorking (g.L.Labour.refusal l.labour) (g.L.Labour.gives l.labour) l.board [] l.shift

abbrev pub decreases-loop-job : goal.decreases-loop-job
decreases-loop-job g l = l.board.jobs - length l.shift.seat.drawn
