use Rattle.cut.proofs.Stopped.{IsRoom}
use Rattle.cut.proofs.stops.room_after.Given as goal

abbrev pub invariant-loop-file : goal.invariant-loop-file
invariant-loop-file l = IsRoom l.files l.room l.file-index l.left
