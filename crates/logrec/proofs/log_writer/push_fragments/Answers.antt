use Rattle.std.proofs.Common.{true, ◌++◌, length}
use Rattle.logrec.specs.Log.{fragments}
use Rattle.logrec.proofs.Loops.{writes_on}
use Rattle.logrec.proofs.log_writer.push_fragments.Goals as goal

pub loop-room-preserved : goal.loop-room-preserved
loop-room-preserved c =
    rw (c.in_ok-push_fragment.ensures.ok, c.type_of.ensures, c.split_at.ensures.front, c.split_at.ensures.back)
    (writes_on (c.args.log.now.items ++ fragments (length c.args.record.now) true c.args.room c.args.record.now) c.loop-room.log.items c.loop-room.begins c.loop-room.room c.loop-room.left.now c.loop-room.invariant c.loop-room-test.true)
