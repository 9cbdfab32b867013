use Rattle.std.proofs.Common.{refl}
use Rattle.logrec.proofs.Logs.{appended}
use Rattle.logrec.proofs.log_writer.append.Goals as goal

pub returns-clause-ok : goal.returns-clause-ok
returns-clause-ok c =
    appended c.args.old.now c.args.record.now _ _ _ _ _ c.zeros_len-zeros.result c.room_at-room.result c.in_ok-log.ensures.items c.in_ok-extend_from_slice.ensures.items c.in_ok-extend_from_slice-2.ensures.items refl c.zeros_len-zeros.ensures.len c.room_at-room.ensures c.in_ok-push_fragments.ensures.ok
