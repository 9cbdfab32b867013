use Rattle.std.proofs.Common.{arith, rules}
use Rattle.block.proofs.KeyRooms.{replaced}
use Rattle.block.proofs.key_room.KeyRoom.replace_end.Goals as goal

pub returns-then-len-shared-ge-STRIDE-clause-ok : goal.returns-then-len-shared-ge-STRIDE-clause-ok
returns-then-len-shared-ge-STRIDE-clause-ok c = replaced c.self.inside.bytes.items _ _ _ _ _ _ _ _ _ _ _ c.copy_over-self-inside.ensures.copied (search rules) (omega arith) (omega arith) (omega arith) c.args.next.begins c.requires.within c.self.view_is
