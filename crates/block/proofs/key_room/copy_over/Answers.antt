use Rattle.std.proofs.Common.{arith}
use Rattle.block.proofs.KeyRooms.{copied}
use Rattle.block.proofs.key_room.copy_over.Goals as goal

pub returns-clause-copied : goal.returns-clause-copied
returns-clause-copied c = copied _ _ _ _ _ (omega arith) c.requires.room c.requires.source c.requires.few
