use Rattle.std.proofs.Common.{◌≡◌, Ok, subst}
use Rattle.block.specs.CheckedBytes.{BlockChecking}
use Rattle.block.specs.BlockReading.{block_reading}
use Rattle.block.proofs.CheckingSteps.{read_all}
use Rattle.block.proofs.checking_cursor.CheckingCursor.valid.Goals as goal

pub returns-clause-ended : goal.returns-clause-ended
returns-clause-ended c over =
    let was = c.self.inside in
    subst (λ (v : BlockChecking). block_reading v.bytes ≡ Ok v.all) c.self.view_is (read_all was.bytes.now was.area.now was.rest.now was.pending.now was.key was.valid c.self.invariant over)
