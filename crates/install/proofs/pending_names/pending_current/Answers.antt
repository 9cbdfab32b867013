use Rattle.std.proofs.lemmas.Grind.{common_steps}
use Rattle.std.proofs.Common.{arith}
use Rattle.install.proofs.pending_names.pending_current.Goals as goal

pub returns-then-is_pending : goal.returns-then-is_pending
returns-then-is_pending c = grind (arith, common_steps)
