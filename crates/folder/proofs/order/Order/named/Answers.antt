use Rattle.std.proofs.Common.{rules}
use Rattle.folder.proofs.order.Order.named.Goals as goal

pub returns-then-eq : goal.returns-then-eq
returns-then-eq c = search rules
