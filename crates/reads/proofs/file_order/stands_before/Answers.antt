use Rattle.std.proofs.Common.{rules}
use Rattle.reads.proofs.file_order.stands_before.Goals as goal

pub returns-else-file-eq0 : goal.returns-else-file-eq0
returns-else-file-eq0 g c = search rules
