use Rattle.std.proofs.Common.{rules}
use Rattle.answers.proofs.table_dump.push_line.Goals as goal

pub returns-clause-ok : goal.returns-clause-ok
returns-clause-ok c = search rules
