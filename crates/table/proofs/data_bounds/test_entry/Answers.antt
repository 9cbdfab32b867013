use Rattle.std.proofs.Common.{rules}
use Rattle.table.proofs.data_bounds.test_entry.Goals as goal

pub returns-in_default-clause-test : goal.returns-in_default-clause-test
returns-in_default-clause-test g c = search rules
