use Rattle.std.proofs.Common.{rules}
use Rattle.merge.proofs.merging_cursor.Merging.take.Goals as goal

pub returns-in_err-winners-clause-unchanged : goal.returns-in_err-winners-clause-unchanged
returns-in_err-winners-clause-unchanged g c = search rules

pub returns-in_err-heads-clause-unchanged : goal.returns-in_err-heads-clause-unchanged
returns-in_err-heads-clause-unchanged g c = search rules
