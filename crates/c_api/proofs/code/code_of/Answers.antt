use Rattle.std.proofs.Common.{sym, ◌∙◌}
use Rattle.c_api.proofs.FaultCodes.{code_some}
use Rattle.c_api.proofs.code.code_of.Goals as goal

pub returns-clause-some : goal.returns-clause-some
returns-clause-some c = λ h. code_some c.args.fault.name (sym c.code.ensures ∙ h)
