use Rattle.std.proofs.Common.{subst, rules}
use Rattle.edit.specs.Version.{State, IsState}
use Rattle.edit.proofs.version.Version.files.Goals as goal

pub returns-clause-state : goal.returns-clause-state
returns-clause-state g c = subst (λ (v : State). IsState v.pointers v.files) c.self.view_is c.self.invariant

pub returns-clause-ordered : goal.returns-clause-ordered
returns-clause-ordered g c = search rules
