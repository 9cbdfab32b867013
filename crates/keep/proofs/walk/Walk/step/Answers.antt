use Rattle.std.proofs.Common.{rules}
use Rattle.keep.proofs.walk.Walk.step.Goals as goal

pub returns-clause-new : goal.returns-clause-new
returns-clause-new g c = search rules

pub returns-then-sequence-clause-new : goal.returns-then-sequence-clause-new
returns-then-sequence-clause-new g c = search rules

pub returns-then-sequence-clause-ok : goal.returns-then-sequence-clause-ok
returns-then-sequence-clause-ok g c = search rules
