use Rattle.install.proofs.NothingNamed.{nothing_named}
use Rattle.install.proofs.work_survival.nothing_named.Goals as goal

pub returns : goal.returns
returns c = nothing_named
