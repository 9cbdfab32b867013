use Rattle.install.proofs.CallsAlone.{install_calls_survive}
use Rattle.install.proofs.work_survival.install_calls_survive.Goals as goal

pub returns : goal.returns
returns c = install_calls_survive
