use Rattle.install.proofs.Sound.{opened_sound}
use Rattle.install.proofs.Survival.{survives}
use Rattle.install.proofs.work_survival.work_survives.Goals as goal

pub returns : goal.returns
returns g c = survives _ opened_sound
