use Rattle.install.proofs.TwoPieces.{installation_survives}
use Rattle.install.proofs.work_survival.installation_survives.Goals as goal

pub returns : goal.returns
returns g c = installation_survives _
