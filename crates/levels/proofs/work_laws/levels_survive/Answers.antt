use Rattle.levels.proofs.StepSurvives as lemma
use Rattle.levels.proofs.work_laws.levels_survive.Goals as goal

pub returns : goal.returns
returns g c = lemma.levels_survive g.F.Folder c.work_survives.ensures c.installation_survives.ensures c.compactions_survive.ensures.installed
