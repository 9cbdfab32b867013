use Rattle.levels.proofs.DescentSurvives as lemma
use Rattle.levels.proofs.work_laws.descents_survive.Goals as goal

pub returns : goal.returns
returns g c = lemma.descents_survive g.F.Folder _ c.work_survives.ensures c.levels_survive.ensures
