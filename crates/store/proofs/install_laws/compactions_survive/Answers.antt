use Rattle.store.proofs.SurvivingCalls as lemma
use Rattle.store.proofs.install_laws.compactions_survive.Goals as goal

pub returns-clause-installed : goal.returns-clause-installed
returns-clause-installed g c = lemma.compactions_survive g.F.Folder c.install_calls_survive.ensures

pub returns-clause-synced : goal.returns-clause-synced
returns-clause-synced g c = lemma.syncs_stand g.F.Folder
