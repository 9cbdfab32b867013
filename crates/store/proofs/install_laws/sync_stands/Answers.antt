use Rattle.store.proofs.Synced as lemma
use Rattle.store.proofs.install_laws.sync_stands.Goals as goal

pub returns : goal.returns
returns c = lemma.sync_stands
