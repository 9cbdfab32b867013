use Rattle.store.proofs.ClosedJoint as lemma
use Rattle.store.proofs.part_laws.closed_is_installed.Goals as goal

pub returns : goal.returns
returns g c = lemma.closed_joint g.C.Comparator.cmp g.met.C.Comparator.total g.met.C.Comparator.exact g.C.Comparator.short_keys c.table_reads_back.ensures c.passed_law.ensures
