use Rattle.compact.proofs.ReplacedInputs as lemma
use Rattle.compact.proofs.surviving_reads.kept_reads_survive.Goals as goal

pub returns : goal.returns
returns g c = lemma.kept_reads_survive g.C.Comparator.cmp g.met.C.Comparator.total g.met.C.Comparator.exact
