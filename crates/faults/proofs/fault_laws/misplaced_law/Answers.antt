use Rattle.faults.proofs.MisplacedLemmas.{are_misplaced}
use Rattle.faults.proofs.fault_laws.misplaced_law.Goals as goal

pub returns : goal.returns
returns g c = λ entries. are_misplaced g.C.Comparator.cmp g.met.C.Comparator.total g.met.C.Comparator.exact entries
