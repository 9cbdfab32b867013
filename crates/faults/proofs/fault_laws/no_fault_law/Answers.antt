use Rattle.faults.proofs.NoFaults.{accepted_none, none_accepted}
use Rattle.faults.proofs.fault_laws.no_fault_law.Goals as goal

pub returns : goal.returns
returns g c = λ files v bytes state. (
  none_accepted g.C.Comparator.cmp g.met.C.Comparator.total g.met.C.Comparator.exact files v state bytes,
  accepted_none g.C.Comparator.cmp g.met.C.Comparator.total g.met.C.Comparator.exact files v state,
)
