use Rattle.c_api.proofs.HostWork.{calls_hold}
use Rattle.c_api.proofs.host_laws.calls_law.Goals as goal

pub returns : goal.returns
returns g c =
    calls_hold g.C.Comparator.cmp g.C.Comparator.short_keys g.met.C.Comparator.total g.met.C.Comparator.exact
