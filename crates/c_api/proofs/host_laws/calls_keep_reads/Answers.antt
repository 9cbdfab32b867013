use Rattle.c_api.proofs.KeptReads.{reads_kept}
use Rattle.c_api.proofs.host_laws.calls_keep_reads.Goals as goal

pub returns : goal.returns
returns g c =
    reads_kept g.C.Comparator.cmp g.C.Comparator.short_keys c.calls_law.ensures c.closed_reads_survive.ensures
