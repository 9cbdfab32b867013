use Rattle.table.proofs.Tables.{reads_tables}
use Rattle.table.proofs.table_check.reads_tables.Goals as goal

pub returns : goal.returns
returns g c = reads_tables g.C.Comparator.cmp g.met.C.Comparator.total
