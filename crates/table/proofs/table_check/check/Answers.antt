use Rattle.std.proofs.Common.{arith}
use Rattle.table.proofs.CheckedTables.{found_table, gives_entries}
use Rattle.table.proofs.Tables.{reads_tables}
use Rattle.table.proofs.table_check.check.Goals as goal

pub returns-clause-found : goal.returns-clause-found
returns-clause-found g c =
    let cmp = g.C.Comparator.cmp in
    let bytes = c.args.bytes.now in
    found_table cmp bytes c.read.result (λ q h. (reads_tables cmp g.met.C.Comparator.total).found bytes q (λ i. omega (arith, c.type_inv.bytes i)) h) c.read.ensures

pub returns-clause-only : goal.returns-clause-only
returns-clause-only g c entries h =
    let cmp = g.C.Comparator.cmp in
    let bytes = c.args.bytes.now in
    gives_entries cmp bytes c.read.result entries c.read.ensures ((reads_tables cmp g.met.C.Comparator.total).only bytes entries h)
