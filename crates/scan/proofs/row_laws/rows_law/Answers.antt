use Rattle.scan.proofs.FileRows.{some_rows}
use Rattle.scan.proofs.OneList.{one_list}
use Rattle.scan.proofs.row_laws.rows_law.Goals as goal

pub returns : goal.returns
returns g c =
    let met = g.met.C.Comparator in
    let cmp = g.C.Comparator.cmp in
    record {
      some = λ v tables range at lawful. some_rows cmp met.total met.exact v tables at lawful range;
      one = λ v tables range at rows others are also. one_list cmp met.total v tables range at rows others are also;
    }
