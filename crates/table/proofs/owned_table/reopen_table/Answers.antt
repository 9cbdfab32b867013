use Rattle.std.proofs.Common.{arith, List, ℕ}
use Rattle.coding.proofs.Bytes.{IsBytes}
use Rattle.table.proofs.CheckedTables.{blocks_are, contents_read}
use Rattle.table.proofs.ReadTables.{bounds_read, index_read}
use Rattle.table.proofs.owned_table.reopen_table.Goals as goal

pub index_again-requires : goal.index_again-requires
index_again-requires g c = index_read g.C.Comparator.cmp c.args.bytes.now c.args.bounds c.requires

pub of-requires : goal.of-requires
of-requires g c =
    let fits : IsBytes c.args.bytes.now = λ i. omega (arith, c.type_inv.bytes i) in
    bounds_read g.C.Comparator.cmp g.met.C.Comparator.total c.args.bytes.now c.index_again.result.entries c.args.bounds fits c.requires c.index_again.ensures

pub returns : goal.returns
returns g c = c.of.ensures
