use Rattle.table.proofs.CheckedTables.{blocks_are, contents_read}
use Rattle.table.proofs.owned_table.OwnedTable.of.Goals as goal

pub returns : goal.returns
returns g c =
    let cmp = g.C.Comparator.cmp in
    let k = c.requires in
    contents_read cmp c.args.bytes.items k.has.checked.blocks (blocks_are cmp c.args.bytes.items k.named c.args.bounds.smallest c.args.bounds.largest k.has.checked)
