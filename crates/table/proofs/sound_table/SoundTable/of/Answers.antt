use Rattle.table.proofs.CheckedTables.{blocks_are, contents_read}
use Rattle.table.proofs.sound_table.SoundTable.of.Goals as goal

pub returns : goal.returns
returns g c =
    let cmp = g.C.Comparator.cmp in
    let k = c.requires.checked in
    contents_read cmp c.args.bytes.now k.blocks (blocks_are cmp c.args.bytes.now c.args.index.entries c.args.bounds.smallest c.args.bounds.largest k)
