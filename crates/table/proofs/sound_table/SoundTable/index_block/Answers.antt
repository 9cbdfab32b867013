use Rattle.table.proofs.Walks.{indexes}
use Rattle.table.proofs.sound_table.SoundTable.index_block.Goals as goal

pub returns : goal.returns
returns g c =
    let t = c.self.inside in
    indexes g.C.Comparator.cmp t.bytes.now t.index.entries t.bounds.smallest t.bounds.largest c.args.self.now g.met.C.Comparator.total c.self.invariant.checked c.self.view_is
