use Rattle.std.proofs.Common.{◌≡◌, ℕ, List, Ok, sym, ap, subst, ◌∙◌}
use Rattle.std.specs.Prelude.{Result}
use Rattle.coding.specs.declared.fault.Fault.{Fault}
use Rattle.table.specs.TableContents.{Contents, contents_reading}
use Rattle.table.proofs.CheckedTables.{blocks_are, contents_are, contents_read}
use Rattle.table.proofs.sound_table.SoundTable.bytes.Goals as goal

pub returns-clause-reading : goal.returns-clause-reading
returns-clause-reading g c =
    let cmp = g.C.Comparator.cmp in
    let t = c.self.inside in
    let k = c.self.invariant.checked in
    let found = blocks_are cmp t.bytes.now t.index.entries t.bounds.smallest t.bounds.largest k in
    let same : c.args.self.now.bytes ≡ t.bytes.now = ap (λ (x : Contents). x.bytes) (sym c.self.view_is ∙ contents_are cmp t.bytes.now k.blocks found) in
    let ok : Contents → Result Contents Fault = λ x. Ok x in
    subst (λ (bytes : List ℕ). contents_reading cmp bytes ≡ Ok c.args.self.now) (sym same) (contents_read cmp t.bytes.now k.blocks found ∙ ap ok c.self.view_is)
