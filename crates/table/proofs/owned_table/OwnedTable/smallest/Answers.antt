use Rattle.std.proofs.Common.{◌≡◌, ℕ, List, Some, sym, ap, ◌∙◌}
use Rattle.std.specs.Prelude.{slice_get}
use Rattle.std.specs.Option.{option_map}
use Rattle.block.specs.EncodedEntry.{Entry}
use Rattle.table.specs.TableContents.{Contents, entries_of}
use Rattle.table.proofs.CheckedTables.{blocks_are, contents_are, some_entry, first_is}
use Rattle.table.proofs.owned_table.OwnedTable.smallest.Goals as goal

pub returns : goal.returns
returns g c =
    let cmp = g.C.Comparator.cmp in
    let k = c.self.invariant.has.checked in
    let t = c.self.inside in
    let blocks = blocks_are cmp t.bytes.items c.self.invariant.named t.bounds.smallest t.bounds.largest k in
    let same : c.args.self.now.entries ≡ entries_of k.blocks = ap (λ (x : Contents). x.entries) (sym c.self.view_is ∙ contents_are cmp t.bytes.items k.blocks blocks) in
    let some = some_entry cmp k.index k.blocks k.data_blocks in
    ap (λ (x : List ℕ). Some x) (c.as_key.ensures ∙ k.first) ∙ sym (first_is (entries_of k.blocks) some)
    ∙ sym (ap (λ (es : List Entry). option_map (λ e. e.key) (slice_get es 0)) same)
