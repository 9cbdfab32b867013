use Rattle.std.proofs.Common.{◌≡◌, ap, subst, sym, ◌∙◌, List, ℕ, Ok}
use Rattle.std.specs.Prelude.{Result}
use Rattle.std.specs.Result.{is_ok}
use Rattle.coding.proofs.Binds.{ok_is}
use Rattle.coding.specs.declared.fault.Fault.{Fault}
use Rattle.block.specs.EncodedEntry.{Entry}
use Rattle.table.specs.SoundTables.{HasBounds}
use Rattle.table.specs.declared.bounds.Bounds.{Bounds}
use Rattle.table.specs.TableContents.{Contents, contents_reading, index_in}
use Rattle.table.proofs.CheckedTables.{blocks_are, contents_read}
use Rattle.table.proofs.owned_table.OwnedTable.lend.Goals as goal

pub index_again-requires : goal.index_again-requires
index_again-requires g c = ap is_ok (ap index_in c.as_slice-bytes.ensures.value ∙ c.self.invariant.has.checked.index_block)

pub of-requires : goal.of-requires
of-requires g c =
    let cmp = g.C.Comparator.cmp in
    let k = c.self.invariant.has in
    let t = c.self.inside in
    let bytes = c.as_slice-bytes.result.now in
    let named : c.self.invariant.named ≡ c.index_again.result.entries = ok_is _ _ (sym k.checked.index_block ∙ ap index_in (sym c.as_slice-bytes.ensures.value) ∙ c.index_again.ensures) in
    let one : HasBounds cmp bytes c.index_again.result.entries t.bounds =
    subst (λ (es : List Entry). HasBounds cmp bytes es t.bounds) named
    (subst (λ (b : List ℕ). HasBounds cmp b c.self.invariant.named t.bounds) (sym c.as_slice-bytes.ensures.value) k) in
    subst (λ (b : Bounds). HasBounds cmp bytes c.index_again.result.entries b) (ok_is _ _ c.in_ok-bounds.ensures) one

pub returns : goal.returns
returns g c =
    let cmp = g.C.Comparator.cmp in
    let k = c.self.invariant.has.checked in
    let t = c.self.inside in
    let ok : Contents → Result Contents Fault = λ x. Ok x in
    let found = blocks_are cmp t.bytes.items c.self.invariant.named t.bounds.smallest t.bounds.largest k in
    ap ok (sym c.self.view_is) ∙ sym (contents_read cmp t.bytes.items k.blocks found) ∙ ap (contents_reading cmp) (sym c.as_slice-bytes.ensures.value) ∙ c.of.ensures
