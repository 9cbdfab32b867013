use Rattle.std.proofs.Common.{◌≡◌, ◌∷◌, ◌++◌, [], List, length, sym, ap, subst, ◌∙◌, arith}
use Rattle.std.specs.Prelude.{drop}
use Rattle.std.proofs.lemmas.Result.{err_from_is_err_and}
use Rattle.std.proofs.lemmas.List.{map_push, length-drop}
use Rattle.block.specs.EncodedEntry.{Entry}
use Rattle.table.specs.IndexReading.{IndexEntry, index_entry, index_reading}
use Rattle.table.specs.IndexEntries.{index_entry_of, index_entries_of}
use Rattle.table.proofs.Steps.{with_front, first_entry, index_goes_on, index_ends, fails_map, handed_on}
use Rattle.table.proofs.table_check.indexed_blocks.Goals as goal

pub returns-in_err-indexed_block : goal.returns-in_err-indexed_block
returns-in_err-indexed_block c =
    let p = err_from_is_err_and c.from_residual-in_err-indexed_block.result c.from_residual-in_err-indexed_block.ensures.1 in
    let q = c.loop-alloc.cursor in
    let bytes = c.args.bytes.now in
    let d = c.in_err-indexed_block.field-0.0 in
    let e : Entry = record { key = c.key.result.now; value = c.value.result.now } in
    let first = first_entry q c.key.result.now c.value.result.now c.key.ensures c.value.ensures in
    let total = index_reading bytes c.args.index.now.entries in
    let so_far : with_front (index_entries_of c.loop-alloc.all.items) (index_reading bytes q) ≡ total = c.loop-alloc.invariant ∙ ap (index_reading bytes) c.in_ok-cursor.ensures.all in
    handed_on (λ v. index_entries_of v.items) c.from_residual-in_err-indexed_block.result p.0 d total p.1 p.2
    (fails_map d (index_entry bytes e) total (λ h. index_ends bytes (index_entries_of c.loop-alloc.all.items) q e d total first h so_far) c.in_err-indexed_block.ensures)

pub loop-alloc-preserved : goal.loop-alloc-preserved
loop-alloc-preserved c =
    let q = c.loop-alloc.cursor in
    let bytes = c.args.bytes.now in
    let e : Entry = record { key = c.key.result.now; value = c.value.result.now } in
    let x : IndexEntry = index_entry_of c.in_ok-indexed_block.field-0 in
    let front = index_entries_of c.loop-alloc.all.items in
    let first = first_entry q c.key.result.now c.value.result.now c.key.ensures c.value.ensures in
    let total = index_reading bytes c.in_ok-cursor.cursor in
    let pushed : index_entries_of c.push.new.self.items ≡ front ++ x ∷ [] = ap index_entries_of c.in_ok-push.ensures.items ∙ map_push index_entry_of c.loop-alloc.all.items c.in_ok-indexed_block.field-0 in
    let on : with_front (front ++ x ∷ []) (index_reading bytes (drop 1 q)) ≡ total = index_goes_on bytes front q e x total first c.in_ok-indexed_block.ensures c.loop-alloc.invariant in
    subst (λ (xs : List IndexEntry). with_front xs (index_reading bytes c.advance.new.self) ≡ total) (sym pushed)
    (subst (λ (es : List Entry). with_front (front ++ x ∷ []) (index_reading bytes es) ≡ total) (sym c.in_ok-advance.ensures.ok) on)

pub key-requires : goal.key-requires
key-requires c = c.valid.ensures.0 c.loop-alloc-test.true

pub value-requires : goal.value-requires
value-requires c = c.valid.ensures.0 c.loop-alloc-test.true

pub advance-requires : goal.advance-requires
advance-requires c = c.valid.ensures.0 c.loop-alloc-test.true

pub loop-alloc-smaller : goal.loop-alloc-smaller
loop-alloc-smaller c =
    let some = c.valid.ensures.0 c.loop-alloc-test.true in
    omega (arith, some, ap length c.in_ok-advance.ensures.ok, length-drop 1 c.loop-alloc.cursor)
