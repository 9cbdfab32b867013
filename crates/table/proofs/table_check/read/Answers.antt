use Rattle.std.proofs.Common.{List, sym, ap, ◌∙◌, arith}
use Rattle.std.proofs.lemmas.Result.{err_from_is_err_and}
use Rattle.table.specs.declared.bounds.Bounds.{Bounds}
use Rattle.table.specs.IndexReading.{IndexEntry, index_reading}
use Rattle.table.specs.TableContents.{index_in, contents_reading}
use Rattle.table.specs.IndexEntries.{index_entries_of}
use Rattle.table.specs.declared.indexed_block.IndexedBlock.{IndexedBlock}
use Rattle.table.proofs.Steps.{fails_map, handed_on}
use Rattle.table.proofs.DataSteps.{all_bounds}
use Rattle.coding.proofs.Bytes.{IsBytes}
use Rattle.table.proofs.KeyBytes.{table_keys}
use Rattle.table.proofs.Tables.{reads_tables}
use Rattle.table.proofs.CheckedTables.{index_refused, entries_refused, bounds_refused, checked}
use Rattle.table.proofs.table_check.read.Goals as goal

pub returns-in_err-block : goal.returns-in_err-block
returns-in_err-block g c =
    let p = err_from_is_err_and c.from_residual.result c.from_residual.ensures.1 in
    let cmp = g.C.Comparator.cmp in
    let bytes = c.args.bytes.now in
    let d = c.in_err-block.field-0.0 in
    handed_on (λ t. t) c.from_residual.result p.0 d (contents_reading cmp bytes) p.1 p.2
    (fails_map d (index_in bytes) (contents_reading cmp bytes) (λ h. index_refused cmp bytes d h) c.in_err-block.ensures)

pub returns-in_err-index : goal.returns-in_err-index
returns-in_err-index g c =
    let p = err_from_is_err_and c.from_residual-in_err-index.result c.from_residual-in_err-index.ensures.1 in
    let cmp = g.C.Comparator.cmp in
    let bytes = c.args.bytes.now in
    let d = c.in_err-index.field-0.0 in
    let named = c.in_ok-block.block.entries in
    handed_on (λ t. t) c.from_residual-in_err-index.result p.0 d (contents_reading cmp bytes) p.1 p.2
    (fails_map d (index_reading bytes named) (contents_reading cmp bytes) (λ h. entries_refused cmp bytes named d c.in_ok-block.ensures h) c.in_err-index.ensures)

pub returns-in_err-bounds : goal.returns-in_err-bounds
returns-in_err-bounds g c =
    let p = err_from_is_err_and c.from_residual-in_err-bounds.result c.from_residual-in_err-bounds.ensures.1 in
    let cmp = g.C.Comparator.cmp in
    let bytes = c.args.bytes.now in
    let d = c.in_err-bounds.field-0.0 in
    let named = c.in_ok-block.block.entries in
    let index : List IndexEntry = index_entries_of c.in_ok-index.index.items in
    let lent = ap (λ (xs : List IndexedBlock). all_bounds cmp (index_entries_of xs)) c.deref.ensures.value in
    handed_on (λ t. t) c.from_residual-in_err-bounds.result p.0 d (contents_reading cmp bytes) p.1 p.2
    (fails_map d (all_bounds cmp (index_entries_of c.deref.result.now)) (contents_reading cmp bytes) (λ h. bounds_refused cmp bytes named index d c.in_ok-block.ensures c.in_ok-index.ensures (sym lent ∙ h)) c.in_err-bounds.ensures)

pub of-requires : goal.of-requires
of-requires g c =
    let cmp = g.C.Comparator.cmp in
    let bytes = c.args.bytes.now in
    let index : List IndexEntry = index_entries_of c.in_ok-index.index.items in
    let x : Bounds = c.in_ok-bounds.bounds in
    let lent = ap (λ (xs : List IndexedBlock). all_bounds cmp (index_entries_of xs)) c.deref.ensures.value in
    let fits : IsBytes bytes = λ i. omega (arith, c.type_inv.bytes i) in
    checked cmp bytes c.in_ok-block.block.entries index x c.in_ok-block.ensures c.in_ok-index.ensures (sym lent ∙ c.in_ok-bounds.ensures)
    (λ es h. table_keys cmp bytes es fits ((reads_tables cmp g.met.C.Comparator.total).found bytes es fits h))
