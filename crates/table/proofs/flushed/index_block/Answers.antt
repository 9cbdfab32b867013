use Rattle.std.proofs.Common.{◌≡◌, ℕ, ◌+◌, ◌<◌, List, [], ◌∷◌, ◌++◌, length, get_or, take, refl, sym, ap, ◌∙◌, arith}
use Rattle.std.proofs.lemmas.List.{map-append, take_all, take_more}
use Rattle.block.specs.EncodedEntry.{Entry}
use Rattle.block.specs.BlockFormat.{block}
use Rattle.block.specs.BuilderView.{BlockBuilding, with_entry}
use Rattle.table.specs.Handle.{handle_bytes}
use Rattle.table.specs.declared.flushed_block.FlushedBlock.{FlushedBlock}
use Rattle.table.specs.Table.{handle_entry}
use Rattle.table.specs.FlushedBlocks.{index_entries}
use Rattle.table.proofs.Indexes.{length-index_part, index_fits}
use Rattle.table.proofs.flushed.index_block.Goals as goal

-- an index block that is written
abbrev written : List Entry → BlockBuilding
written entries = record { interval = 1; entries = entries }

-- one more block's entry goes into it
entry_added : (xs : List FlushedBlock) (i : ℕ) (x : FlushedBlock) (b : BlockBuilding) (key value : List ℕ) → i < length xs → x ≡ get_or xs i x → b ≡ written (index_entries (take i xs)) → key ≡ x.key → value ≡ handle_bytes x.handle.offset x.handle.size
    → record { interval = b.interval; entries = with_entry b.entries key value } ≡ written (index_entries (take (i + 1) xs))
entry_added xs i x b key value lt is so_far key_is value_is =
    let some : List Entry = index_entries (take i xs) in
    let item : take (i + 1) xs ≡ take i xs ++ x ∷ [] = take_more xs i x lt ∙ ap (λ (y : FlushedBlock). take i xs ++ y ∷ []) (sym is) in
    let parts : index_entries (take (i + 1) xs) ≡ some ++ handle_entry x.key x.handle.offset x.handle.size ∷ [] =
    ap index_entries item ∙ map-append (λ (y : FlushedBlock). handle_entry y.key y.handle.offset y.handle.size) (take i xs) (x ∷ []) in
    ap (λ (c : BlockBuilding). let d : BlockBuilding = record { interval = c.interval; entries = with_entry c.entries key value } in d) so_far
    ∙ ap (λ (k : List ℕ). written (with_entry some k value)) key_is
    ∙ ap (λ (v : List ℕ). written (with_entry some x.key v)) value_is
    ∙ ap written (sym parts)

pub returns-then-estimate-gt-MAX_TABLE_LEN-clause-err : goal.returns-then-estimate-gt-MAX_TABLE_LEN-clause-err
returns-then-estimate-gt-MAX_TABLE_LEN-clause-err c =
    let so_far = ap (λ (b : BlockBuilding). length (block b.interval b.entries)) c.loop-entry.invariant in
    rw c.of.ensures (refl, omega (arith, so_far, c.estimate.ensures, length-index_part c.args.index.now c.loop-entry.entry-index))

pub push_index_entry-requires : goal.push_index_entry-requires
push_index_entry-requires c =
    let handle = c.entry-item.result.handle in
    index_fits c.loop-entry.entries c.bytes-key.result.now (handle_bytes handle.offset handle.size) handle.offset handle.size
    (omega (arith, c.estimate.ensures))
    (rw c.bytes-key.ensures c.as_key.result.lawful.fits)
    refl

pub loop-entry-preserved : goal.loop-entry-preserved
loop-entry-preserved c =
    let handle = c.entry-item.result.handle in
    c.in_ok-push_index_entry.ensures.ok
    ∙ entry_added c.args.index.now c.loop-entry.entry-index c.entry-item.result c.loop-entry.entries c.bytes-key.result.now (handle_bytes handle.offset handle.size) c.loop-entry-test.true c.entry-item.is c.loop-entry.invariant
    (c.bytes-key.ensures ∙ c.as_key.ensures)
    refl

pub returns-clause-ok : goal.returns-clause-ok
returns-clause-ok c =
    c.loop-entry.invariant ∙ ap (λ (xs : List FlushedBlock). written (index_entries xs)) (take_all c.loop-entry.entry-index c.args.index.now c.loop-entry-test.false)
