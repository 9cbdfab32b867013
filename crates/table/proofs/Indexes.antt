-- The index block, and what comes after the data blocks.
use Rattle.std.proofs.Common.{◌≡◌, ℕ, ◌+◌, ◌^◌, ◌≤◌, List, ◌++◌, length, take, drop, sym, ap, ◌∙◌, append_assoc, arith}
use Rattle.std.proofs.lemmas.List.{length-append, map-append, take-append-drop}
use Rattle.block.specs.EncodedEntry.{Entry}
use Rattle.block.specs.BlockFormat.{block}
use Rattle.block.specs.BuilderView.{BlockBuilding, with_entry}
use Rattle.block.proofs.Sizes.{length-block-nil, length-block-append, fits_with_entry}
use Rattle.table.specs.Handle.{handle_bytes}
use Rattle.table.specs.Trailer.{stored_block}
use Rattle.table.specs.Footer.{footer_bytes}
use Rattle.table.specs.declared.handle.BlockHandle.{BlockHandle}
use Rattle.table.proofs.Handles.{length-handle_bytes}
use Rattle.table.proofs.Stored.{length-stored}
use Rattle.table.proofs.Footers.{length-footer_bytes}
use Rattle.table.specs.declared.flushed_block.FlushedBlock.{FlushedBlock}
use Rattle.table.specs.Table.{handle_entry, metaindex, footer_at, closing_bytes}
use Rattle.table.specs.FlushedBlocks.{index_entries}

-- the index of some blocks is no longer than that of all
pub length-index_part : (index : List FlushedBlock) (i : ℕ) → length (block 1 (index_entries (take i index))) ≤ length (block 1 (index_entries index))
length-index_part index i =
    let parts : index_entries index ≡ index_entries (take i index) ++ index_entries (drop i index) =
    ap index_entries (sym (take-append-drop i index)) ∙ map-append (λ (x : FlushedBlock). handle_entry x.key x.handle.offset x.handle.size) (take i index) (drop i index) in
    omega (arith, length-block-append 1 (index_entries (take i index)) (index_entries (drop i index)), ap (λ (x : List Entry). length (block 1 x)) parts)

-- one more entry of the index, after an index that is no longer than a table
pub index_fits : (b : BlockBuilding) (key handle : List ℕ) (offset size : ℕ) → length (block b.interval b.entries) ≤ 2 ^ 30 → length key ≤ 65535 + 8 → handle ≡ handle_bytes offset size → length (block b.interval (with_entry b.entries key handle)) ≤ 2 ^ 31
index_fits b key handle offset size len key_fits handle_is =
    fits_with_entry b key handle (omega (arith, ap length handle_is, length-handle_bytes offset size))

pub length-closing : (at : ℕ) (index : List Entry) → length (closing_bytes at index) ≡ length (block 1 index) + 66
unfolding closing_bytes
length-closing at index =
    let last : List ℕ = footer_bytes (footer_at at (length (block 1 index))) in
    omega (arith, length-append (stored_block metaindex) (stored_block (block 1 index) ++ last), length-append (stored_block (block 1 index)) last, length-stored metaindex, length-stored (block 1 index), length-block-nil 1, length-footer_bytes (footer_at at (length (block 1 index))))

-- metaindex, index and footer after other bytes
pub closing_written : (out a b : List ℕ) (index : List Entry) (first second : BlockHandle) → a ≡ out ++ stored_block metaindex → first ≡ record { offset = length out; size = length metaindex }
    → b ≡ a ++ stored_block (block 1 index) → second ≡ record { offset = length a; size = length (block 1 index) } → b ++ footer_bytes (record { metaindex = first; index = second }) ≡ out ++ closing_bytes (length out) index
unfolding closing_bytes
closing_written out a b index first second a_is first_is b_is second_is =
    let len : length a ≡ length out + length metaindex + 5 = omega (arith, ap length a_is, length-append out (stored_block metaindex), length-stored metaindex) in
    let footers : List ℕ = footer_bytes (footer_at (length out) (length (block 1 index))) in
    let footer : footer_bytes (record { metaindex = first; index = second }) ≡ footers =
    ap (λ (h : BlockHandle). footer_bytes (record { metaindex = h; index = second })) first_is
    ∙ ap (λ (h : BlockHandle). footer_bytes (record { metaindex = record { offset = length out; size = length metaindex }; index = h })) second_is
    ∙ ap (λ (n : ℕ). footer_bytes (record { metaindex = record { offset = length out; size = length metaindex }; index = record { offset = n; size = length (block 1 index) } })) len in
    ap (λ (x : List ℕ). b ++ x) footer
    ∙ ap (λ (x : List ℕ). x ++ footers) (b_is ∙ ap (λ (x : List ℕ). x ++ stored_block (block 1 index)) a_is)
    ∙ append_assoc (out ++ stored_block metaindex) (stored_block (block 1 index)) footers
    ∙ append_assoc out (stored_block metaindex) (stored_block (block 1 index) ++ footers)
