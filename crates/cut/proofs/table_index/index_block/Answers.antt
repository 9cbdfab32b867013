use Rattle.std.proofs.Common.{◌≡◌, ◌≤◌, ◌+◌, ◌^◌, ℕ, List, length, take, drop, refl, sym, ap, ◌∙◌, arith}
use Rattle.std.specs.Prelude.{slice_index_or}
use Rattle.block.specs.EncodedEntry.{Entry}
use Rattle.block.specs.BlockFormat.{block}
use Rattle.block.specs.BuilderView.{BlockBuilding, with_entry}
use Rattle.table.specs.Handle.{handle_bytes}
use Rattle.table.specs.Table.{IndexKeys, index_keys, index_from, stored_blocks}
use Rattle.table.proofs.Refused.{ok_is}
use Rattle.cut.specs.declared.planned_block.PlannedBlock.{PlannedBlock}
use Rattle.cut.specs.PlannedBlocks.{block_lists}
use Rattle.cut.specs.PlaceKey.{place_key}
use Rattle.cut.proofs.Indexes.{Steps, steps, index_whole}
use Rattle.cut.proofs.table_index.index_block.Goals as goal

-- an index of these entries
abbrev listing : List Entry → BlockBuilding
listing es = record { interval = 1; entries = es }

-- a block with one entry more
abbrev with_more : BlockBuilding → List ℕ → List ℕ → BlockBuilding
with_more b key handle = record { interval = b.interval; entries = with_entry b.entries key handle }

-- the entries of the index with that of one block more
added : (keys : IndexKeys) (r : ℕ) (blocks : List PlannedBlock) (i offset size : ℕ) (index : BlockBuilding) (key handle : List ℕ) → Steps keys r blocks i size
    → index ≡ listing (take i (index_from keys r 0 (block_lists blocks))) → offset ≡ length (stored_blocks r (take i (block_lists blocks)))
    → key ≡ place_key keys (drop i (block_lists blocks)) → handle ≡ handle_bytes offset size
    → with_more index key handle ≡ listing (take (i + 1) (index_from keys r 0 (block_lists blocks)))
added keys r blocks i offset size index key handle s so_far at key_is handle_is =
    let front : List Entry = take i (index_from keys r 0 (block_lists blocks)) in
    ap (λ (b : BlockBuilding). with_more b key handle) so_far
    ∙ ap (λ (k : List ℕ). listing (with_entry front k handle)) key_is
    ∙ ap (λ (h : List ℕ). listing (with_entry front (place_key keys (drop i (block_lists blocks))) h)) (handle_is ∙ ap (λ (n : ℕ). handle_bytes n size) at)
    ∙ ap listing (sym s.entry)

fits_by : (index : BlockBuilding) (key handle : List ℕ) (entries : List Entry) → with_more index key handle ≡ listing entries → length (block 1 entries) ≤ 2 ^ 31 → length (block index.interval (with_entry index.entries key handle)) ≤ 2 ^ 31
fits_by index key handle entries h le =
    let same : length (block index.interval (with_entry index.entries key handle)) ≡ length (block 1 entries) = ap (λ (b : BlockBuilding). length (block b.interval b.entries)) h in
    omega (arith, same, le)

pub push_index_entry-requires : goal.push_index_entry-requires
push_index_entry-requires g c =
    let keys : IndexKeys = index_keys g.C.Comparator.cmp g.C.Comparator.short_keys in
    let blocks : List PlannedBlock = c.args.blocks.now in
    let i : ℕ = c.loop-place.place in
    let size : ℕ = (slice_index_or blocks i c.index-blocks-place.result).len in
    let s : Steps keys c.args.interval blocks i size = steps keys c.args.interval blocks i c.index-blocks-place.result (omega (arith, c.loop-place-test.true)) c.requires.planned c.requires.fits in
    let key = c.bytes.ensures ∙ c.as_key.ensures ∙ sym (ok_is c.in_ok-key.ensures) in
    fits_by c.loop-place.index c.bytes.result.now (handle_bytes c.loop-place.offset size) _
    (added keys c.args.interval blocks i c.loop-place.offset size c.loop-place.index c.bytes.result.now (handle_bytes c.loop-place.offset size) s c.loop-place.invariant.0 c.loop-place.invariant.1 key refl) s.fits

pub overflow_add-offset : goal.overflow_add-offset
overflow_add-offset g c =
    let keys : IndexKeys = index_keys g.C.Comparator.cmp g.C.Comparator.short_keys in
    let s = steps keys c.args.interval c.args.blocks.now c.loop-place.place c.index-blocks-place.result (omega (arith, c.loop-place-test.true)) c.requires.planned c.requires.fits in
    omega (arith, s.within)

pub overflow_add-offset-in-loop-place : goal.overflow_add-offset-in-loop-place
overflow_add-offset-in-loop-place g c =
    let keys : IndexKeys = index_keys g.C.Comparator.cmp g.C.Comparator.short_keys in
    let s = steps keys c.args.interval c.args.blocks.now c.loop-place.place c.index-blocks-place.result (omega (arith, c.loop-place-test.true)) c.requires.planned c.requires.fits in
    omega (arith, s.within, c.loop-place.invariant.1)

pub loop-place-preserved : goal.loop-place-preserved
loop-place-preserved g c =
    let keys : IndexKeys = index_keys g.C.Comparator.cmp g.C.Comparator.short_keys in
    let blocks : List PlannedBlock = c.args.blocks.now in
    let i : ℕ = c.loop-place.place in
    let size : ℕ = (slice_index_or blocks i c.index-blocks-place.result).len in
    let s : Steps keys c.args.interval blocks i size = steps keys c.args.interval blocks i c.index-blocks-place.result (omega (arith, c.loop-place-test.true)) c.requires.planned c.requires.fits in
    let key = c.bytes.ensures ∙ c.as_key.ensures ∙ sym (ok_is c.in_ok-key.ensures) in (
      c.in_ok-push_index_entry.ensures.ok ∙ added keys c.args.interval blocks i c.loop-place.offset size c.loop-place.index c.bytes.result.now (handle_bytes c.loop-place.offset size) s c.loop-place.invariant.0 c.loop-place.invariant.1 key refl,
      ap (λ (n : ℕ). n + (size + 5)) c.loop-place.invariant.1 ∙ sym s.bytes,
    )

pub returns-clause-index : goal.returns-clause-index
returns-clause-index g c =
    let keys : IndexKeys = index_keys g.C.Comparator.cmp g.C.Comparator.short_keys in
    c.loop-place.invariant.0 ∙ ap listing (index_whole keys c.args.interval c.args.blocks.now c.loop-place.place (omega (arith, c.loop-place-test.false)))
