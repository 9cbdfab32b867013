-- The index of planned data blocks, block by block.
use Rattle.std.proofs.Common.{◌≡◌, ℕ, zero, suc, ◌+◌, ◌^◌, ◌<◌, ◌≤◌, List, [], ◌∷◌, ◌++◌, length, take, drop, refl, sym, ap, ◌∙◌, add-zero, zero-add, arith}
use Rattle.std.specs.Prelude.{slice_get, slice_index_or, Some}
use Rattle.std.specs.List.{AllByRecursion}
use Rattle.std.proofs.lemmas.List.{length-append, length-map, take-append-drop, take_all}
use Rattle.std.proofs.lemmas.Option.{same_Some, none-some}
use Rattle.block.specs.EncodedEntry.{Entry}
use Rattle.block.specs.BlockFormat.{block}
use Rattle.block.proofs.Sizes.{length-block-append}
use Rattle.table.specs.Trailer.{stored_block}
use Rattle.table.proofs.Stored.{length-stored}
use Rattle.table.specs.Table.{IndexKeys, index_key, handle_entry, index_from, stored_blocks, table_of_blocks, closing_bytes}
use Rattle.table.proofs.Indexes.{length-closing}
use Rattle.cut.specs.declared.planned_block.PlannedBlock.{PlannedBlock}
use Rattle.cut.specs.PlannedBlocks.{block_lists, IsPlanned}
use Rattle.cut.specs.PlaceKey.{place_key}
use Rattle.cut.proofs.Lists.{suc_is}
use Rattle.cut.proofs.Keys.{planned_at, part_at}

pub length_stored : (r : ℕ) (p : List Entry) (ps : List (List Entry)) → length (stored_blocks r (p ∷ ps)) ≡ length (block r p) + 5 + length (stored_blocks r ps)
length_stored r p ps = omega (arith, length-append (stored_block (block r p)) (stored_blocks r ps), length-stored (block r p))

-- one more entry of the index
pub index_next : (keys : IndexKeys) (r at : ℕ) (parts : List (List Entry)) (i : ℕ) (p : List Entry) → slice_get parts i ≡ Some p
    → take (suc i) (index_from keys r at parts) ≡ take i (index_from keys r at parts) ++ handle_entry (place_key keys (drop i parts)) (at + length (stored_blocks r (take i parts))) (length (block r p)) ∷ []
index_next keys r at [] i p h = absurd (none-some p h)
index_next keys r at (q ∷ qs) zero p h =
    ap (λ (n : ℕ). handle_entry (index_key keys q qs) n (length (block r q)) ∷ []) (sym (add-zero at))
    ∙ ap (λ (x : List Entry). handle_entry (index_key keys q qs) (at + 0) (length (block r x)) ∷ []) (same_Some q p h)
index_next keys r at (q ∷ qs) (suc i) p h =
    let next : ℕ = at + length (block r q) + 5 in
    let place : next + length (stored_blocks r (take i qs)) ≡ at + length (stored_blocks r (q ∷ take i qs)) = omega (arith, length_stored r q (take i qs)) in
    let first : Entry = handle_entry (index_key keys q qs) at (length (block r q)) in
    ap (λ (es : List Entry). first ∷ es) (index_next keys r next qs i p h)
    ∙ ap (λ (n : ℕ). (first ∷ take i (index_from keys r next qs)) ++ handle_entry (place_key keys (drop i qs)) n (length (block r p)) ∷ []) place

-- the bytes of one more data block
pub stored_next : (r : ℕ) (parts : List (List Entry)) (i : ℕ) (p : List Entry) → slice_get parts i ≡ Some p
    → length (stored_blocks r (take (suc i) parts)) ≡ length (stored_blocks r (take i parts)) + (length (block r p) + 5)
stored_next r [] i p h = absurd (none-some p h)
stored_next r (q ∷ qs) zero p h =
    let same : length (block r q) ≡ length (block r p) = ap (λ (x : List Entry). length (block r x)) (same_Some q p h) in
    omega (arith, length_stored r q [], same)
stored_next r (q ∷ qs) (suc i) p h = omega (arith, length_stored r q (take (suc i) qs), length_stored r q (take i qs), stored_next r qs i p h)

stored_part : (r : ℕ) (parts : List (List Entry)) (n : ℕ) → length (stored_blocks r (take n parts)) ≤ length (stored_blocks r parts)
stored_part r [] zero = omega arith
stored_part r [] (suc n) = omega arith
stored_part r (q ∷ qs) zero = omega arith
stored_part r (q ∷ qs) (suc n) = omega (arith, length_stored r q (take n qs), length_stored r q qs, stored_part r qs n)

index_part : (index : List Entry) (n : ℕ) → length (block 1 (take n index)) ≤ length (block 1 index)
index_part index n =
    let parts : take n index ++ drop n index ≡ index = take-append-drop n index in
    omega (arith, length-block-append 1 (take n index) (drop n index), ap (λ (x : List Entry). length (block 1 x)) parts)

-- the length of a table
pub length_table : (keys : IndexKeys) (r : ℕ) (parts : List (List Entry)) → length (table_of_blocks keys r parts) ≡ length (stored_blocks r parts) + length (block 1 (index_from keys r 0 parts)) + 66
length_table keys r parts =
    let bytes : List ℕ = stored_blocks r parts in
    let index : List Entry = index_from keys r 0 parts in
    omega (arith, length-append bytes (closing_bytes (length bytes) index), length-closing (length bytes) index)

-- a table is no shorter than what some of its data blocks and of its index take
pub table_over : (keys : IndexKeys) (r : ℕ) (parts : List (List Entry)) (n m : ℕ)
    → length (stored_blocks r (take n parts)) + length (block 1 (take m (index_from keys r 0 parts))) + 66 ≤ length (table_of_blocks keys r parts)
table_over keys r parts n m = omega (arith, length_table keys r parts, stored_part r parts n, index_part (index_from keys r 0 parts) m)

-- what one more planned block does
pub record Steps (keys : IndexKeys) (r : ℕ) (blocks : List PlannedBlock) (i size : ℕ) : Type 0 where
  pub within : length (stored_blocks r (take i (block_lists blocks))) + (size + 5) ≤ 2 ^ 30
  pub bytes : length (stored_blocks r (take (i + 1) (block_lists blocks))) ≡ length (stored_blocks r (take i (block_lists blocks))) + (size + 5)
  pub entry : take (i + 1) (index_from keys r 0 (block_lists blocks)) ≡ take i (index_from keys r 0 (block_lists blocks))
      ++ handle_entry (place_key keys (drop i (block_lists blocks))) (length (stored_blocks r (take i (block_lists blocks)))) size ∷ []
  pub fits : length (block 1 (take (i + 1) (index_from keys r 0 (block_lists blocks)))) ≤ 2 ^ 31

pub steps : (keys : IndexKeys) (r : ℕ) (blocks : List PlannedBlock) (i : ℕ) (d : PlannedBlock) → i < length blocks → AllByRecursion (IsPlanned r) blocks → length (table_of_blocks keys r (block_lists blocks)) ≤ 2 ^ 30
    → Steps keys r blocks i (slice_index_or blocks i d).len
steps keys r blocks i d lt planned fits =
    let parts : List (List Entry) = block_lists blocks in
    let p : List Entry = (slice_index_or blocks i d).entries.entries in
    let size : ℕ = (slice_index_or blocks i d).len in
    let index : List Entry = index_from keys r 0 parts in
    let at : slice_get parts i ≡ Some p = part_at blocks i d lt in
    let next : length (stored_blocks r (take (i + 1) parts)) ≡ length (stored_blocks r (take i parts)) + (length (block r p) + 5) = ap (λ (n : ℕ). length (stored_blocks r (take n parts))) (suc_is i) ∙ stored_next r parts i p at in
    let over : length (stored_blocks r (take (i + 1) parts)) + length (block 1 (take (i + 1) index)) + 66 ≤ length (table_of_blocks keys r parts) = table_over keys r parts (i + 1) (i + 1) in
    let size_is : size ≡ length (block r p) = omega (arith, (planned_at r blocks i d lt planned).len_is, next, over, fits) in
    let before : ℕ = length (stored_blocks r (take i parts)) in
    record {
      within = omega (arith, size_is, next, over, fits);
      bytes = omega (arith, size_is, next);
      entry =
          ap (λ (n : ℕ). take n index) (suc_is i)
          ∙ index_next keys r 0 parts i p at
          ∙ ap (λ (n : ℕ). take i index ++ handle_entry (place_key keys (drop i parts)) n (length (block r p)) ∷ []) (zero-add before)
          ∙ ap (λ (n : ℕ). take i index ++ handle_entry (place_key keys (drop i parts)) before n ∷ []) (sym size_is);
      fits = omega (arith, over, fits);
    }

length_index : (keys : IndexKeys) (r at : ℕ) (parts : List (List Entry)) → length (index_from keys r at parts) ≡ length parts
length_index keys r at [] = refl
length_index keys r at (p ∷ ps) = ap suc (length_index keys r (at + length (block r p) + 5) ps)

-- after the last block the index is whole
pub index_whole : (keys : IndexKeys) (r : ℕ) (blocks : List PlannedBlock) (n : ℕ) → length blocks ≤ n → take n (index_from keys r 0 (block_lists blocks)) ≡ index_from keys r 0 (block_lists blocks)
index_whole keys r blocks n h =
    let parts : length (block_lists blocks) ≡ length blocks = length-map blocks (λ (b : PlannedBlock). b.entries.entries) in
    take_all n (index_from keys r 0 (block_lists blocks)) (omega (arith, h, parts, length_index keys r 0 (block_lists blocks)))
