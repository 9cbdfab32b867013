-- The keys of an index, by the keys of the data blocks.
use Rattle.std.proofs.Common.{◌≡◌, ◌≢◌, ℕ, zero, suc, ◌+◌, ◌<◌, ◌≤◌, List, [], ◌∷◌, ◌++◌, length, drop, refl, sym, ap, ◌∙◌, arith}
use Rattle.std.specs.Prelude.{slice_get, slice_index_or, Some, None}
use Rattle.std.specs.List.{AllByRecursion, last_or}
use Rattle.std.specs.Option.{option_map}
use Rattle.std.proofs.lemmas.Option.{same_Some}
use Rattle.block.specs.EncodedEntry.{Entry}
use Rattle.block.specs.BuilderView.{last_key}
use Rattle.cut.proofs.LastKeys.{last_known}
use Rattle.table.specs.Table.{IndexKeys}
use Rattle.table.specs.EntryTests.{first_key}
use Rattle.cut.specs.declared.planned_block.PlannedBlock.{PlannedBlock}
use Rattle.cut.specs.PlannedBlocks.{block_lists, IsPlanned}
use Rattle.cut.specs.PlaceKey.{place_key}
use Rattle.cut.proofs.Lists.{suc_is}

-- each block is planned rightly
pub planned_at : (r : ℕ) (blocks : List PlannedBlock) (i : ℕ) (d : PlannedBlock) → i < length blocks → AllByRecursion (IsPlanned r) blocks → IsPlanned r (slice_index_or blocks i d)
planned_at r [] i d lt h = absurd (omega arith)
planned_at r (x ∷ xs) zero d lt h = h.0
planned_at r (x ∷ xs) (suc i) d lt h = planned_at r xs i d (omega arith) h.1

pub part_at : (blocks : List PlannedBlock) (i : ℕ) (d : PlannedBlock) → i < length blocks → slice_get (block_lists blocks) i ≡ Some (slice_index_or blocks i d).entries.entries
part_at [] i d lt = absurd (omega arith)
part_at (x ∷ xs) zero d lt = refl
part_at (x ∷ xs) (suc i) d lt = part_at xs i d (omega arith)

-- the first key of entries, after which others stand
first_known : (q behind : List Entry) (key : List ℕ) → q ≢ [] → option_map (λ (e : Entry). e.key) (slice_get (q ++ behind) 0) ≡ Some key → first_key q ≡ key
first_known [] behind key some h = absurd (some refl)
first_known (e ∷ q) behind key some h = same_Some e.key key h

-- the key of a block with another one after it
between_at : (keys : IndexKeys) (blocks : List PlannedBlock) (i : ℕ) (d n : PlannedBlock) → suc i < length blocks
    → place_key keys (drop i (block_lists blocks)) ≡ keys.between (last_key [] (slice_index_or blocks i d).entries.entries) (first_key (slice_index_or blocks (suc i) n).entries.entries)
between_at keys [] i d n lt = absurd (omega arith)
between_at keys (x ∷ []) i d n lt = absurd (omega arith)
between_at keys (x ∷ y ∷ ys) zero d n lt = refl
between_at keys (x ∷ y ∷ ys) (suc i) d n lt = between_at keys (y ∷ ys) i d n (omega arith)

-- the key of the last block
above_at : (keys : IndexKeys) (blocks : List PlannedBlock) (i : ℕ) (d : PlannedBlock) → suc i ≡ length blocks
    → place_key keys (drop i (block_lists blocks)) ≡ keys.above (last_key [] (slice_index_or blocks i d).entries.entries)
above_at keys [] i d e = absurd (omega arith)
above_at keys (x ∷ []) zero d e = refl
above_at keys (x ∷ []) (suc i) d e = absurd (omega arith)
above_at keys (x ∷ y ∷ ys) zero d e = absurd (omega arith)
above_at keys (x ∷ y ∷ ys) (suc i) d e = above_at keys (y ∷ ys) i d (omega arith)

-- by the keys that the slices tell
pub between_known : (keys : IndexKeys) (r : ℕ) (blocks : List PlannedBlock) (i : ℕ) (d n : PlannedBlock) (last key : List ℕ) (first : List Entry) → i + 1 < length blocks → AllByRecursion (IsPlanned r) blocks
    → Some last ≡ option_map (λ (e : Entry). e.key) (last_or None (slice_index_or blocks i d).entries.entries)
    → first ≡ (slice_index_or blocks (i + 1) n).entries.entries ++ (slice_index_or blocks (i + 1) n).entries.behind
    → option_map (λ (e : Entry). e.key) (slice_get first 0) ≡ Some key
    → keys.between last key ≡ place_key keys (drop i (block_lists blocks))
between_known keys r blocks i d n last key first lt planned l f k =
    let q : List Entry = (slice_index_or blocks (i + 1) n).entries.entries in
    let behind : List Entry = (slice_index_or blocks (i + 1) n).entries.behind in
    let some : q ≢ [] = (planned_at r blocks (i + 1) n lt planned).some in
    let next : first_key q ≡ key = first_known q behind key some (ap (λ (xs : List Entry). option_map (λ (e : Entry). e.key) (slice_get xs 0)) (sym f) ∙ k) in
    let before : last_key [] (slice_index_or blocks i d).entries.entries ≡ last = last_known (slice_index_or blocks i d).entries.entries last (sym l) in
    ap (λ (x : List ℕ). keys.between x key) (sym before)
    ∙ ap (λ (x : List ℕ). keys.between (last_key [] (slice_index_or blocks i d).entries.entries) x) (sym next)
    ∙ ap (λ (m : ℕ). keys.between (last_key [] (slice_index_or blocks i d).entries.entries) (first_key (slice_index_or blocks m n).entries.entries)) (suc_is i)
    ∙ sym (between_at keys blocks i d n (omega (arith, lt)))

pub above_known : (keys : IndexKeys) (blocks : List PlannedBlock) (i : ℕ) (d : PlannedBlock) (last : List ℕ) → i < length blocks → length blocks ≤ i + 1
    → Some last ≡ option_map (λ (e : Entry). e.key) (last_or None (slice_index_or blocks i d).entries.entries)
    → keys.above last ≡ place_key keys (drop i (block_lists blocks))
above_known keys blocks i d last lt ge l =
    let before : last_key [] (slice_index_or blocks i d).entries.entries ≡ last = last_known (slice_index_or blocks i d).entries.entries last (sym l) in
    ap keys.above (sym before) ∙ sym (above_at keys blocks i d (omega (arith, lt, ge)))
