-- One more data block is flushed.
use Rattle.std.proofs.Common.{◌≡◌, ℕ, ◌+◌, List, [], ◌∷◌, ◌++◌, length, refl, ap, ◌∙◌, add-zero, arith}
use Rattle.std.proofs.lemmas.List.{length-append, append-nil}
use Rattle.std.proofs.lemmas.List.Concat.{flat_map-append}
use Rattle.block.specs.EncodedEntry.{Entry}
use Rattle.block.specs.BlockFormat.{block}
use Rattle.block.specs.BuilderView.{last_key}
use Rattle.table.specs.Trailer.{stored_block}
use Rattle.table.proofs.Stored.{length-stored}
use Rattle.table.specs.declared.flushed_block.FlushedBlock.{FlushedBlock}
use Rattle.table.specs.Table.{IndexKeys, index_key, handle_entry, index_from, stored_blocks}
use Rattle.table.specs.EntryTests.{first_key}
use Rattle.table.specs.FlushedBlocks.{flushed_block_at, index_entries, next_key, index_before}
use Rattle.table.specs.BuilderState.{entries_of_parts}

pub stored_blocks-push : (r : ℕ) (parts : List (List Entry)) (p : List Entry) → stored_blocks r (parts ++ p ∷ []) ≡ stored_blocks r parts ++ stored_block (block r p)
stored_blocks-push r parts p =
    flat_map-append (λ x. stored_block (block r x)) parts (p ∷ [])
    ∙ ap (λ (x : List ℕ). stored_blocks r parts ++ x) (append-nil (stored_block (block r p)))

pub entries_of_parts-push : (parts : List (List Entry)) (p : List Entry) → entries_of_parts (parts ++ p ∷ []) ≡ entries_of_parts parts ++ p
entries_of_parts-push parts p =
    flat_map-append (λ x. x) parts (p ∷ []) ∙ ap (λ (x : List Entry). entries_of_parts parts ++ x) (append-nil p)

length-stored_blocks : (r : ℕ) (p : List Entry) (ps : List (List Entry)) → length (stored_blocks r (p ∷ ps)) ≡ length (block r p) + 5 + length (stored_blocks r ps)
length-stored_blocks r p ps =
    omega (arith, length-append (stored_block (block r p)) (stored_blocks r ps), length-stored (block r p))

next_key-push : (parts : List (List Entry)) (p : List Entry) (behind : List ℕ) → next_key (parts ++ p ∷ []) behind ≡ next_key parts (first_key p)
next_key-push [] p behind = refl
next_key-push (x ∷ xs) p behind = refl

-- the entry of the index that the last of some blocks has
abbrev last_entry : IndexKeys → ℕ → ℕ → List (List Entry) → List Entry → List ℕ → FlushedBlock
last_entry keys r at parts p behind = flushed_block_at (keys.between (last_key [] p) behind) (at + length (stored_blocks r parts)) (length (block r p))

pub index_before-push : (keys : IndexKeys) (r at : ℕ) (parts : List (List Entry)) (p : List Entry) (behind : List ℕ) → index_before keys r at (parts ++ p ∷ []) behind
    ≡ index_before keys r at parts (first_key p) ++ last_entry keys r at parts p behind ∷ []
index_before-push keys r at [] p behind = rw (add-zero at) refl
index_before-push keys r at (x ∷ xs) p behind =
    let next : ℕ = at + length (block r x) + 5 in
    let place : next + length (stored_blocks r xs) ≡ at + length (stored_blocks r (x ∷ xs)) = omega (arith, length-stored_blocks r x xs) in
    ap (λ (k : List ℕ). flushed_block_at (keys.between (last_key [] x) k) at (length (block r x)) ∷ index_before keys r next (xs ++ p ∷ []) behind) (next_key-push xs p behind)
    ∙ ap (λ (es : List FlushedBlock). flushed_block_at (keys.between (last_key [] x) (next_key xs (first_key p))) at (length (block r x)) ∷ es) (index_before-push keys r next xs p behind)
    ∙ ap (λ (n : ℕ). (flushed_block_at (keys.between (last_key [] x) (next_key xs (first_key p))) at (length (block r x)) ∷ index_before keys r next xs (first_key p)) ++ flushed_block_at (keys.between (last_key [] p) behind) n (length (block r p)) ∷ []) place

index_key-push : (keys : IndexKeys) (x : List Entry) (xs : List (List Entry)) (p : List Entry) → index_key keys x (xs ++ p ∷ []) ≡ keys.between (last_key [] x) (next_key xs (first_key p))
index_key-push keys x [] p = refl
index_key-push keys x (y ∷ ys) p = refl

-- the index of blocks, of which the last has a key above it
pub index_from-push : (keys : IndexKeys) (r at : ℕ) (parts : List (List Entry)) (p : List Entry) → index_from keys r at (parts ++ p ∷ [])
    ≡ index_entries (index_before keys r at parts (first_key p)) ++ handle_entry (keys.above (last_key [] p)) (at + length (stored_blocks r parts)) (length (block r p)) ∷ []
index_from-push keys r at [] p = rw (add-zero at) refl
index_from-push keys r at (x ∷ xs) p =
    let next : ℕ = at + length (block r x) + 5 in
    let place : next + length (stored_blocks r xs) ≡ at + length (stored_blocks r (x ∷ xs)) = omega (arith, length-stored_blocks r x xs) in
    let first : List ℕ → Entry = λ k. handle_entry k at (length (block r x)) in
    ap (λ (k : List ℕ). first k ∷ index_from keys r next (xs ++ p ∷ [])) (index_key-push keys x xs p)
    ∙ ap (λ (es : List Entry). first (keys.between (last_key [] x) (next_key xs (first_key p))) ∷ es) (index_from-push keys r next xs p)
    ∙ ap (λ (n : ℕ). (first (keys.between (last_key [] x) (next_key xs (first_key p))) ∷ index_entries (index_before keys r next xs (first_key p))) ++ handle_entry (keys.above (last_key [] p)) n (length (block r p)) ∷ []) place
