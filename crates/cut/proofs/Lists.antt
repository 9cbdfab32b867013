-- Entries that are added one by one.
use Rattle.std.proofs.Common.{◌≡◌, ℕ, zero, suc, ◌+◌, ◌^◌, ◌<◌, ◌≤◌, List, [], ◌∷◌, ◌++◌, length, take, drop, sym, ap, ◌∙◌, arith, append_assoc}
use Rattle.std.specs.Prelude.{slice_get, Some}
use Rattle.std.specs.List.{AllByRecursion}
use Rattle.std.specs.Option.{option_map}
use Rattle.std.proofs.lemmas.List.{append-nil, take-append-drop}
use Rattle.std.proofs.lemmas.Option.{same_Some, none-some}
use Rattle.block.specs.EncodedEntry.{Entry}
use Rattle.block.specs.BlockFormat.{block}
use Rattle.block.specs.BuilderView.{with_entry}
use Rattle.block.proofs.Sizes.{block-grows, length-block-append}

pub suc_is : (n : ℕ) → n + 1 ≡ suc n
suc_is n = omega arith

-- what holds of all holds of each
pub all_at : {X : Type 0} (P : X → Type 0) (xs : List X) (i : ℕ) (x : X) → AllByRecursion P xs → slice_get xs i ≡ Some x → P x
all_at P [] i x h at = absurd (none-some x at)
all_at P (y ∷ ys) zero x h at = rw (sym (same_Some y x at)) h.0
all_at P (y ∷ ys) (suc i) x h at = all_at P ys i x h.1 at

-- ---- the entries of a block

longer : (r : ℕ) (q es : List Entry) → length (block r q) + length es ≤ length (block r (q ++ es))
longer r q [] = rw append-nil (omega arith)
longer r q (e ∷ es) =
    let one = block-grows r q e in
    let rest : length (block r (q ++ e ∷ [])) + length es ≤ length (block r (q ++ e ∷ es)) = rw (← append_assoc q (e ∷ []) es) (longer r (q ++ e ∷ []) es) in
    omega (arith, one.at_least, rest)

-- a block has more bytes than entries
pub length_le_block : (r : ℕ) (q : List Entry) → length q ≤ length (block r q)
length_le_block r q = omega (arith, longer r [] q)

-- the entry that a cursor over entries, and what stands after them, comes to
pub next_entry : (q behind : List Entry) (i : ℕ) (key value : List ℕ) → i < length q
    → option_map (λ (e : Entry). e.key) (slice_get (drop i (q ++ behind)) 0) ≡ Some key
    → option_map (λ (e : Entry). e.value) (slice_get (drop i (q ++ behind)) 0) ≡ Some value
    → with_entry (take i q) key value ≡ take (suc i) q
next_entry [] behind i key value lt k v = absurd (omega arith)
next_entry (e ∷ q) behind zero key value lt k v =
    ap (λ (x : List ℕ). record { key = x; value = value } ∷ []) (sym (same_Some e.key key k))
    ∙ ap (λ (x : List ℕ). record { key = e.key; value = x } ∷ []) (sym (same_Some e.value value v))
next_entry (e ∷ q) behind (suc i) key value lt k v = ap (λ (es : List Entry). e ∷ es) (next_entry q behind i key value (omega arith) k v)

-- a front of entries fits if all fit
pub front_fits : (r : ℕ) (q : List Entry) (n : ℕ) → length (block r q) ≤ 2 ^ 31 → length (block r (take n q)) ≤ 2 ^ 31
front_fits r q n h =
    let parts : take n q ++ drop n q ≡ q = take-append-drop n q in
    omega (arith, h, length-block-append r (take n q) (drop n q), ap (λ (x : List Entry). length (block r x)) parts)

-- the first of some entries, by its key and value
pub first_is : (es : List Entry) (key value : List ℕ) → option_map (λ (e : Entry). e.key) (slice_get es 0) ≡ Some key → option_map (λ (e : Entry). e.value) (slice_get es 0) ≡ Some value
    → with_entry [] key value ≡ take 1 es
first_is [] key value k v = absurd (none-some key k)
first_is (e ∷ es) key value k v =
    ap (λ (x : List ℕ). record { key = x; value = value } ∷ []) (sym (same_Some e.key key k))
    ∙ ap (λ (x : List ℕ). record { key = e.key; value = x } ∷ []) (sym (same_Some e.value value v))
