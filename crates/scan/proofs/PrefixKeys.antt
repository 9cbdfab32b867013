-- Keys that begin with given bytes lie between these and the next bytes.
use Rattle.std.proofs.Common.{◌≡◌, ◌≢◌, ℕ, zero, suc, ◌+◌, ◌<◌, List, [], ◌∷◌, ◌++◌, Some, None, length, replicate, slice_index, refl, sym, ap, ap₂, ◌∙◌, append_assoc, arith}
use Rattle.std.proofs.lemmas.Option.{same_Some}
use Rattle.std.specs.declared.cmp.Ordering.{Ordering}
use Rattle.std.specs.declared.cmp.Ordering.TheVariants.{Less, Equal, Greater}
use Rattle.std.specs.Ordering.{nat_cmp, ordering_then, MatchOrdering}
use Rattle.std.specs.Cmp.{nat_cmp_is, ranked}
use Rattle.table.specs.TableBytes.{AreBytes}
use Rattle.table.specs.Bytewise.{bytewise_cmp}
use Rattle.scan.specs.Prefixes.{Begins, IsPrefixEnd}

-- the first element, and the rest
abbrev first : List ℕ → ℕ
first [] = 0
first (x ∷ xs) = x

abbrev rest : List ℕ → List ℕ
rest [] = []
rest (x ∷ xs) = xs

later : (k : ℕ) (ks : List ℕ) → AreBytes (k ∷ ks) → AreBytes ks
later k ks fits i = fits (suc i)

-- bytes 0xff, many of them
abbrev full : ℕ → List ℕ
full n = replicate n 255

-- a key at or above them begins with them
full_from : (n : ℕ) (key : List ℕ) → AreBytes key → bytewise_cmp key (full n) ≢ Less → Begins (full n) key
full_from zero key fits h = refl
full_from (suc n) [] fits h = absurd (h refl)
full_from (suc n) (k ∷ ks) fits h = step (full_from n ks (later k ks fits)) (nat_cmp k 255) (ranked k 255 (nat_cmp k 255) refl) h
  where
    step : (bytewise_cmp ks (full n) ≢ Less → Begins (full n) ks) → (o : Ordering) → MatchOrdering o (k < 255) (k ≡ 255) (255 < k) → ordering_then o (bytewise_cmp ks (full n)) ≢ Less
        → Begins (full (suc n)) (k ∷ ks)
    step others Less is h = absurd (h refl)
    step others Equal is h = ap₂ (λ (x : ℕ) (xs : List ℕ). x ∷ xs) is (others h)
    step others Greater is h = let byte = fits 0 in absurd (omega arith)

from_full : (n : ℕ) (key : List ℕ) → Begins (full n) key → bytewise_cmp key (full n) ≢ Less
from_full zero [] h e = cc e
from_full zero (k ∷ ks) h e = cc e
from_full (suc n) [] h e = cc h
from_full (suc n) (k ∷ ks) h e =
    let same : nat_cmp k 255 ≡ Equal = sym (nat_cmp_is k 255 Equal (ap first h)) in
    from_full n ks (ap rest h) (sym (ap (λ (o : Ordering). ordering_then o (bytewise_cmp ks (full n))) same) ∙ e)

-- bytes, one that is not 0xff, and then bytes 0xff; and what ends their range
abbrev from_of : List ℕ → ℕ → ℕ → List ℕ
from_of xs b n = xs ++ b ∷ full n

abbrev end_of : List ℕ → ℕ → List ℕ
end_of xs b = xs ++ (b + 1) ∷ []

never_below_nothing : (ks : List ℕ) → bytewise_cmp ks [] ≡ Less → ⊥
never_below_nothing [] e = cc e
never_below_nothing (k ∷ ks) e = cc e

-- a key between them begins so
begins : (xs : List ℕ) (b n : ℕ) (key : List ℕ) → AreBytes key → bytewise_cmp key (from_of xs b n) ≢ Less → bytewise_cmp key (end_of xs b) ≡ Less → Begins (from_of xs b n) key
begins [] b n [] fits from before = absurd (from refl)
begins [] b n (k ∷ ks) fits from before = step (nat_cmp k b) (nat_cmp k (b + 1)) (ranked k b (nat_cmp k b) refl) (ranked k (b + 1) (nat_cmp k (b + 1)) refl) from before
  where
    step : (o p : Ordering) → MatchOrdering o (k < b) (k ≡ b) (b < k) → MatchOrdering p (k < b + 1) (k ≡ b + 1) (b + 1 < k) → ordering_then o (bytewise_cmp ks (full n)) ≢ Less
        → ordering_then p (bytewise_cmp ks []) ≡ Less → Begins (b ∷ full n) (k ∷ ks)
    step Less p is next from before = absurd (from refl)
    step Equal p is next from before = ap₂ (λ (x : ℕ) (xs : List ℕ). x ∷ xs) is (full_from n ks (later k ks fits) from)
    step Greater Less is next from before = absurd (omega arith)
    step Greater Equal is next from before = absurd (never_below_nothing ks before)
    step Greater Greater is next from before = cc before
begins (x ∷ xs) b n [] fits from before = absurd (from refl)
begins (x ∷ xs) b n (k ∷ ks) fits from before = step (begins xs b n ks (later k ks fits)) (nat_cmp k x) (ranked k x (nat_cmp k x) refl) from before
  where
    step : (bytewise_cmp ks (from_of xs b n) ≢ Less → bytewise_cmp ks (end_of xs b) ≡ Less → Begins (from_of xs b n) ks) → (o : Ordering) → MatchOrdering o (k < x) (k ≡ x) (x < k) → ordering_then o (bytewise_cmp ks (from_of xs b n)) ≢ Less → ordering_then o (bytewise_cmp ks (end_of xs b)) ≡ Less
        → Begins (x ∷ from_of xs b n) (k ∷ ks)
    step others Less is from before = absurd (from refl)
    step others Equal is from before = ap₂ (λ (y : ℕ) (ys : List ℕ). y ∷ ys) is (others from before)
    step others Greater is from before = cc before

-- a key that begins so is at or above the first, and below the second
begun : (xs : List ℕ) (b n : ℕ) (key : List ℕ) → Begins (from_of xs b n) key → (bytewise_cmp key (from_of xs b n) ≢ Less) × (bytewise_cmp key (end_of xs b) ≡ Less)
begun [] b n [] h = cc h
begun [] b n (k ∷ ks) h =
    let is : k ≡ b = ap first h in
    let same : nat_cmp k b ≡ Equal = sym (nat_cmp_is k b Equal is) in
    let below : nat_cmp k (b + 1) ≡ Less = sym (nat_cmp_is k (b + 1) Less (omega arith)) in (
      λ e. from_full n ks (ap rest h) (sym (ap (λ (o : Ordering). ordering_then o (bytewise_cmp ks (full n))) same) ∙ e),
      ap (λ (o : Ordering). ordering_then o (bytewise_cmp ks [])) below,
    )
begun (x ∷ xs) b n [] h = cc h
begun (x ∷ xs) b n (k ∷ ks) h =
    let same : nat_cmp k x ≡ Equal = sym (nat_cmp_is k x Equal (ap first h)) in
    let others = begun xs b n ks (ap rest h) in (
      λ e. others.0 (sym (ap (λ (o : Ordering). ordering_then o (bytewise_cmp ks (from_of xs b n))) same) ∙ e),
      ap (λ (o : Ordering). ordering_then o (bytewise_cmp ks (end_of xs b))) same ∙ others.1,
    )

-- the prefix is this front, and then bytes 0xff
abbrev pub IsFilled : List ℕ → List ℕ → Type 0
IsFilled prefix front = (n : ℕ) × (prefix ≡ front ++ full n)

-- the element between two parts
between : (xs ys : List ℕ) (x : ℕ) → slice_index (xs ++ x ∷ ys) (length xs) ≡ x
between [] ys x = refl
between (y ∷ xs) ys x = between xs ys x

-- the last byte of the front is a byte
pub last_fits : (prefix front rest : List ℕ) (last : ℕ) → front ≡ rest ++ last ∷ [] → IsFilled prefix front → AreBytes prefix → last < 256
last_fits prefix front rest last parts (n, whole) fits =
    let same : prefix ≡ rest ++ last ∷ full n = whole ∙ ap (λ (xs : List ℕ). xs ++ full n) parts ∙ append_assoc rest (last ∷ []) (full n) in
    let is : slice_index prefix (length rest) ≡ last = ap (λ (xs : List ℕ). slice_index xs (length rest)) same ∙ between rest (full n) last in
    let byte = fits (length rest) in
    omega arith

-- a front without its last byte, which is 0xff
pub filled-more : (prefix front rest : List ℕ) (last : ℕ) → front ≡ rest ++ last ∷ [] → last ≡ 255 → IsFilled prefix front → IsFilled prefix rest
filled-more prefix front rest last parts is (n, whole) =
    (suc n, whole ∙ ap (λ (xs : List ℕ). xs ++ full n) (parts ∙ ap (λ (b : ℕ). rest ++ b ∷ []) is) ∙ append_assoc rest (255 ∷ []) (full n))

-- the end of the range, if the last byte of the front is not 0xff
pub some_end : (prefix front rest end : List ℕ) (last : ℕ) → front ≡ rest ++ last ∷ [] → IsFilled prefix front → end ≡ rest ++ (last + 1) ∷ [] → IsPrefixEnd prefix (Some end)
some_end prefix front rest end last parts (n, whole) is key fits =
    let same : prefix ≡ from_of rest last n = whole ∙ ap (λ (xs : List ℕ). xs ++ full n) parts ∙ append_assoc rest (last ∷ []) (full n) in
    rw (same, is) (
      λ within. begins rest last n key fits (within.from (from_of rest last n) refl) (within.before (end_of rest last) refl),
      λ h. let parts = begun rest last n key h in record {
        from = λ x e. rw (← same_Some _ _ e) parts.0;
        before = λ x e. rw (← same_Some _ _ e) parts.1;
      },
    )

-- no end, if all bytes are 0xff
pub no_end : (prefix front : List ℕ) → length front ≡ 0 → IsFilled prefix front → IsPrefixEnd prefix None
no_end prefix (x ∷ xs) none filled key fits = absurd (omega arith)
no_end prefix [] none (n, whole) key fits =
    rw whole (
      λ within. full_from n key fits (within.from (full n) refl),
      λ h. record {
        from = λ x e. rw (← same_Some _ _ e) (from_full n key h);
        before = λ x e. cc e;
      },
    )
