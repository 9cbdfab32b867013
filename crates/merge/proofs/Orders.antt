-- Keys in order, and lists that never fall.
use Rattle.std.proofs.Common.{◌≡◌, ℕ, true, false, List, [], ◌∷◌, ◌++◌, drop, take, suc, zero, refl, sym, ap, ◌∙◌}
use Rattle.std.specs.List.{AllByRecursion}
use Rattle.std.specs.Cmp.{IsTotalOrder}
use Rattle.std.specs.Ordering.{is_lt, is_le, ordering_reverse}
use Rattle.std.specs.declared.cmp.Ordering.{Ordering}
use Rattle.std.specs.declared.cmp.Ordering.TheVariants.{Less, Equal, Greater}
use Rattle.table.specs.EncodedEntry.{Entry}
use Rattle.table.specs.Order.{internal_cmp}
use Rattle.table.proofs.Ordered.{internal_cmp-total}
use Rattle.table.specs.EntriesFrom.{NeverFalls}

-- ---- facts of all elements

pub all_weaker : {X : Type 0} (P Q : X → Type 0) → ((x : X) → P x → Q x) → (xs : List X) → AllByRecursion P xs → AllByRecursion Q xs
all_weaker P Q f [] h = tt
all_weaker P Q f (x ∷ xs) h = (f x h.0, all_weaker P Q f xs h.1)

pub all_append : {X : Type 0} (P : X → Type 0) (xs ys : List X) → AllByRecursion P xs → AllByRecursion P ys → AllByRecursion P (xs ++ ys)
all_append P [] ys h k = k
all_append P (x ∷ xs) ys h k = (h.0, all_append P xs ys h.1 k)

pub all_take : {X : Type 0} (P : X → Type 0) (n : ℕ) (xs : List X) → AllByRecursion P xs → AllByRecursion P (take n xs)
all_take P zero xs h = tt
all_take P (suc n) [] h = tt
all_take P (suc n) (x ∷ xs) h = (h.0, all_take P n xs h.1)

pub all_drop : {X : Type 0} (P : X → Type 0) (n : ℕ) (xs : List X) → AllByRecursion P xs → AllByRecursion P (drop n xs)
all_drop P zero xs h = h
all_drop P (suc n) [] h = tt
all_drop P (suc n) (x ∷ xs) h = all_drop P n xs h.1

-- ---- orders

-- what is at or before another isn't after it
not_behind : (o : Ordering) → is_le o ≡ true → is_lt (ordering_reverse o) ≡ false
not_behind Less h = refl
not_behind Equal h = refl
not_behind Greater h = absurd cc

at_most_back : (o : Ordering) → is_lt o ≡ false → is_le (ordering_reverse o) ≡ true
at_most_back Less h = absurd cc
at_most_back Equal h = refl
at_most_back Greater h = refl

module _ (cmp : List ℕ → List ℕ → Ordering) (total : IsTotalOrder cmp) where
  laws : IsTotalOrder (internal_cmp cmp)
  laws = internal_cmp-total total

  pub not_below : (a b : List ℕ) → is_le (internal_cmp cmp a b) ≡ true → is_lt (internal_cmp cmp b a) ≡ false
  not_below a b h = ap is_lt (laws.antisymm b a) ∙ not_behind (internal_cmp cmp a b) h

  pub at_most : (a b : List ℕ) → is_lt (internal_cmp cmp b a) ≡ false → is_le (internal_cmp cmp a b) ≡ true
  at_most a b h = ap is_le (laws.antisymm a b) ∙ at_most_back (internal_cmp cmp b a) h

  -- from a < b and b <= c, a < c
  pub lt_le_trans : (a b c : List ℕ) → internal_cmp cmp a b ≡ Less → is_le (internal_cmp cmp b c) ≡ true → internal_cmp cmp a c ≡ Less
  lt_le_trans a b c lt le = by_order (internal_cmp cmp b c) refl le
    where
      by_order : (o : Ordering) → internal_cmp cmp b c ≡ o → is_le o ≡ true → internal_cmp cmp a c ≡ Less
      by_order Less e h = laws.trans a b c lt e
      by_order Equal e h = laws.antisymm a c ∙ ap ordering_reverse (sym (laws.congr b c a e) ∙ laws.antisymm b a ∙ ap ordering_reverse lt)
      by_order Greater e h = absurd cc

  -- from a <= b and b <= c, a <= c
  pub le_trans : (a b c : List ℕ) → is_le (internal_cmp cmp a b) ≡ true → is_le (internal_cmp cmp b c) ≡ true → is_le (internal_cmp cmp a c) ≡ true
  le_trans a b c ab bc = by_order (internal_cmp cmp a b) refl ab
    where
      by_order : (o : Ordering) → internal_cmp cmp a b ≡ o → is_le o ≡ true → is_le (internal_cmp cmp a c) ≡ true
      by_order Less e h = ap is_le (lt_le_trans a b c e bc)
      by_order Equal e h = ap is_le (laws.congr a b c e) ∙ bc
      by_order Greater e h = absurd cc

-- ---- an entry before others

-- an entry is above this internal key
abbrev pub Above : (List ℕ → List ℕ → Ordering) → List ℕ → Entry → Type 0
Above cmp key e = internal_cmp cmp key e.key ≡ Less

-- an entry isn't below this internal key
abbrev pub From : (List ℕ → List ℕ → Ordering) → List ℕ → Entry → Type 0
From cmp key e = is_le (internal_cmp cmp key e.key) ≡ true

-- what never falls and starts at or above a key is wholly there
pub from_first : (cmp : List ℕ → List ℕ → Ordering) → IsTotalOrder cmp → (key : List ℕ) (e : Entry) (es : List Entry) → From cmp key e → AllByRecursion (From cmp e.key) es → AllByRecursion (From cmp key) es
from_first cmp total key e es h k = all_weaker (From cmp e.key) (From cmp key) (λ f le. le_trans cmp total key e.key f.key h le) es k

pub above_first : (cmp : List ℕ → List ℕ → Ordering) → IsTotalOrder cmp → (key : List ℕ) (e : Entry) (es : List Entry) → Above cmp key e → AllByRecursion (From cmp e.key) es → AllByRecursion (Above cmp key) es
above_first cmp total key e es h k = all_weaker (From cmp e.key) (Above cmp key) (λ f le. lt_le_trans cmp total key e.key f.key h le) es k

pub never_falls_drop : (cmp : List ℕ → List ℕ → Ordering) (n : ℕ) (es : List Entry) → NeverFalls cmp es → NeverFalls cmp (drop n es)
never_falls_drop cmp zero es h = h
never_falls_drop cmp (suc n) [] h = tt
never_falls_drop cmp (suc n) (e ∷ es) h = never_falls_drop cmp n es h.1
