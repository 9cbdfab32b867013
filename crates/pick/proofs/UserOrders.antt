-- Total orders of user keys, as tests.
use Rattle.std.proofs.Common.{◌≡◌, ℕ, Bool, true, false, cond, ◌||◌, List, refl, ap, ◌∙◌}
use Rattle.std.specs.Cmp.{IsTotalOrder}
use Rattle.std.specs.Ordering.{is_lt, is_le, is_gt, ordering_reverse}
use Rattle.std.specs.declared.cmp.Ordering.{Ordering}
use Rattle.std.specs.declared.cmp.Ordering.TheVariants.{Less, Equal, Greater}
use Rattle.std.proofs.lemmas.Cmp.{upto, tied_itself}
use Rattle.pick.specs.Ranges.{is_at_most}
use Rattle.pick.specs.Spans.{lesser_user, greater_user}

le_not_gt : (o : Ordering) → is_le o ≡ true → is_gt o ≡ false
le_not_gt Less e = refl
le_not_gt Equal e = refl
le_not_gt Greater e = absurd cc

not_gt_le : (o : Ordering) → is_gt o ≡ false → is_le o ≡ true
not_gt_le Less e = refl
not_gt_le Equal e = refl
not_gt_le Greater e = absurd cc

lt_less : (o : Ordering) → is_lt o ≡ true → o ≡ Less
lt_less Less e = refl
lt_less Equal e = absurd cc
lt_less Greater e = absurd cc

not_lt_back : (o : Ordering) → is_lt o ≡ false → is_le (ordering_reverse o) ≡ true
not_lt_back Less e = absurd cc
not_lt_back Equal e = refl
not_lt_back Greater e = refl

le_not_back : (o : Ordering) → is_le o ≡ true → is_lt (ordering_reverse o) ≡ false
le_not_back Less e = refl
le_not_back Equal e = refl
le_not_back Greater e = absurd cc

module _ (cmp : List ℕ → List ℕ → Ordering) (total : IsTotalOrder cmp) where
  abbrev le : List ℕ → List ℕ → Bool
  le a b = is_at_most cmp a b

  pub le_refl : (a : List ℕ) → is_at_most cmp a a ≡ true
  le_refl a = ap is_le (tied_itself total a)

  pub le_trans : (a b c : List ℕ) → is_at_most cmp a b ≡ true → is_at_most cmp b c ≡ true → is_at_most cmp a c ≡ true
  le_trans a b c h k = not_gt_le (cmp a c) (upto total a b c (le_not_gt (cmp a b) h) (le_not_gt (cmp b c) k))

  lt_le : (a b : List ℕ) → is_lt (cmp a b) ≡ true → is_at_most cmp a b ≡ true
  lt_le a b h = ap is_le (lt_less (cmp a b) h)

  pub not_lt_le : (a b : List ℕ) → is_lt (cmp b a) ≡ false → is_at_most cmp a b ≡ true
  not_lt_le a b h = ap is_le (total.antisymm a b) ∙ not_lt_back (cmp b a) h

  -- the test of the lesser is either test
  either_lesser : (a b k : List ℕ) (t : Bool) → is_lt (cmp b a) ≡ t → (p q : Bool) → is_at_most cmp a k ≡ p → is_at_most cmp b k ≡ q → is_at_most cmp (cond t b a) k ≡ (p || q)
  either_lesser a b k true h true q e f = le_trans b a k (lt_le b a h) e
  either_lesser a b k true h false q e f = f
  either_lesser a b k false h true q e f = e
  either_lesser a b k false h false true e f = le_trans a b k (not_lt_le a b h) f
  either_lesser a b k false h false false e f = e

  pub at_most_lesser : (a b k : List ℕ) → is_at_most cmp (lesser_user cmp a b) k ≡ (is_at_most cmp a k || is_at_most cmp b k)
  at_most_lesser a b k = either_lesser a b k (is_lt (cmp b a)) refl (is_at_most cmp a k) (is_at_most cmp b k) refl refl

  either_greater : (a b k : List ℕ) (t : Bool) → is_lt (cmp a b) ≡ t → (p q : Bool) → is_at_most cmp k a ≡ p → is_at_most cmp k b ≡ q → is_at_most cmp k (cond t b a) ≡ (p || q)
  either_greater a b k true h true q e f = le_trans k a b e (lt_le a b h)
  either_greater a b k true h false q e f = f
  either_greater a b k false h true q e f = e
  either_greater a b k false h false true e f = le_trans k b a f (not_lt_le b a h)
  either_greater a b k false h false false e f = e

  pub at_most_greater : (a b k : List ℕ) → is_at_most cmp k (greater_user cmp a b) ≡ (is_at_most cmp k a || is_at_most cmp k b)
  at_most_greater a b k = either_greater a b k (is_lt (cmp a b)) refl (is_at_most cmp k a) (is_at_most cmp k b) refl refl

  pub lesser_same : (a b : List ℕ) → is_at_most cmp a b ≡ true → lesser_user cmp a b ≡ a
  lesser_same a b h = ap (λ (t : Bool). cond t b a) (ap is_lt (total.antisymm b a) ∙ le_not_back (cmp a b) h)
