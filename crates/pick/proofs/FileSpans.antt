-- The range from a smallest to a largest user key, as the range of files.
use Rattle.std.proofs.Common.{◌≡◌, ℕ, Bool, true, false, ◌||◌, ◌&&◌, List, [], ◌∷◌, ◌++◌, Some, refl, sym, ap, ◌∙◌, inl}
use Rattle.std.specs.List.{filter, slice_get}
use Rattle.std.specs.Cmp.{IsTotalOrder}
use Rattle.std.specs.declared.cmp.Ordering.{Ordering}
use Rattle.std.proofs.lemmas.List.Folds.{list_any-append}
use Rattle.edit.specs.Key.{user_of}
use Rattle.edit.specs.declared.meta.FileMeta.{FileMeta}
use Rattle.pick.specs.Ranges.{is_at_most, begins_by, ends_at_or_after, overlaps}
use Rattle.pick.specs.Spans.{lesser_user, greater_user, least_user, greatest_user, is_overlapping}
use Rattle.pick.proofs.Lists.{IsIn, any_from, filter_same}
use Rattle.pick.proofs.UserOrders.{at_most_lesser, at_most_greater}

or_assoc : (a b c : Bool) → ((a || b) || c) ≡ (a || (b || c))
or_assoc true b c = refl
or_assoc false b c = refl

or_none : (a : Bool) → a ≡ (a || false)
or_none true = refl
or_none false = refl

or_absorbed : (a b : Bool) → (a ≡ true → b ≡ true) → (a || b) ≡ b
or_absorbed true b h = sym (h refl)
or_absorbed false b h = refl

pub head_in : {A : Type 0} (xs : List A) (x : A) → slice_get xs 0 ≡ Some x → IsIn xs x
head_in [] x e = absurd cc
head_in (y ∷ ys) x e = inl (let same : y ≡ x = cc in sym same)

module _ (cmp : List ℕ → List ℕ → Ordering) (total : IsTotalOrder cmp) where
  least_test : (files : List FileMeta) (s k : List ℕ) → is_at_most cmp (least_user cmp s files) k ≡ (is_at_most cmp s k || begins_by cmp files k)
  least_test [] s k = or_none (is_at_most cmp s k)
  least_test (f ∷ files) s k =
      least_test files (lesser_user cmp s (user_of f.smallest)) k
      ∙ ap (λ b. b || begins_by cmp files k) (at_most_lesser cmp total s (user_of f.smallest) k)
      ∙ or_assoc (is_at_most cmp s k) (is_at_most cmp (user_of f.smallest) k) (begins_by cmp files k)

  greatest_test : (files : List FileMeta) (l k : List ℕ) → is_at_most cmp k (greatest_user cmp l files) ≡ (is_at_most cmp k l || ends_at_or_after cmp files k)
  greatest_test [] l k = or_none (is_at_most cmp k l)
  greatest_test (f ∷ files) l k =
      greatest_test files (greater_user cmp l (user_of f.largest)) k
      ∙ ap (λ b. b || ends_at_or_after cmp files k) (at_most_greater cmp total l (user_of f.largest) k)
      ∙ or_assoc (is_at_most cmp k l) (is_at_most cmp k (user_of f.largest)) (ends_at_or_after cmp files k)

  -- the range from the one user key to the other is that of the files
  pub record IsSpan (files : List FileMeta) (s l : List ℕ) : Type 0 where
    pub begins : (k : List ℕ) → is_at_most cmp s k ≡ begins_by cmp files k
    pub ends : (k : List ℕ) → is_at_most cmp k l ≡ ends_at_or_after cmp files k

  pub span_all : (files : List FileMeta) (first : FileMeta) → IsIn files first → IsSpan files (least_user cmp (user_of first.smallest) files) (greatest_user cmp (user_of first.largest) files)
  span_all files first i = record {
    begins = λ k. least_test files (user_of first.smallest) k ∙ or_absorbed (is_at_most cmp (user_of first.smallest) k) (begins_by cmp files k) (any_from (λ (f : FileMeta). is_at_most cmp (user_of f.smallest) k) files first i);
    ends = λ k. greatest_test files (user_of first.largest) k ∙ or_absorbed (is_at_most cmp k (user_of first.largest)) (ends_at_or_after cmp files k) (any_from (λ (f : FileMeta). is_at_most cmp k (user_of f.largest)) files first i);
  }

  pub span_more : (files more : List FileMeta) (s l : List ℕ) → IsSpan files s l → IsSpan (files ++ more) (least_user cmp s more) (greatest_user cmp l more)
  span_more files more s l span = record {
    begins = λ k. least_test more s k ∙ ap (λ b. b || begins_by cmp more k) (span.begins k) ∙ sym (list_any-append (λ (f : FileMeta). is_at_most cmp (user_of f.smallest) k) files more);
    ends = λ k. greatest_test more l k ∙ ap (λ b. b || ends_at_or_after cmp more k) (span.ends k) ∙ sym (list_any-append (λ (f : FileMeta). is_at_most cmp k (user_of f.largest)) files more);
  }

  pub overlapping_is : (files : List FileMeta) (s l : List ℕ) → IsSpan files s l → (others : List FileMeta) → filter (is_overlapping cmp s l) others ≡ filter (overlaps cmp files) others
  overlapping_is files s l span others =
      filter_same (is_overlapping cmp s l) (overlaps cmp files) others
      (λ f i. ap (λ b. b && is_at_most cmp (user_of f.smallest) l) (span.begins (user_of f.largest)) ∙ ap (λ b. begins_by cmp files (user_of f.largest) && b) (span.ends (user_of f.smallest)))
