-- The user keys of a first file, as they grow over files.
use Rattle.std.proofs.Common.{◌≡◌, ℕ, ◌<◌, ◌≤◌, Bool, true, false, not, cond, ◌&&◌, List, [], ◌∷◌, None, length, inl, inr, arith, refl, sym, ap, ◌∙◌}
use Rattle.std.specs.List.{filter, find}
use Rattle.std.specs.Cmp.{IsTotalOrder}
use Rattle.std.specs.Ordering.{is_lt}
use Rattle.std.specs.declared.cmp.Ordering.{Ordering}
use Rattle.edit.specs.Key.{user_of}
use Rattle.edit.specs.declared.meta.FileMeta.{FileMeta}
use Rattle.pick.specs.Ranges.{is_at_most, begins_by, ends_at_or_after, overlaps}
use Rattle.pick.specs.ChosenFiles.{IsOverlapClosed}
use Rattle.pick.specs.Spans.{lesser_user, greater_user, is_overlapping, is_covering}
use Rattle.pick.specs.Choices.{Reaches, IsGrown}
use Rattle.pick.proofs.Lists.{IsIn, all_in, all_from, any_from, any_gives, in_filter, or_left, or_right, and_both, and_first, and_second, find_none, false_true}
use Rattle.pick.proofs.UserOrders.{le_refl, le_trans, at_most_lesser, at_most_greater}

-- what holds of the range whenever it has grown
pub record IsGrowing (cmp : List ℕ → List ℕ → Ordering) (files : List FileMeta) (first : FileMeta) (smallest largest : List ℕ) : Type 0 where
  pub with_first : is_covering cmp smallest largest first ≡ true
  pub least : (other : FileMeta → Bool) → IsOverlapClosed cmp files other → Reaches cmp (filter other files) (user_of first.smallest) (user_of first.largest) → Reaches cmp (filter other files) smallest largest

-- ---- how many pass a test

kept_le : {A : Type 0} (x y : A) (xs ys : List A) (b c : Bool) → (b ≡ true → c ≡ true) → length xs ≤ length ys → length (cond b (x ∷ xs) xs) ≤ length (cond c (y ∷ ys) ys)
kept_le x y xs ys true true h le = omega arith
kept_le x y xs ys true false h le = false_true false (h refl) refl
kept_le x y xs ys false true h le = omega arith
kept_le x y xs ys false false h le = le

fewer : {A : Type 0} (p r : A → Bool) (xs : List A) → ((q : A) → IsIn xs q → r q ≡ true → p q ≡ true) → length (filter r xs) ≤ length (filter p xs)
fewer p r [] h = omega arith
fewer p r (x ∷ xs) h = kept_le x x (filter r xs) (filter p xs) (r x) (p x) (h x (inl refl)) (fewer p r xs (λ q i. h q (inr i)))

kept_lt : {A : Type 0} (x : A) (xs ys : List A) (b c : Bool) → b ≡ false → c ≡ true → length xs ≤ length ys → length (cond b (x ∷ xs) xs) < length (cond c (x ∷ ys) ys)
kept_lt x xs ys true c e f le = false_true true refl e
kept_lt x xs ys false true e f le = omega arith
kept_lt x xs ys false false e f le = false_true false f refl

lt_kept : {A : Type 0} (x : A) (xs ys : List A) (b c : Bool) → (b ≡ true → c ≡ true) → length xs < length ys → length (cond b (x ∷ xs) xs) < length (cond c (x ∷ ys) ys)
lt_kept x xs ys true true h lt = omega arith
lt_kept x xs ys true false h lt = false_true false (h refl) refl
lt_kept x xs ys false true h lt = omega arith
lt_kept x xs ys false false h lt = lt

pub one_fewer : {A : Type 0} (p r : A → Bool) (xs : List A) → ((q : A) → IsIn xs q → r q ≡ true → p q ≡ true) → (x : A) → IsIn xs x → p x ≡ true → r x ≡ false → length (filter r xs) < length (filter p xs)
one_fewer p r [] h x i e f = absurd i
one_fewer p r (y ∷ ys) h x (inl same) e f =
    kept_lt y (filter r ys) (filter p ys) (r y) (p y) (ap r (sym same) ∙ f) (ap p (sym same) ∙ e) (fewer p r ys (λ q i. h q (inr i)))
one_fewer p r (y ∷ ys) h x (inr i) e f = lt_kept y (filter r ys) (filter p ys) (r y) (p y) (h y (inl refl)) (one_fewer p r ys (λ q j. h q (inr j)) x i e f)

pub not_true : (b : Bool) → not b ≡ true → b ≡ false
not_true true e = absurd cc
not_true false e = refl

true_not : (b : Bool) → b ≡ true → not b ≡ false
true_not b e = ap not e

pub overlaps_then : (a b : Bool) → (a && not b) ≡ false → a ≡ true → b ≡ true
overlaps_then true true h e = refl
overlaps_then true false h e = absurd cc
overlaps_then false b h e = absurd cc

module _ (cmp : List ℕ → List ℕ → Ordering) (total : IsTotalOrder cmp) where
  pub begins_on : (files : List FileMeta) (a b : List ℕ) → begins_by cmp files a ≡ true → is_at_most cmp a b ≡ true → begins_by cmp files b ≡ true
  begins_on files a b h k =
      let x = any_gives (λ (f : FileMeta). is_at_most cmp (user_of f.smallest) a) files h in
      any_from (λ (f : FileMeta). is_at_most cmp (user_of f.smallest) b) files x.item x.inside (le_trans cmp total (user_of x.item.smallest) a b x.passes k)

  pub ends_on : (files : List FileMeta) (a b : List ℕ) → ends_at_or_after cmp files b ≡ true → is_at_most cmp a b ≡ true → ends_at_or_after cmp files a ≡ true
  ends_on files a b h k =
      let x = any_gives (λ (f : FileMeta). is_at_most cmp b (user_of f.largest)) files h in
      any_from (λ (f : FileMeta). is_at_most cmp a (user_of f.largest)) files x.item x.inside (le_trans cmp total a b (user_of x.item.largest) k x.passes)

  -- what overlaps a range overlaps the files that reach as far
  pub overlaps_reaching : (files : List FileMeta) (s l : List ℕ) (f : FileMeta) → Reaches cmp files s l → is_overlapping cmp s l f ≡ true → overlaps cmp files f ≡ true
  overlaps_reaching files s l f r h =
      and_both (begins_by cmp files (user_of f.largest)) (ends_at_or_after cmp files (user_of f.smallest))
      (begins_on files s (user_of f.largest) r.begins (and_first (is_at_most cmp s (user_of f.largest)) (is_at_most cmp (user_of f.smallest) l) h))
      (ends_on files (user_of f.smallest) l r.ends (and_second (is_at_most cmp s (user_of f.largest)) (is_at_most cmp (user_of f.smallest) l) h))

  -- a file's user keys are reached by files that hold it
  pub reaches_own : (files : List FileMeta) (f : FileMeta) → IsIn files f → Reaches cmp files (user_of f.smallest) (user_of f.largest)
  reaches_own files f i = record {
    begins = any_from (λ (g : FileMeta). is_at_most cmp (user_of g.smallest) (user_of f.smallest)) files f i (le_refl cmp total (user_of f.smallest));
    ends = any_from (λ (g : FileMeta). is_at_most cmp (user_of f.largest) (user_of g.largest)) files f i (le_refl cmp total (user_of f.largest));
  }

  one_of : (P : List ℕ → Type 0) (b : Bool) (x y : List ℕ) → P x → P y → P (cond b x y)
  one_of P true x y p q = p
  one_of P false x y p q = q

  -- the range with the user keys of one file more reaches no further than two that are reached
  pub reaches_with : (files : List FileMeta) (s l a b : List ℕ) → Reaches cmp files s l → Reaches cmp files a b → Reaches cmp files (lesser_user cmp s a) (greater_user cmp l b)
  reaches_with files s l a b r t = record {
    begins = one_of (λ k. begins_by cmp files k ≡ true) (is_lt (cmp a s)) a s t.begins r.begins;
    ends = one_of (λ k. ends_at_or_after cmp files k ≡ true) (is_lt (cmp l b)) b l t.ends r.ends;
  }

  -- what lies in the range lies in the wider one
  pub covers_on : (s l a b : List ℕ) (f : FileMeta) → is_covering cmp s l f ≡ true → is_covering cmp (lesser_user cmp s a) (greater_user cmp l b) f ≡ true
  covers_on s l a b f h =
      and_both (is_at_most cmp (lesser_user cmp s a) (user_of f.smallest)) (is_at_most cmp (user_of f.largest) (greater_user cmp l b))
      (at_most_lesser cmp total s a (user_of f.smallest) ∙ or_left (is_at_most cmp s (user_of f.smallest)) (is_at_most cmp a (user_of f.smallest)) (and_first (is_at_most cmp s (user_of f.smallest)) (is_at_most cmp (user_of f.largest) l) h))
      (at_most_greater cmp total l b (user_of f.largest) ∙ or_left (is_at_most cmp (user_of f.largest) l) (is_at_most cmp (user_of f.largest) b) (and_second (is_at_most cmp s (user_of f.smallest)) (is_at_most cmp (user_of f.largest) l) h))

  -- a file lies in the range that was made wider for it
  pub covers_own : (s l : List ℕ) (f : FileMeta) → is_covering cmp (lesser_user cmp s (user_of f.smallest)) (greater_user cmp l (user_of f.largest)) f ≡ true
  covers_own s l f =
      let a = user_of f.smallest in
      let b = user_of f.largest in
      and_both (is_at_most cmp (lesser_user cmp s a) a) (is_at_most cmp b (greater_user cmp l b))
      (at_most_lesser cmp total s a a ∙ or_right (is_at_most cmp s a) (is_at_most cmp a a) (le_refl cmp total a))
      (at_most_greater cmp total l b b ∙ or_right (is_at_most cmp b l) (is_at_most cmp b b) (le_refl cmp total b))

  covers_itself : (f : FileMeta) → is_covering cmp (user_of f.smallest) (user_of f.largest) f ≡ true
  covers_itself f = and_both (is_at_most cmp (user_of f.smallest) (user_of f.smallest)) (is_at_most cmp (user_of f.largest) (user_of f.largest)) (le_refl cmp total (user_of f.smallest)) (le_refl cmp total (user_of f.largest))

  pub growing_none : (files : List FileMeta) (first : FileMeta) → IsGrowing cmp files first (user_of first.smallest) (user_of first.largest)
  growing_none files first = record {
    with_first = covers_itself first;
    least = λ other closed r. r;
  }

  pub growing_more : (files : List FileMeta) (first : FileMeta) (s l : List ℕ) (f : FileMeta) → IsGrowing cmp files first s l → IsIn files f → is_overlapping cmp s l f ≡ true
      → IsGrowing cmp files first (lesser_user cmp s (user_of f.smallest)) (greater_user cmp l (user_of f.largest))
  growing_more files first s l f g i h = record {
    with_first = covers_on s l (user_of f.smallest) (user_of f.largest) first g.with_first;
    least = λ other closed r.
        let reached = g.least other closed r in
        let chosen = all_in (λ (q : FileMeta). overlaps cmp (filter other files) q ≡ true → other q ≡ true) files closed f i (overlaps_reaching (filter other files) s l f reached h) in
        reaches_with (filter other files) s l (user_of f.smallest) (user_of f.largest) reached (reaches_own (filter other files) f (in_filter other files f i chosen));
  }

  -- fewer files lie outside then
  pub growing_less : (files : List FileMeta) (s l : List ℕ) (f : FileMeta) → IsIn files f → is_covering cmp s l f ≡ false
      → length (filter (λ (q : FileMeta). not (is_covering cmp (lesser_user cmp s (user_of f.smallest)) (greater_user cmp l (user_of f.largest)) q)) files) < length (filter (λ (q : FileMeta). not (is_covering cmp s l q)) files)
  growing_less files s l f i h =
      let a = user_of f.smallest in
      let b = user_of f.largest in
      one_fewer (λ (q : FileMeta). not (is_covering cmp s l q)) (λ (q : FileMeta). not (is_covering cmp (lesser_user cmp s a) (greater_user cmp l b) q)) files
      (λ q j e. outside q (is_covering cmp s l q) refl e) f i (ap not h) (true_not (is_covering cmp (lesser_user cmp s a) (greater_user cmp l b) f) (covers_own s l f))
    where
      outside : (q : FileMeta) (t : Bool) → is_covering cmp s l q ≡ t → not (is_covering cmp (lesser_user cmp s (user_of f.smallest)) (greater_user cmp l (user_of f.largest)) q) ≡ true → not t ≡ true
      outside q true e n = false_true (is_covering cmp (lesser_user cmp s (user_of f.smallest)) (greater_user cmp l (user_of f.largest)) q) (covers_on s l (user_of f.smallest) (user_of f.largest) q e) (not_true (is_covering cmp (lesser_user cmp s (user_of f.smallest)) (greater_user cmp l (user_of f.largest)) q) n)
      outside q false e n = refl

  pub grown_all : (files : List FileMeta) (first : FileMeta) (s l : List ℕ) → IsGrowing cmp files first s l → find (λ (f : FileMeta). is_overlapping cmp s l f && not (is_covering cmp s l f)) files ≡ None → IsGrown cmp files first s l
  grown_all files first s l g none = record {
    with_first = g.with_first;
    rests = all_from (λ (f : FileMeta). is_overlapping cmp s l f ≡ true → is_covering cmp s l f ≡ true) files (λ q i. overlaps_then (is_overlapping cmp s l q) (is_covering cmp s l q) (find_none (λ (f : FileMeta). is_overlapping cmp s l f && not (is_covering cmp s l f)) files none q i));
    least = g.least;
  }
