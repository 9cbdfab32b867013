-- Sets of deleted files, put together.
use Rattle.std.proofs.Common.{◌≡◌, ◌⊎◌, ℕ, Bool, true, false, ◌&&◌, ◌||◌, List, [], ◌∷◌, refl, sym, ap, subst, ◌∙◌, inl, inr, eqb-true}
use Rattle.std.specs.List.{AllByRecursion, fold, list_all, list_any}
use Rattle.std.specs.List.Sorted.{IsStrictlySortedBy}
use Rattle.std.specs.BTreeSet.{insert_key}
use Rattle.std.specs.Cmp.{IsTotalOrder}
use Rattle.std.specs.Ordering.{is_eq, match_ordering, nat_cmp}
use Rattle.std.specs.declared.cmp.Ordering.{Ordering}
use Rattle.std.specs.declared.cmp.Ordering.TheVariants.{Less, Equal, Greater}
use Rattle.std.proofs.lemmas.Cmp.{nat_cmp_total, on_total, then_total, tied_itself}
use Rattle.edit.specs.Edit.{deleted_cmp}
use Rattle.edit.specs.declared.meta.DeletedFile.{DeletedFile}
use Rattle.edit.proofs.Inserted.{IsIn, from_all, sorted_all}
use Rattle.edit.proofs.Tested.{both_true, is_eq-nat_cmp, is_eq-then}

pub deleted_total : IsTotalOrder deleted_cmp
deleted_total = then_total (on_total (λ (f : DeletedFile). f.level) nat_cmp_total) (on_total (λ (f : DeletedFile). f.number) nat_cmp_total)

abbrev put : List DeletedFile → DeletedFile → List DeletedFile
put = insert_key deleted_cmp

abbrev pub puts : List DeletedFile → List DeletedFile → List DeletedFile
puts = fold (insert_key deleted_cmp)

one_place : (a b : DeletedFile) → a.level ≡ b.level → a.number ≡ b.number → a ≡ b
one_place a b levels numbers = ap (λ (n : ℕ). record { level = n; number = a.number }) levels ∙ ap (λ (n : ℕ). record { level = b.level; number = n }) numbers

-- what ties is the same
pub tied : (a b : DeletedFile) → deleted_cmp a b ≡ Equal → a ≡ b
tied a b e =
    let both = both_true (is_eq (nat_cmp a.level b.level)) (is_eq (nat_cmp a.number b.number)) (sym (is_eq-then (nat_cmp a.level b.level) (nat_cmp a.number b.number)) ∙ ap is_eq e) in
    one_place a b (eqb-true a.level b.level (sym (is_eq-nat_cmp a.level b.level) ∙ both.0)) (eqb-true a.number b.number (sym (is_eq-nat_cmp a.number b.number) ∙ both.1))

-- ---- members

abbrev compared : DeletedFile → DeletedFile → List DeletedFile → Ordering → List DeletedFile
compared k x xs o = match_ordering o (k ∷ x ∷ xs) (x ∷ xs) (x ∷ put xs k)

into_compared : (x : DeletedFile) (xs : List DeletedFile) (k q : DeletedFile) → IsIn (x ∷ xs) q → (IsIn xs q → IsIn (put xs k) q) → (o : Ordering) → IsIn (compared k x xs o) q
into_compared x xs k q h rest Less = inr h
into_compared x xs k q h rest Equal = h
into_compared x xs k q (inl e) rest Greater = inl e
into_compared x xs k q (inr i) rest Greater = inr (rest i)

into_put : (ks : List DeletedFile) (k q : DeletedFile) → IsIn ks q → IsIn (put ks k) q
into_put [] k q h = absurd h
into_put (x ∷ xs) k q h = into_compared x xs k q h (into_put xs k q) (deleted_cmp k x)

self_compared : (x : DeletedFile) (xs : List DeletedFile) (k : DeletedFile) → IsIn (put xs k) k → (o : Ordering) → deleted_cmp k x ≡ o → IsIn (compared k x xs o) k
self_compared x xs k rest Less e = inl refl
self_compared x xs k rest Equal e = inl (tied k x e)
self_compared x xs k rest Greater e = inr rest

self_put : (ks : List DeletedFile) (k : DeletedFile) → IsIn (put ks k) k
self_put [] k = inl refl
self_put (x ∷ xs) k = self_compared x xs k (self_put xs k) (deleted_cmp k x) refl

into_front : (done fs : List DeletedFile) (q : DeletedFile) → IsIn done q → IsIn (puts done fs) q
into_front done [] q h = h
into_front done (f ∷ fs) q h = into_front (put done f) fs q (into_put done f q h)

into_back : (done fs : List DeletedFile) (q : DeletedFile) → IsIn fs q → IsIn (puts done fs) q
into_back done [] q h = absurd h
into_back done (f ∷ fs) q (inl same) = into_front (put done f) fs q (subst (IsIn (put done f)) (sym same) (self_put done f))
into_back done (f ∷ fs) q (inr i) = into_back (put done f) fs q i

from_put : (ks : List DeletedFile) (k q : DeletedFile) → IsIn (put ks k) q → IsIn ks q ⊎ (q ≡ k)
from_put ks k q h = elim (from_all deleted_cmp deleted_total ks (k ∷ []) q h) [ inl i ↦ inl i | inr i ↦ elim i [ inl same ↦ inr same | inr none ↦ absurd none ] ]

-- ---- lists in order with the same members

each : (P : DeletedFile → Type 0) (xs : List DeletedFile) → AllByRecursion P xs → (q : DeletedFile) → IsIn xs q → P q
each P [] h q i = absurd i
each P (x ∷ xs) h q (inl same) = subst P (sym same) h.0
each P (x ∷ xs) h q (inr i) = each P xs h.1 q i

not_itself : (x : DeletedFile) → deleted_cmp x x ≡ Less → ⊥
not_itself x e = let equal : deleted_cmp x x ≡ Equal = tied_itself deleted_total x in let both : Less ≡ Equal = sym e ∙ equal in absurd cc

not_both : (x y : DeletedFile) → deleted_cmp x y ≡ Less → deleted_cmp y x ≡ Less → ⊥
not_both x y e f = not_itself x (deleted_total.trans x y x e f)

heads : (x y : DeletedFile) (xs ys : List DeletedFile) → IsStrictlySortedBy deleted_cmp (x ∷ xs) → IsStrictlySortedBy deleted_cmp (y ∷ ys) → IsIn (y ∷ ys) x → IsIn (x ∷ xs) y → x ≡ y
unfolding IsStrictlySortedBy
heads x y xs ys sx sy (inl e) back = e
heads x y xs ys sx sy (inr e) (inl f) = sym f
heads x y xs ys sx sy (inr e) (inr f) = absurd (not_both x y (each (λ q. deleted_cmp x q ≡ Less) xs sx.0 y f) (each (λ q. deleted_cmp y q ≡ Less) ys sy.0 x e))

in_tail : (x y : DeletedFile) (xs ys : List DeletedFile) → IsStrictlySortedBy deleted_cmp (x ∷ xs) → x ≡ y → (q : DeletedFile) → IsIn xs q → IsIn (y ∷ ys) q → IsIn ys q
unfolding IsStrictlySortedBy
in_tail x y xs ys sx same q e (inl f) = absurd (not_itself x (subst (λ (z : DeletedFile). deleted_cmp x z ≡ Less) (f ∙ sym same) (each (λ z. deleted_cmp x z ≡ Less) xs sx.0 q e)))
in_tail x y xs ys sx same q e (inr f) = f

sorted_tail : (x : DeletedFile) (xs : List DeletedFile) → IsStrictlySortedBy deleted_cmp (x ∷ xs) → IsStrictlySortedBy deleted_cmp xs
unfolding IsStrictlySortedBy
sorted_tail x xs h = h.1

same_sorted : (xs ys : List DeletedFile) → IsStrictlySortedBy deleted_cmp xs → IsStrictlySortedBy deleted_cmp ys → ((q : DeletedFile) → IsIn xs q → IsIn ys q) → ((q : DeletedFile) → IsIn ys q → IsIn xs q) → xs ≡ ys
same_sorted [] [] sx sy h k = refl
same_sorted [] (y ∷ ys) sx sy h k = absurd (k y (inl refl))
same_sorted (x ∷ xs) [] sx sy h k = absurd (h x (inl refl))
same_sorted (x ∷ xs) (y ∷ ys) sx sy h k =
    let same = heads x y xs ys sx sy (h x (inl refl)) (k y (inl refl)) in
    let rest = same_sorted xs ys (sorted_tail x xs sx) (sorted_tail y ys sy) (λ q e. in_tail x y xs ys sx same q e (h q (inr e))) (λ q e. in_tail y x ys xs sy (sym same) q e (k q (inr e))) in
    ap (λ (z : DeletedFile). z ∷ xs) same ∙ ap (λ (zs : List DeletedFile). y ∷ zs) rest

pub put_sorted : (ks : List DeletedFile) (k : DeletedFile) → IsStrictlySortedBy deleted_cmp ks → IsStrictlySortedBy deleted_cmp (put ks k)
put_sorted ks k h = sorted_all deleted_cmp deleted_total ks (k ∷ []) h

-- one more in the later set is one more in both
pub put_later : (done later : List DeletedFile) (k : DeletedFile) → IsStrictlySortedBy deleted_cmp done → IsStrictlySortedBy deleted_cmp later → puts done (put later k) ≡ put (puts done later) k
put_later done later k sd sl =
    same_sorted (puts done (put later k)) (put (puts done later) k) (sorted_all deleted_cmp deleted_total done (put later k) sd) (put_sorted (puts done later) k (sorted_all deleted_cmp deleted_total done later sd)) to back
  where
    to : (q : DeletedFile) → IsIn (puts done (put later k)) q → IsIn (put (puts done later) k) q
    to q h = elim (from_all deleted_cmp deleted_total done (put later k) q h) [
      | inl i ↦ into_put (puts done later) k q (into_front done later q i)
      | inr i ↦ elim (from_put later k q i) [
        | inl j ↦ into_put (puts done later) k q (into_back done later q j)
        | inr same ↦ subst (IsIn (put (puts done later) k)) (sym same) (self_put (puts done later) k)
      ]
    ]

    back : (q : DeletedFile) → IsIn (put (puts done later) k) q → IsIn (puts done (put later k)) q
    back q h = elim (from_put (puts done later) k q h) [
      | inl i ↦ elim (from_all deleted_cmp deleted_total done later q i) [
        | inl j ↦ into_front done (put later k) q j
        | inr j ↦ into_back done (put later k) q (into_put later k q j)
      ]
      | inr same ↦ into_back done (put later k) q (subst (IsIn (put later k)) (sym same) (self_put later k))
    ]

-- ---- what passes

or_turn : (a b c : Bool) → (a || (b || c)) ≡ (b || (a || c))
or_turn true true c = refl
or_turn true false c = refl
or_turn false b c = refl

or_twice : (a b : Bool) → (a || b) ≡ (a || (a || b))
or_twice true b = refl
or_twice false b = refl

or_last : (a b c : Bool) → ((a || b) || c) ≡ (b || (a || c))
or_last true true c = refl
or_last true false c = refl
or_last false b c = refl

pub and_both : (a b : Bool) → a ≡ true → b ≡ true → (a && b) ≡ true
and_both true b x y = y
and_both false b x y = x

module _ (p : DeletedFile → Bool) where
  any_compared : (x : DeletedFile) (xs : List DeletedFile) (k : DeletedFile) → list_any p (put xs k) ≡ (p k || list_any p xs) → (o : Ordering) → deleted_cmp k x ≡ o → list_any p (compared k x xs o) ≡ (p k || (p x || list_any p xs))
  any_compared x xs k rest Less e = refl
  any_compared x xs k rest Equal e = or_twice (p x) (list_any p xs) ∙ ap (λ (b : Bool). b || (p x || list_any p xs)) (ap p (sym (tied k x e)))
  any_compared x xs k rest Greater e = ap (λ (b : Bool). p x || b) rest ∙ or_turn (p x) (p k) (list_any p xs)

  any_put : (ks : List DeletedFile) (k : DeletedFile) → list_any p (put ks k) ≡ (p k || list_any p ks)
  any_put [] k = refl
  any_put (x ∷ xs) k = any_compared x xs k (any_put xs k) (deleted_cmp k x) refl

  -- one of both sets passes
  pub any_puts : (done fs : List DeletedFile) → list_any p (puts done fs) ≡ (list_any p done || list_any p fs)
  any_puts done [] = or_none (list_any p done)
    where
      or_none : (a : Bool) → a ≡ (a || false)
      or_none true = refl
      or_none false = refl
  any_puts done (f ∷ fs) = any_puts (put done f) fs ∙ ap (λ (b : Bool). b || list_any p fs) (any_put done f) ∙ or_last (p f) (list_any p done) (list_any p fs)

  all_compared : (x : DeletedFile) (xs : List DeletedFile) (k : DeletedFile) → list_all p (x ∷ xs) ≡ true → p k ≡ true → list_all p (put xs k) ≡ true → (o : Ordering) → list_all p (compared k x xs o) ≡ true
  all_compared x xs k h own rest Less = and_both (p k) (list_all p (x ∷ xs)) own h
  all_compared x xs k h own rest Equal = h
  all_compared x xs k h own rest Greater = let parts = both_true (p x) (list_all p xs) h in and_both (p x) (list_all p (put xs k)) parts.0 rest

  all_put : (ks : List DeletedFile) (k : DeletedFile) → list_all p ks ≡ true → p k ≡ true → list_all p (put ks k) ≡ true
  all_put [] k h own = and_both (p k) true own refl
  all_put (x ∷ xs) k h own = all_compared x xs k h own (all_put xs k (both_true (p x) (list_all p xs) h).1 own) (deleted_cmp k x)

  -- all of both sets pass
  pub all_puts : (done fs : List DeletedFile) → list_all p done ≡ true → list_all p fs ≡ true → list_all p (puts done fs) ≡ true
  all_puts done [] h k = h
  all_puts done (f ∷ fs) h k =
      let parts = both_true (p f) (list_all p fs) k in
      all_puts (put done f) fs (all_put done f h parts.0) parts.1
