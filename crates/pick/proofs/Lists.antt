-- Lists of files, and files that are lent.
use Rattle.std.proofs.Common.{Bor, ◌≡◌, ℕ, ◌+◌, ◌<◌, Bool, true, false, cond, ◌||◌, ◌&&◌, ◌⊎◌, inl, inr, List, [], ◌∷◌, ◌++◌, map, take, get_or, length, Some, None, refl, sym, ap, subst, ◌∙◌, append_assoc}
use Rattle.std.proofs.lemmas.List.{take_more, map-append}
use Rattle.std.specs.List.{filter, find, list_any, AllByRecursion, IsDistinct}
use Rattle.std.specs.List.Sorted.{IsStrictlySortedBy}
use Rattle.std.specs.declared.cmp.Ordering.{Ordering}
use Rattle.std.specs.declared.cmp.Ordering.TheVariants.{Less}
use Rattle.edit.specs.declared.meta.FileMeta.{FileMeta}

abbrev pub lent : List (Bor FileMeta) → List FileMeta
lent files = map (λ (f : Bor FileMeta). f.now) files

-- ---- tests

pub false_true : {B : Type 0} (b : Bool) → b ≡ true → b ≡ false → B
false_true b t f = let both : true ≡ false = sym t ∙ f in absurd cc

pub cond_true : {B : Type 0} (b : Bool) (x y : B) → b ≡ true → cond b x y ≡ x
cond_true true x y e = refl
cond_true false x y e = absurd cc

pub cond_false : {B : Type 0} (b : Bool) (x y : B) → b ≡ false → cond b x y ≡ y
cond_false true x y e = absurd cc
cond_false false x y e = refl

pub or_left : (a b : Bool) → a ≡ true → (a || b) ≡ true
or_left true b e = refl
or_left false b e = absurd cc

pub or_right : (a b : Bool) → b ≡ true → (a || b) ≡ true
or_right true b e = refl
or_right false b e = e

pub or_either : (a b : Bool) → (a || b) ≡ true → (a ≡ true) ⊎ (b ≡ true)
or_either true b e = inl refl
or_either false b e = inr e

pub and_both : (a b : Bool) → a ≡ true → b ≡ true → (a && b) ≡ true
and_both a b e f = rw (e, f) refl

pub and_first : (a b : Bool) → (a && b) ≡ true → a ≡ true
and_first true b e = refl
and_first false b e = absurd cc

pub and_second : (a b : Bool) → (a && b) ≡ true → b ≡ true
and_second true b e = e
and_second false b e = absurd cc

pub same_test : (a b : Bool) → (a ≡ true → b ≡ true) → (b ≡ true → a ≡ true) → a ≡ b
same_test true b h k = sym (h refl)
same_test false true h k = k refl
same_test false false h k = refl

pub cases : (b : Bool) → (b ≡ true) ⊎ (b ≡ false)
cases true = inl refl
cases false = inr refl

-- ---- elements

abbrev pub IsIn : {A : Type 0} → List A → A → Type 0
IsIn [] q = ⊥
IsIn (x ∷ xs) q = (q ≡ x) ⊎ IsIn xs q

pub all_in : {A : Type 0} (P : A → Type 0) (xs : List A) → AllByRecursion P xs → (q : A) → IsIn xs q → P q
all_in P [] h q e = absurd e
all_in P (x ∷ xs) h q (inl e) = subst P (sym e) h.0
all_in P (x ∷ xs) h q (inr e) = all_in P xs h.1 q e

pub all_from : {A : Type 0} (P : A → Type 0) (xs : List A) → ((q : A) → IsIn xs q → P q) → AllByRecursion P xs
all_from P [] h = tt
all_from P (x ∷ xs) h = (h x (inl refl), all_from P xs (λ q i. h q (inr i)))

pub in_front : {A : Type 0} (xs ys : List A) (q : A) → IsIn xs q → IsIn (xs ++ ys) q
in_front [] ys q i = absurd i
in_front (x ∷ xs) ys q (inl e) = inl e
in_front (x ∷ xs) ys q (inr i) = inr (in_front xs ys q i)

pub in_back : {A : Type 0} (xs ys : List A) (q : A) → IsIn ys q → IsIn (xs ++ ys) q
in_back [] ys q i = i
in_back (x ∷ xs) ys q i = inr (in_back xs ys q i)

pub in_either : {A : Type 0} (xs ys : List A) (q : A) → IsIn (xs ++ ys) q → IsIn xs q ⊎ IsIn ys q
in_either [] ys q i = inr i
in_either (x ∷ xs) ys q (inl e) = inl (inl e)
in_either (x ∷ xs) ys q (inr i) = elim (in_either xs ys q i) [ inl j ↦ inl (inr j) | inr j ↦ inr j ]

pub any_from : {A : Type 0} (p : A → Bool) (xs : List A) (q : A) → IsIn xs q → p q ≡ true → list_any p xs ≡ true
any_from p [] q i h = absurd i
any_from p (x ∷ xs) q (inl e) h = or_left (p x) (list_any p xs) (ap p (sym e) ∙ h)
any_from p (x ∷ xs) q (inr i) h = or_right (p x) (list_any p xs) (any_from p xs q i h)

-- an element that passes the test
pub record Passing {A : Type 0} (p : A → Bool) (xs : List A) : Type 0 where
  pub item : A
  pub inside : IsIn xs item
  pub passes : p item ≡ true

pub any_gives : {A : Type 0} (p : A → Bool) (xs : List A) → list_any p xs ≡ true → Passing p xs
any_gives p [] h = absurd cc
any_gives p (x ∷ xs) h =
    elim (or_either (p x) (list_any p xs) h) [
      | inl e ↦ record { item = x; inside = inl refl; passes = e }
      | inr e ↦ (let rest = any_gives p xs e in record { item = rest.item; inside = inr rest.inside; passes = rest.passes })
    ]

pub none_any : {A : Type 0} (p : A → Bool) (xs : List A) → ((q : A) → IsIn xs q → p q ≡ false) → list_any p xs ≡ false
none_any p [] h = refl
none_any p (x ∷ xs) h = rw (h x (inl refl)) (none_any p xs (λ q i. h q (inr i)))

-- ---- filters

in_kept : {A : Type 0} (b : Bool) (x : A) (ys : List A) (q : A) → IsIn ys q → IsIn (cond b (x ∷ ys) ys) q
in_kept true x ys q i = inr i
in_kept false x ys q i = i

pub in_filter : {A : Type 0} (p : A → Bool) (xs : List A) (q : A) → IsIn xs q → p q ≡ true → IsIn (filter p xs) q
in_filter p [] q i h = absurd i
in_filter {A} p (x ∷ xs) q (inl e) h =
    subst (λ (l : List A). IsIn l q) (sym (cond_true (p x) (x ∷ filter p xs) (filter p xs) (ap p (sym e) ∙ h))) (inl e)
in_filter p (x ∷ xs) q (inr i) h = in_kept (p x) x (filter p xs) q (in_filter p xs q i h)

kept_in : {A : Type 0} (p : A → Bool) (x : A) (xs : List A) (q : A) → (IsIn (filter p xs) q → IsIn xs q × (p q ≡ true)) → (b : Bool) → p x ≡ b → IsIn (cond b (x ∷ filter p xs) (filter p xs)) q → IsIn (x ∷ xs) q × (p q ≡ true)
kept_in p x xs q rest true e (inl f) = (inl f, ap p f ∙ e)
kept_in p x xs q rest true e (inr i) = (inr (rest i).0, (rest i).1)
kept_in p x xs q rest false e i = (inr (rest i).0, (rest i).1)

pub filter_in : {A : Type 0} (p : A → Bool) (xs : List A) (q : A) → IsIn (filter p xs) q → IsIn xs q × (p q ≡ true)
filter_in p [] q i = absurd i
filter_in p (x ∷ xs) q i = kept_in p x xs q (filter_in p xs q) (p x) refl i

pub filter_same : {A : Type 0} (p r : A → Bool) (xs : List A) → ((q : A) → IsIn xs q → p q ≡ r q) → filter p xs ≡ filter r xs
filter_same p r [] h = refl
filter_same p r (x ∷ xs) h =
    ap (λ (b : Bool). cond b (x ∷ filter p xs) (filter p xs)) (h x (inl refl)) ∙ ap (λ ys. cond (r x) (x ∷ ys) ys) (filter_same p r xs (λ q i. h q (inr i)))

pub filter_nothing : {A : Type 0} (p : A → Bool) (xs : List A) → ((q : A) → IsIn xs q → p q ≡ false) → filter p xs ≡ []
filter_nothing p [] h = refl
filter_nothing p (x ∷ xs) h = cond_false (p x) (x ∷ filter p xs) (filter p xs) (h x (inl refl)) ∙ filter_nothing p xs (λ q i. h q (inr i))

-- ---- the first that passes

inside_some : {A : Type 0} (x y : A) → Some x ≡ Some y → x ≡ y
inside_some x y e = cc

found_in : {A : Type 0} (p : A → Bool) (x : A) (xs : List A) (q : A) → (find p xs ≡ Some q → IsIn xs q × (p q ≡ true)) → (b : Bool) → p x ≡ b → cond b (Some x) (find p xs) ≡ Some q → IsIn (x ∷ xs) q × (p q ≡ true)
found_in p x xs q rest true e h = let same = inside_some x q h in (inl (sym same), ap p (sym same) ∙ e)
found_in p x xs q rest false e h = (inr (rest h).0, (rest h).1)

pub find_some : {A : Type 0} (p : A → Bool) (xs : List A) (q : A) → find p xs ≡ Some q → IsIn xs q × (p q ≡ true)
find_some p [] q h = absurd cc
find_some p (x ∷ xs) q h = found_in p x xs q (find_some p xs q) (p x) refl h

passed_by : {A : Type 0} (p : A → Bool) (x : A) (xs : List A) (b : Bool) → p x ≡ b → cond b (Some x) (find p xs) ≡ None → (p x ≡ false) × (find p xs ≡ None)
passed_by p x xs true e h = absurd cc
passed_by p x xs false e h = (e, h)

pub find_none : {A : Type 0} (p : A → Bool) (xs : List A) → find p xs ≡ None → (q : A) → IsIn xs q → p q ≡ false
find_none p [] h q i = absurd i
find_none p (x ∷ xs) h q (inl e) = ap p e ∙ (passed_by p x xs (p x) refl h).0
find_none p (x ∷ xs) h q (inr i) = find_none p xs (passed_by p x xs (p x) refl h).1 q i

pub none_find : {A : Type 0} (p : A → Bool) (xs : List A) → ((q : A) → IsIn xs q → p q ≡ false) → find p xs ≡ None
none_find p [] h = refl
none_find p (x ∷ xs) h = cond_false (p x) (Some x) (find p xs) (h x (inl refl)) ∙ none_find p xs (λ q i. h q (inr i))

pub find_past : {A : Type 0} (p : A → Bool) (front : List A) (x : A) (rest : List A) → ((q : A) → IsIn front q → p q ≡ false) → p x ≡ true → find p (front ++ x ∷ rest) ≡ Some x
find_past p [] x rest h e = cond_true (p x) (Some x) (find p rest) e
find_past p (y ∷ ys) x rest h e = cond_false (p y) (Some y) (find p (ys ++ x ∷ rest)) (h y (inl refl)) ∙ find_past p ys x rest (λ q i. h q (inr i)) e

-- ---- lists whose elements differ, and that rise

pub apart_behind : {A : Type 0} (e : A → A → Bool) (front : List A) (x : A) (rest : List A) → IsDistinct e (front ++ x ∷ rest) → (q : A) → IsIn rest q → e x q ≡ false
unfolding IsDistinct
apart_behind e [] x rest h q i = all_in (λ y. e x y ≡ false) rest h.0 q i
apart_behind e (y ∷ ys) x rest h q i = apart_behind e ys x rest h.1 q i

pub one_alone : {A : Type 0} (e : A → A → Bool) → ((x y : A) → e x y ≡ e y x) → (xs : List A) → IsDistinct e xs → (x y : A) → IsIn xs x → IsIn xs y → e x y ≡ true → x ≡ y
unfolding IsDistinct
one_alone e turn [] h x y i j t = absurd i
one_alone e turn (z ∷ zs) h x y (inl i) (inl j) t = i ∙ sym j
one_alone e turn (z ∷ zs) h x y (inl i) (inr j) t = false_true (e x y) t (ap (λ w. e w y) i ∙ all_in (λ w. e z w ≡ false) zs h.0 y j)
one_alone e turn (z ∷ zs) h x y (inr i) (inl j) t = false_true (e x y) t (turn x y ∙ ap (λ w. e w x) j ∙ all_in (λ w. e z w ≡ false) zs h.0 x i)
one_alone e turn (z ∷ zs) h x y (inr i) (inr j) t = one_alone e turn zs h.1 x y i j t

pub before : {A : Type 0} (R : A → A → Ordering) (front : List A) (x : A) (rest : List A) → IsStrictlySortedBy R (front ++ x ∷ rest) → (q : A) → IsIn front q → R q x ≡ Less
unfolding IsStrictlySortedBy
before R [] x rest h q i = absurd i
before R (y ∷ ys) x rest h q (inl e) = ap (λ z. R z x) e ∙ all_in (λ z. R y z ≡ Less) (ys ++ x ∷ rest) h.0 x (in_back ys (x ∷ rest) x (inl refl))
before R (y ∷ ys) x rest h q (inr i) = before R ys x rest h.1 q i

-- ---- one element more

-- what is held after the first ones is what the list has so far, and one more
pub pushed_more : {X Y : Type 0} (F : X → Y) (first done new : List Y) (y : Y) (xs : List X) (i : ℕ) (x : X) → i < length xs → x ≡ get_or xs i x → new ≡ done ++ y ∷ [] → done ≡ first ++ map F (take i xs) → y ≡ F x → new ≡ first ++ map F (take (i + 1) xs)
pushed_more {X} {Y} F first done new y xs i x lt here pushed front own =
    let front_is : take (i + 1) xs ≡ take i xs ++ x ∷ [] = take_more xs i x lt ∙ ap (λ (z : X). take i xs ++ z ∷ []) (sym here) in
    let mapped : map F (take (i + 1) xs) ≡ map F (take i xs) ++ F x ∷ [] = ap (map F) front_is ∙ map-append F (take i xs) (x ∷ []) in
    pushed ∙ ap (λ (l : List Y). l ++ y ∷ []) front ∙ append_assoc first (map F (take i xs)) (y ∷ []) ∙ ap (λ (z : Y). first ++ (map F (take i xs) ++ z ∷ [])) own ∙ ap (λ (l : List Y). first ++ l) (sym mapped)
