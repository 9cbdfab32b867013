-- The tests of whether a list rises, and what they say.
use Rattle.std.proofs.Common.{◌≡◌, ℕ, zero, suc, ◌+◌, ◌<◌, Bool, true, false, List, [], ◌∷◌, length, get_or, refl, sym, subst, arith}
use Rattle.std.specs.Prelude.{◌↔◌, ◌&&◌, nat_lt, AllPairs}
use Rattle.std.specs.List.{IsAllAdjacentAnswer}
use Rattle.std.specs.List.Sorted.{IsStrictlyIncreasing}
use Rattle.std.specs.Ordering.{is_lt}
use Rattle.std.specs.Cmp.{IsTotalOrder}
use Rattle.std.specs.declared.cmp.Ordering.{Ordering}
use Rattle.std.specs.declared.cmp.Ordering.TheVariants.{Less}
use Rattle.ikey.specs.Order.{internal_cmp}
use Rattle.ikey.proofs.Ordered.{internal_cmp-total}
use Rattle.reads.specs.meta.FileMeta.{FileMeta}
use Rattle.keep.specs.RisesBy.{rises_by}
use Rattle.keep.specs.Marks.{largest_rise}
use Rattle.keep.proofs.Neighbours.{increasing_if, rising_if}

-- two tests of one fact have one answer
same_answer : (a b : Bool) {P : Type 0} → (a ≡ true) ↔ P → (b ≡ true) ↔ P → a ≡ b
same_answer true true h k = refl
same_answer true false h k = let e : false ≡ true = k.1 (h.0 refl) in sym e
same_answer false true h k = h.1 (k.0 refl)
same_answer false false h k = refl

module _ {X : Type 0} (is_below : X → X → Bool) where
  abbrev Answers : List X → Bool → Type 0
  Answers xs b = IsAllAdjacentAnswer (λ x y b. b ≡ is_below x y) xs b

  with_first : (x y : X) (more : List X) (first : Bool) → first ≡ is_below x y → (rest : Bool) → Answers (y ∷ more) rest → Answers (x ∷ y ∷ more) (first && rest)
  with_first x y more false e rest answer = (0, omega arith, λ d. e)
  with_first x y more true e false found =
      let at : suc found.0 + 1 ≡ suc (found.0 + 1) = omega arith in
      (suc found.0, omega (arith, found.1), λ d. subst (λ (k : ℕ). false ≡ is_below (get_or (y ∷ more) found.0 d) (get_or (x ∷ y ∷ more) k d)) (sym at) (found.2 d))
  with_first x y more true e true next = each
    where
      each : (k : ℕ) (d : X) → k + 1 < length (x ∷ y ∷ more) → true ≡ is_below (get_or (x ∷ y ∷ more) k d) (get_or (x ∷ y ∷ more) (k + 1) d)
      each zero d within = e
      each (suc k) d within =
          let at : suc k + 1 ≡ suc (k + 1) = omega arith in
          subst (λ (j : ℕ). true ≡ is_below (get_or (y ∷ more) k d) (get_or (x ∷ y ∷ more) j d)) (sym at) (next k d (omega arith))

  answers : (xs : List X) → Answers xs (rises_by is_below xs)
  answers [] = λ k d within. absurd (omega arith)
  answers (x ∷ []) = λ k d within. absurd (omega arith)
  answers (x ∷ y ∷ more) = with_first x y more (is_below x y) refl (rises_by is_below (y ∷ more)) (answers (y ∷ more))

-- ---- numbers

rise_tests : (ns : List ℕ) → (rises_by nat_lt ns ≡ true) ↔ IsStrictlyIncreasing ns
rise_tests ns = increasing_if ns (rises_by nat_lt ns) (answers nat_lt ns)

-- a test of neighbours is the test of numbers
pub rise_is : (ns : List ℕ) (b : Bool) → IsAllAdjacentAnswer (λ x y b. b ≡ nat_lt x y) ns b → b ≡ rises_by nat_lt ns
rise_is ns b h = same_answer b (rises_by nat_lt ns) (increasing_if ns b h) (rise_tests ns)

-- numbers that pass the test rise
pub rise_told : (ns : List ℕ) → rises_by nat_lt ns ≡ true → IsStrictlyIncreasing ns
rise_told ns h = (rise_tests ns).0 h

-- ---- largest keys

module _ (cmp : List ℕ → List ℕ → Ordering) (total : IsTotalOrder cmp) (files : List FileMeta) where
  abbrev rises : FileMeta → FileMeta → Bool
  rises f g = is_lt (internal_cmp cmp f.largest g.largest)

  abbrev Rise : Type 0
  Rise = AllPairs (λ (f later : FileMeta). internal_cmp cmp f.largest later.largest ≡ Less) files

  by_neighbours : (b : Bool) → IsAllAdjacentAnswer (λ f g b. b ≡ rises f g) files b → (b ≡ true) ↔ Rise
  by_neighbours b h = rising_if (internal_cmp cmp) (λ (f : FileMeta). f.largest) (internal_cmp-total total) files b h

  largest_tests : (largest_rise cmp files ≡ true) ↔ Rise
  largest_tests = by_neighbours (largest_rise cmp files) (answers rises files)

  -- a test of neighbours is the test of largest keys
  pub largest_is : (b : Bool) → IsAllAdjacentAnswer (λ f g b. b ≡ rises f g) files b → b ≡ largest_rise cmp files
  largest_is b h = same_answer b (largest_rise cmp files) (by_neighbours b h) largest_tests

  -- files that pass the test have largest keys below those of all later files
  pub largest_told : largest_rise cmp files ≡ true → Rise
  largest_told h = largest_tests.0 h
