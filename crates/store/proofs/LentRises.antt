-- Files as the code lends them rise if they do.
use Rattle.std.proofs.Common.{Bor, ◌≡◌, ℕ, zero, suc, ◌+◌, ◌<◌, true, List, [], ◌∷◌, length, map, get_or, refl, ap, subst, arith}
use Rattle.std.specs.List.{All}
use Rattle.std.specs.Ordering.{is_lt}
use Rattle.std.specs.declared.cmp.Ordering.{Ordering}
use Rattle.std.specs.declared.cmp.Ordering.TheVariants.{Less, Equal, Greater}
use Rattle.folder.specs.Order.{internal_cmp}
use Rattle.folder.specs.meta.FileMeta.{FileMeta}
use Rattle.store.specs.InputsCompaction.{RangesRise}
use Rattle.store.specs.LentFiles.{LentRangesRise}

less_is : (o : Ordering) → is_lt o ≡ true → o ≡ Less
less_is Less e = refl
less_is Equal e = absurd cc
less_is Greater e = absurd cc

abbrev lent : List (Bor FileMeta) → List FileMeta
lent files = map (λ (f : Bor FileMeta). f.now) files

module _ (cmp : List ℕ → List ℕ → Ordering) where
  pub from_lent : (files : List (Bor FileMeta)) → LentRangesRise cmp files → RangesRise cmp (lent files)
  from_lent [] h k d lt = absurd (omega arith)
  from_lent (f ∷ []) h k d lt = absurd (omega arith)
  from_lent (f ∷ (g ∷ files)) h zero d lt = less_is (internal_cmp cmp f.now.largest g.now.smallest) (h 0 f (omega arith))
  from_lent (f ∷ (g ∷ files)) h (suc k) d lt =
      let later : LentRangesRise cmp (g ∷ files) = λ j e low.
      let next : suc j + 1 ≡ suc (j + 1) = omega arith in
      subst (λ (n : ℕ). is_lt (internal_cmp cmp (get_or (g ∷ files) j e).now.largest (get_or (f ∷ (g ∷ files)) n e).now.smallest) ≡ true) next (h (suc j) e (omega arith)) in
      let same : suc (k + 1) ≡ suc k + 1 = omega arith in
      subst (λ (n : ℕ). internal_cmp cmp (get_or (lent (g ∷ files)) k d).largest (get_or (lent (f ∷ (g ∷ files))) n d).smallest ≡ Less) same (from_lent (g ∷ files) later k d (omega arith))

  pub to_lent : (files : List (Bor FileMeta)) → RangesRise cmp (lent files) → LentRangesRise cmp files
  to_lent [] h k d lt = absurd (omega arith)
  to_lent (f ∷ []) h k d lt = absurd (omega arith)
  to_lent (f ∷ (g ∷ files)) h zero d lt = ap is_lt (h 0 f.now (omega arith))
  to_lent (f ∷ (g ∷ files)) h (suc k) d lt =
      let later : RangesRise cmp (lent (g ∷ files)) = λ j e low.
      let next : suc j + 1 ≡ suc (j + 1) = omega arith in
      subst (λ (n : ℕ). internal_cmp cmp (get_or (lent (g ∷ files)) j e).largest (get_or (lent (f ∷ (g ∷ files))) n e).smallest ≡ Less) next (h (suc j) e (omega arith)) in
      let same : suc (k + 1) ≡ suc k + 1 = omega arith in
      subst (λ (n : ℕ). is_lt (internal_cmp cmp (get_or (g ∷ files) k d).now.largest (get_or (f ∷ (g ∷ files)) n d).now.smallest) ≡ true) same (to_lent (g ∷ files) later k d (omega arith))

-- what holds of the files holds of them as they are lent
pub all_lent : (P : ℕ → Type 0) (files : List (Bor FileMeta)) → All (λ (f : FileMeta). P f.number) (lent files) → All (λ (f : Bor FileMeta). P f.now.number) files
all_lent P files h k d lt = by files k h lt
  where
    by : (fs : List (Bor FileMeta)) (j : ℕ) → All (λ (f : FileMeta). P f.number) (lent fs) → j < length fs → P (get_or fs j d).now.number
    by [] j all low = absurd (omega arith)
    by (f ∷ fs) zero all low = all 0 f.now (omega arith)
    by (f ∷ fs) (suc j) all low = by fs j (λ i e less. all (suc i) e (omega arith)) (omega arith)
