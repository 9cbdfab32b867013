-- Parts of a level share no file, and stand apart by the numbers of their files.
use Rattle.std.proofs.Common.{◌≡◌, ℕ, zero, suc, ◌+◌, Bool, true, false, List, [], ◌∷◌, ◌++◌, Some, refl, sym, ap, subst, ◌∙◌, inl, inr}
use Rattle.std.specs.Prelude.{slice_get}
use Rattle.std.specs.List.{filter}
use Rattle.std.specs.Cmp.{IsTotalOrder}
use Rattle.std.specs.declared.cmp.Ordering.{Ordering}
use Rattle.folder.specs.Version.{State}
use Rattle.folder.specs.VersionOrder.{level_files}
use Rattle.folder.specs.meta.FileMeta.{FileMeta}
use Rattle.pick.specs.ApartChoice.{AreDisjointChoices, HaveRanges, IsApartChoice, both_chosen, both_files}
use Rattle.pick.specs.Parts.{ArePartsFrom, IsPartAround, is_in_part}
use Rattle.pick.specs.Ranges.{overlaps}
use Rattle.pick.proofs.ApartChoices.{refuted}
use Rattle.pick.proofs.Lists.{IsIn, all_from, all_in, any_from, filter_same, in_back, in_front}
use Rattle.pick.proofs.PartsApart.{parts_share_none}
use Rattle.store.proofs.PartFiles.{held_in}

same_some : {X : Type 0} (x y : X) → Some x ≡ Some y → x ≡ y
same_some x y h = cc h

-- ---- two parts share no file

module _ (cmp : List ℕ → List ℕ → Ordering) (total : IsTotalOrder cmp) (v : State) (level : ℕ) (ranges : HaveRanges cmp v level) where
  abbrev pub AreOfLevel : List FileMeta → Type 0
  AreOfLevel files = (f : FileMeta) → IsIn files f → IsIn (level_files cmp v level) f

  not_in : (before : List (FileMeta → Bool)) (a : FileMeta → Bool) (f : FileMeta) → IsIn before a → is_in_part before f ≡ false → a f ≡ false
  not_in before a f i out = refuted (a f) (λ h. let both : true ≡ false = sym (any_from (λ (part : FileMeta → Bool). part f) before a i h) ∙ out in absurd (cc both))

  -- each later part shares none with one before
  pub behind : (before : List (FileMeta → Bool)) (files : List FileMeta) (tests : List (FileMeta → Bool)) → ArePartsFrom cmp v level before files tests → AreOfLevel files
      → (first : FileMeta) (a : FileMeta → Bool) → IsIn before a → IsPartAround cmp v level first a
      → (j : ℕ) (b : FileMeta → Bool) → slice_get tests j ≡ Some b → AreDisjointChoices cmp v level a b
  behind before [] tests h own first a i around j b at = absurd (none (subst (λ (l : List (FileMeta → Bool)). slice_get l j ≡ Some b) h at))
    where
      none : slice_get [] j ≡ Some b → ⊥
      none e = cc e
  behind before (f ∷ files) [] h own first a i around j b at = absurd (cc at)
  behind before (f ∷ files) (t ∷ tests) (inl h) own first a i around j b at = behind before files (t ∷ tests) h.1 (λ g k. own g (inr k)) first a i around j b at
  behind before (f ∷ files) (t ∷ tests) (inr h) own first a i around zero b at =
      subst (AreDisjointChoices cmp v level a) (same_some t b at)
      (parts_share_none cmp total v level first f a t ranges (held_in (level_files cmp v level) f (own f (inl refl))) around h.1 (not_in before a f i h.0))
  behind before (f ∷ files) (t ∷ tests) (inr h) own first a i around (suc j) b at =
      behind (before ++ t ∷ []) files tests h.2 (λ g k. own g (inr k)) first a (in_front before (t ∷ []) a i) around j b at

-- ---- by number

module _ (cmp : List ℕ → List ℕ → Ordering) (v : State) (level : ℕ) (a b : FileMeta → Bool) (same : (f : FileMeta) → IsIn (both_files cmp v level) f → a f ≡ b f) where
  chosen_same : both_chosen cmp v level a ≡ both_chosen cmp v level b
  chosen_same =
      let uppers = filter_same a b (level_files cmp v level) (λ f i. same f (in_front (level_files cmp v level) (level_files cmp v (level + 1)) f i)) in
      let lowers = filter_same a b (level_files cmp v (level + 1)) (λ f i. same f (in_back (level_files cmp v level) (level_files cmp v (level + 1)) f i)) in
      ap (λ (l : List FileMeta). l ++ filter a (level_files cmp v (level + 1))) uppers ∙ ap (λ (l : List FileMeta). filter b (level_files cmp v level) ++ l) lowers

  pub apart_among : IsApartChoice cmp v level a → IsApartChoice cmp v level b
  apart_among h =
      all_from (λ (f : FileMeta). overlaps cmp (both_chosen cmp v level b) f ≡ true → b f ≡ true) (both_files cmp v level)
      (λ f there needed.
      sym (same f there)
      ∙ all_in (λ (g : FileMeta). overlaps cmp (both_chosen cmp v level a) g ≡ true → a g ≡ true) (both_files cmp v level) h f there
      (subst (λ (l : List FileMeta). overlaps cmp l f ≡ true) (sym chosen_same) needed))
