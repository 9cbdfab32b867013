-- Files that rise by number.
use Rattle.std.proofs.Common.{◌≡◌, ℕ, ◌≤◌, Bool, true, false, cond, eqb, List, [], ◌∷◌, refl, sym, ap, subst, ◌∙◌}
use Rattle.std.specs.List.{filter, AllByRecursion, IsDistinct}
use Rattle.std.specs.List.Sorted.{IsStrictlySortedBy}
use Rattle.std.specs.Cmp.{IsTotalOrder}
use Rattle.std.specs.Ordering.{nat_cmp, is_eq}
use Rattle.std.specs.declared.cmp.Ordering.{Ordering}
use Rattle.std.specs.declared.cmp.Ordering.TheVariants.{Less, Equal}
use Rattle.std.proofs.lemmas.Cmp.{nat_cmp_total, on_total}
use Rattle.std.proofs.lemmas.List.Elements.{All-nil}
use Rattle.edit.specs.Version.{IsState, are_apart, has_number, number_cmp}
use Rattle.edit.specs.declared.meta.NewFile.{NewFile}
use Rattle.edit.proofs.Tested.{by_test, eqb-sym, is_eq-nat_cmp}

abbrev pub same_file : NewFile → NewFile → Bool
same_file f g = eqb f.meta.number g.meta.number

pub number_total : IsTotalOrder number_cmp
number_total = on_total (λ (f : NewFile). f.meta.number) nat_cmp_total

pub same_turned : (f g : NewFile) → same_file f g ≡ same_file g f
same_turned f g = eqb-sym f.meta.number g.meta.number

pub tied_same : (f g : NewFile) → number_cmp f g ≡ Equal → same_file f g ≡ true
tied_same f g e = sym (is_eq-nat_cmp f.meta.number g.meta.number) ∙ ap is_eq e

others_apart : (f : NewFile) (files : List NewFile) → AllByRecursion (λ g. number_cmp f g ≡ Less) files → AllByRecursion (λ g. same_file f g ≡ false) files
others_apart f [] h = tt
others_apart f (g ∷ files) h = (sym (is_eq-nat_cmp f.meta.number g.meta.number) ∙ ap is_eq h.0, others_apart f files h.1)

pub rising_distinct : (files : List NewFile) → IsStrictlySortedBy number_cmp files → IsDistinct same_file files
unfolding IsStrictlySortedBy IsDistinct
rising_distinct [] h = tt
rising_distinct (f ∷ files) h = (others_apart f files h.0, rising_distinct files h.1)

no_number : (f : NewFile) (files : List NewFile) → AllByRecursion (λ g. same_file f g ≡ false) files → has_number files f.meta.number ≡ false
no_number f [] h = refl
no_number f (g ∷ files) h = rw h.0 (no_number f files h.1)

pub distinct_apart : (files : List NewFile) → IsDistinct same_file files → are_apart files ≡ true
unfolding IsDistinct
distinct_apart [] h = refl
distinct_apart (f ∷ files) h = rw (no_number f files h.0) (distinct_apart files h.1)

-- files that rise by number have different numbers
pub rising_apart : (files : List NewFile) → IsStrictlySortedBy number_cmp files → are_apart files ≡ true
rising_apart files h = distinct_apart files (rising_distinct files h)

-- ---- those that pass a test rise too

above_filter : {X : Type 0} (c : X → X → Ordering) (keep : X → Bool) (x : X) (xs : List X) → AllByRecursion (λ y. c x y ≡ Less) xs → AllByRecursion (λ y. c x y ≡ Less) (filter keep xs)
above_filter c keep x [] h = tt
above_filter c keep x (y ∷ xs) h =
    by_test (keep y) (λ (b : Bool). AllByRecursion (λ z. c x z ≡ Less) (cond b (y ∷ filter keep xs) (filter keep xs))) (λ _. (h.0, above_filter c keep x xs h.1)) (λ _. above_filter c keep x xs h.1)

pub rising_filter : {X : Type 0} (c : X → X → Ordering) (keep : X → Bool) (xs : List X) → IsStrictlySortedBy c xs → IsStrictlySortedBy c (filter keep xs)
unfolding IsStrictlySortedBy
rising_filter c keep [] h = tt
rising_filter c keep (x ∷ xs) h =
    by_test (keep x) (λ (b : Bool). IsStrictlySortedBy c (cond b (x ∷ filter keep xs) (filter keep xs))) (λ _. (above_filter c keep x xs h.0, rising_filter c keep xs h.1)) (λ _. rising_filter c keep xs h.1)

-- ---- no files and no pointers

nothing_rises : {X : Type 0} (c : X → X → Ordering) → IsStrictlySortedBy c []
unfolding IsStrictlySortedBy
nothing_rises c = tt

pub empty_holds : (pointers : List (ℕ × List ℕ)) (files : List NewFile) → pointers ≡ [] → files ≡ [] → IsState pointers files
empty_holds pointers files no_pointers no_files =
    subst (λ (m : List (ℕ × List ℕ)). IsState m files) (sym no_pointers) (subst (IsState []) (sym no_files) (record {
      files_rise = nothing_rises number_cmp;
      apart = refl;
      pointers_rise = nothing_rises nat_cmp;
      levels = record { file_levels = All-nil (λ (f : NewFile). f.level ≤ 6); pointer_levels = All-nil (λ (level : ℕ). level ≤ 6) };
    }))
