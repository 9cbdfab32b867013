-- The snapshot edit of a version makes the version again.
use Rattle.std.proofs.Common.{◌≡◌, ℕ, zero, suc, ◌+◌, ◌<◌, ◌≤◌, Bool, true, false, not, cond, eqb, ◌&&◌, List, [], ◌∷◌, ◌++◌, map, Some, refl, sym, ap, subst, ◌∙◌, append_assoc, append-nil, arith}
use Rattle.std.specs.List.{All, fold, filter}
use Rattle.std.specs.List.Sorted.{IsStrictlySortedBy, IsPermutation}
use Rattle.std.specs.Map.{keys_of}
use Rattle.std.specs.Cmp.{IsTotalOrder}
use Rattle.std.specs.Ordering.{nat_cmp}
use Rattle.std.specs.declared.cmp.Ordering.{Ordering}
use Rattle.std.proofs.lemmas.Bool.{eqb-true}
use Rattle.std.proofs.lemmas.Bool.Decides.{nat_tests}
use Rattle.std.proofs.lemmas.List.Elements.{All-head, All-tail}
use Rattle.std.proofs.lemmas.List.Sorted.{IsPermutation-refl, IsPermutation-sym, IsPermutation-trans, IsPermutation-cons, IsPermutation-middle, IsPermutation-append, IsPermutation-append_right, IsPermutation-map}
use Rattle.std.proofs.lemmas.Map.Keys.{IsDistinct-IsPermutation}
use Rattle.edit.specs.Version.{State, IsState, applied, are_apart, empty_state, files_after, number_cmp, with_file, with_pointer}
use Rattle.edit.specs.VersionOrder.{added_from, at_level, files_at, in_version_order, pointer_entry, snapshot_of, unnumbered_version}
use Rattle.edit.specs.declared.meta.NewFile.{NewFile}
use Rattle.edit.proofs.Applied.{after_is, last_entry}
use Rattle.edit.proofs.Inserted.{in_order}
use Rattle.edit.proofs.RisingFiles.{same_file, number_total, same_turned, tied_same, rising_distinct, distinct_apart}
use Rattle.edit.proofs.Snapshots.{added_from-suc, added_from-zero, one_level}
use Rattle.edit.proofs.SortedFiles.{order_permutes}
use Rattle.edit.proofs.Tested.{by_test}

-- ---- all levels, one after the other

-- the files of a level
abbrev of_level : List NewFile → ℕ → List NewFile
of_level files level = filter (λ (f : NewFile). eqb f.level level) files

-- the files of n levels from this one on
abbrev of_levels : List NewFile → ℕ → ℕ → List NewFile
of_levels files level zero = []
of_levels files level (suc n) = of_level files level ++ of_levels files (level + 1) n

again : (level : ℕ) (f : NewFile) → f.level ≡ level → at_level level f.meta ≡ f
again level f is = let made : ℕ → NewFile = λ n. at_level n f.meta in ap made (sym is)

-- the files of a level, with that level again
level_again : (files : List NewFile) (level : ℕ) → map (at_level level) (files_at files level) ≡ of_level files level
level_again [] level = refl
level_again (f ∷ files) level =
    by_test (eqb f.level level) (λ (b : Bool). eqb f.level level ≡ b → map (at_level level) (map (λ (g : NewFile). g.meta) (cond b (f ∷ of_level files level) (of_level files level))) ≡ cond b (f ∷ of_level files level) (of_level files level))
    (λ _ is. ap (λ (g : NewFile). g ∷ map (at_level level) (files_at files level)) (again level f (eqb-true f.level level is)) ∙ ap (λ (t : List NewFile). f ∷ t) (level_again files level))
    (λ _ _. level_again files level)
    refl

module _ {cmp : List ℕ → List ℕ → Ordering} (total : IsTotalOrder cmp) (files : List NewFile) (apart : are_apart files ≡ true) where
  one_level_permutes : (level : ℕ) → IsPermutation (one_level cmp files level) (of_level files level)
  one_level_permutes level =
      subst (IsPermutation (one_level cmp files level)) (level_again files level)
      (IsPermutation-sym (map (at_level level) (files_at files level)) (one_level cmp files level) (IsPermutation-map (at_level level) (files_at files level) (in_version_order cmp (files_at files level)) (order_permutes total files level apart)))

  levels_permute : (level n : ℕ) → IsPermutation (added_from cmp files level n) (of_levels files level n)
  levels_permute level zero = subst (λ (t : List NewFile). IsPermutation t []) (sym (added_from-zero cmp files level)) (IsPermutation-refl [])
  levels_permute level (suc n) =
      subst (λ (t : List NewFile). IsPermutation t (of_levels files level (suc n))) (sym (added_from-suc cmp files level n))
      (IsPermutation-append (one_level cmp files level) (of_level files level) (added_from cmp files (level + 1) n) (of_levels files (level + 1) n) (one_level_permutes level) (levels_permute (level + 1) n))

-- ---- a file is in the list of its level, and in no other

not_there : (f : NewFile) (level : ℕ) → f.level < level → eqb f.level level ≡ false
not_there f level lt = grind (arith, nat_tests)

without : (f : NewFile) (files : List NewFile) (level : ℕ) → eqb f.level level ≡ false → of_level (f ∷ files) level ≡ of_level files level
without f files level e = rw e refl

below_levels : (f : NewFile) (files : List NewFile) (level n : ℕ) → f.level < level → of_levels (f ∷ files) level n ≡ of_levels files level n
below_levels f files level zero lt = refl
below_levels f files level (suc n) lt =
    ap (λ (t : List NewFile). t ++ of_levels (f ∷ files) (level + 1) n) (without f files level (not_there f level lt))
    ∙ ap (λ (t : List NewFile). of_level files level ++ t) (below_levels f files (level + 1) n (omega arith))

above : (f : NewFile) (level : ℕ) → level ≤ f.level → eqb f.level level ≡ false → level < f.level
above f level le e = grind (arith, nat_tests)

here_by : (b : Bool) (f : NewFile) (files : List NewFile) (level n : ℕ) → eqb f.level level ≡ b → level ≤ f.level
    → (level + 1 ≤ f.level → IsPermutation (f ∷ of_levels files (level + 1) n) (of_levels (f ∷ files) (level + 1) n))
    → IsPermutation (f ∷ of_levels files level (suc n)) (of_levels (f ∷ files) level (suc n))
here_by true f files level n is le rest =
    let e = eqb-true f.level level is in
    let same : of_levels (f ∷ files) level (suc n) ≡ f ∷ of_levels files level (suc n) =
    rw is (ap (λ (t : List NewFile). f ∷ (of_level files level ++ t)) (below_levels f files (level + 1) n (omega arith))) in
    subst (IsPermutation (f ∷ of_levels files level (suc n))) (sym same) (IsPermutation-refl (f ∷ of_levels files level (suc n)))
here_by false f files level n is le rest =
    let first = of_level files level in
    let behind = rest (omega (arith, above f level le is)) in
    let moved = IsPermutation-sym (first ++ f ∷ of_levels files (level + 1) n) (f ∷ (first ++ of_levels files (level + 1) n)) (IsPermutation-middle first f (of_levels files (level + 1) n)) in
    subst (IsPermutation (f ∷ of_levels files level (suc n))) (ap (λ (t : List NewFile). t ++ of_levels (f ∷ files) (level + 1) n) (sym (without f files level is)))
    (IsPermutation-trans (f ∷ (first ++ of_levels files (level + 1) n)) (first ++ f ∷ of_levels files (level + 1) n) (first ++ of_levels (f ∷ files) (level + 1) n) moved
    (IsPermutation-append_right first (f ∷ of_levels files (level + 1) n) (of_levels (f ∷ files) (level + 1) n) behind))

one_more : (f : NewFile) (files : List NewFile) (level n : ℕ) → level ≤ f.level → f.level < level + n → IsPermutation (f ∷ of_levels files level n) (of_levels (f ∷ files) level n)
one_more f files level zero le lt = absurd (omega arith)
one_more f files level (suc n) le lt = here_by (eqb f.level level) f files level n refl le (λ more. one_more f files (level + 1) n more (omega arith))

none_left : (level n : ℕ) → of_levels [] level n ≡ []
none_left level zero = refl
none_left level (suc n) = none_left (level + 1) n

abbrev low : NewFile → Type 0
low f = f.level ≤ 6

all_levels : (files : List NewFile) → All low files → IsPermutation (of_levels files 0 7) files
all_levels [] h = subst (λ (t : List NewFile). IsPermutation t []) (sym (none_left 0 7)) (IsPermutation-refl [])
all_levels (f ∷ files) h =
    let le = All-head low f files h in
    IsPermutation-trans (of_levels (f ∷ files) 0 7) (f ∷ of_levels files 0 7) (f ∷ files)
    (IsPermutation-sym (f ∷ of_levels files 0 7) (of_levels (f ∷ files) 0 7) (one_more f files 0 7 (omega arith) (omega arith)))
    (IsPermutation-cons f (of_levels files 0 7) files (all_levels files (All-tail low f files h)))

-- ---- the snapshot, applied

pointers_again : (done rest : List (ℕ × List ℕ)) → IsStrictlySortedBy nat_cmp (keys_of (done ++ rest)) → fold with_pointer done (map pointer_entry rest) ≡ done ++ rest
pointers_again done [] h = sym (append-nil done)
pointers_again done (p ∷ rest) h =
    let whole : (done ++ p ∷ []) ++ rest ≡ done ++ p ∷ rest = append_assoc done (p ∷ []) rest in
    ap (λ (ps : List (ℕ × List ℕ)). fold with_pointer ps (map pointer_entry rest)) (last_entry done rest p.0 p.1 h)
    ∙ pointers_again (done ++ p ∷ []) rest (subst (λ (t : List (ℕ × List ℕ)). IsStrictlySortedBy nat_cmp (keys_of t)) (sym whole) h)
    ∙ whole

both_passed : (a b : Bool) → a ≡ true → b ≡ false → (a && not b) ≡ true
both_passed true false e h = refl
both_passed true true e h = absurd cc
both_passed false b e h = absurd cc

pub remade : {cmp : List ℕ → List ℕ → Ordering} → IsTotalOrder cmp → (name : List ℕ) (v : State) → IsState v.pointers v.files → applied empty_state (snapshot_of name cmp v) ≡ Some (unnumbered_version v)
remade {cmp} total name v h =
    let added = added_from cmp v.files 0 7 in
    let permuted = IsPermutation-trans added (of_levels v.files 0 7) v.files (levels_permute total v.files h.apart 0 7) (all_levels v.files h.levels.file_levels) in
    let distinct = IsDistinct-IsPermutation same_file same_turned v.files added (IsPermutation-sym added v.files permuted) (rising_distinct v.files h.files_rise) in
    let files : fold with_file [] added ≡ v.files = in_order number_cmp number_total same_file same_turned tied_same added v.files permuted h.files_rise distinct in
    let passed : files_after [] [] added ≡ Some (fold with_file [] added) = after_is [] [] added refl (both_passed (are_apart added) false (distinct_apart added distinct) refl) in
    rw (passed, files, pointers_again [] v.pointers h.pointers_rise) refl
