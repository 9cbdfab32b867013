-- The files of a level rise in version order, and no two have one number.
use Rattle.std.proofs.Common.{◌≡◌, ℕ, true, false, List, [], ◌∷◌, ◌⊎◌, inl, inr, refl, sym, ap, ◌∙◌, arith}
use Rattle.std.specs.List.{fold, IsDistinct}
use Rattle.std.specs.List.Sorted.{IsStrictlySortedBy}
use Rattle.std.specs.BTreeSet.{insert_key}
use Rattle.std.specs.Cmp.{IsTotalOrder}
use Rattle.std.specs.Ordering.{match_ordering}
use Rattle.std.specs.declared.cmp.Ordering.{Ordering}
use Rattle.std.specs.declared.cmp.Ordering.TheVariants.{Less, Equal, Greater}
use Rattle.std.proofs.lemmas.Cmp.{tied_itself}
use Rattle.edit.specs.Version.{State, are_apart}
use Rattle.edit.specs.VersionOrder.{file_cmp, files_at, level_files}
use Rattle.edit.specs.declared.meta.FileMeta.{FileMeta}
use Rattle.edit.proofs.Tested.{eqb-sym}
use Rattle.edit.proofs.SortedFiles.{version_cmp-total, same_number, sorted_all, distinct_at}
use Rattle.pick.proofs.Lists.{IsIn, all_in, all_from, one_alone, false_true, cases}

-- what holds of a level's files
pub record AreLevelFiles (cmp : List ℕ → List ℕ → Ordering) (files : List FileMeta) : Type 0 where
  pub rise : IsStrictlySortedBy (file_cmp cmp) files
  pub differ : IsDistinct same_number files

module _ (R : FileMeta → FileMeta → Ordering) where
  placed_in : (k x : FileMeta) (xs : List FileMeta) (q : FileMeta) → (IsIn (insert_key R xs k) q → (q ≡ k) ⊎ IsIn xs q) → (o : Ordering) → IsIn (match_ordering o (k ∷ x ∷ xs) (x ∷ xs) (x ∷ insert_key R xs k)) q → (q ≡ k) ⊎ IsIn (x ∷ xs) q
  placed_in k x xs q rest Less i = i
  placed_in k x xs q rest Equal i = inr i
  placed_in k x xs q rest Greater (inl e) = inr (inl e)
  placed_in k x xs q rest Greater (inr i) = elim (rest i) [ inl e ↦ inl e | inr j ↦ inr (inr j) ]

  put_in : (xs : List FileMeta) (k q : FileMeta) → IsIn (insert_key R xs k) q → (q ≡ k) ⊎ IsIn xs q
  put_in [] k q i = i
  put_in (x ∷ xs) k q i = placed_in k x xs q (put_in xs k q) (R k x) i

  -- a file that was put in is one of the files
  pub ordered_in : (done fs : List FileMeta) (q : FileMeta) → IsIn (fold (insert_key R) done fs) q → IsIn done q ⊎ IsIn fs q
  ordered_in done [] q i = inl i
  ordered_in done (f ∷ fs) q i =
      elim (ordered_in (insert_key R done f) fs q i) [
        | inl j ↦ elim (put_in done f q j) [ inl e ↦ inr (inl e) | inr k ↦ inl k ]
        | inr j ↦ inr (inr j)
      ]

  -- files that rise strictly, of files that differ by number, differ by number
  module _ (total : IsTotalOrder R) (fs : List FileMeta) (differ : IsDistinct same_number fs) where
    not_less : (x : FileMeta) → R x x ≡ Less → same_number x x ≡ false
    not_less x e = let tied : R x x ≡ Equal = tied_itself total x in let both : Less ≡ Equal = sym e ∙ tied in absurd cc

    apart_two : (x y : FileMeta) → IsIn fs x → IsIn fs y → R x y ≡ Less → same_number x y ≡ false
    apart_two x y i j less =
        elim (cases (same_number x y)) [
          | inl e ↦ absurd (false_true (same_number x x) (eqb_itself x) (not_less x (ap (R x) (one_alone same_number (λ f g. eqb-sym f.number g.number) fs differ x y i j e) ∙ less)))
          | inr e ↦ e
        ]
      where
        eqb_itself : (x : FileMeta) → same_number x x ≡ true
        eqb_itself x = grind arith

    pub differ_too : (xs : List FileMeta) → ((q : FileMeta) → IsIn xs q → IsIn fs q) → IsStrictlySortedBy R xs → IsDistinct same_number xs
    unfolding IsDistinct IsStrictlySortedBy
    differ_too [] h rise = tt
    differ_too (x ∷ xs) h rise =
        (all_from (λ y. same_number x y ≡ false) xs (λ q i. apart_two x q (h x (inl refl)) (h q (inr i)) (all_in (λ y. R x y ≡ Less) xs rise.0 q i)), differ_too xs (λ q i. h q (inr i)) rise.1)

none_rises : (R : FileMeta → FileMeta → Ordering) → IsStrictlySortedBy R []
unfolding IsStrictlySortedBy
none_rises R = tt

of_two : (fs : List FileMeta) (q : FileMeta) → IsIn {A = FileMeta} [] q ⊎ IsIn fs q → IsIn fs q
of_two fs q (inl i) = absurd i
of_two fs q (inr i) = i

pub are_level_files : {cmp : List ℕ → List ℕ → Ordering} (total : IsTotalOrder cmp) (v : State) (level : ℕ) → are_apart v.files ≡ true → AreLevelFiles cmp (level_files cmp v level)
are_level_files {cmp} total v level apart =
    let R = file_cmp cmp in
    let by_version = version_cmp-total total in
    let fs = files_at v.files level in
    let rise = sorted_all R by_version [] fs (none_rises R) in
    record {
      rise = rise;
      differ = differ_too R by_version fs (distinct_at v.files level apart) (level_files cmp v level) (λ q i. of_two fs q (ordered_in R [] fs q i)) rise;
    }
