-- No file that the least closed set of files leaves shares a user key with one of the set, and no boundary file is added to it.
use Rattle.std.proofs.Common.{◌≡◌, ℕ, true, false, not, List, [], ◌∷◌, ◌++◌, sym, ap, subst, inl, inr, refl}
use Rattle.std.specs.Prelude.{◌⊎◌}
use Rattle.std.specs.List.{filter}
use Rattle.std.specs.Cmp.{IsTotalOrder}
use Rattle.std.specs.Ordering.{is_le}
use Rattle.std.specs.declared.cmp.Ordering.{Ordering}
use Rattle.ikey.specs.Key.{user_of}
use Rattle.edit.specs.declared.meta.FileMeta.{FileMeta}
use Rattle.pick.specs.Ranges.{is_at_most, begins_by, ends_at_or_after, overlaps}
use Rattle.pick.specs.ChosenFiles.{IsLeastClosed}
use Rattle.pick.specs.Boundaries.{largest_key, goes_on, is_among, IsChain}
use Rattle.pick.proofs.Lists.{IsIn, all_in, any_from, and_both, and_first, and_second, false_true, filter_in, in_filter, in_front, in_either, find_some}
use Rattle.pick.proofs.UserOrders.{le_trans}
use Rattle.pick.proofs.Chains.{is_next}
use Rattle.compact.proofs.FileKeys.{IsUpTo, user_upto, tied_back}
use Rattle.compact.proofs.BoundaryRanges.{HasLargest, has_largest, goes_within, not_first}
use Rattle.compact.proofs.ClosedLevels.{among_own}

module _ (cmp : List ℕ → List ℕ → Ordering) (total : IsTotalOrder cmp) where
  some_chosen : (xs : List FileMeta) (g : FileMeta) → goes_on cmp (largest_key cmp xs) g ≡ true → HasLargest cmp total xs
  some_chosen [] g goes = absurd cc
  some_chosen (x ∷ xs) g goes = has_largest cmp total (x ∷ xs) x (inl refl)

  module _ (files : List FileMeta) (first : FileMeta) (chosen : List FileMeta) (least : IsLeastClosed cmp files first chosen) (ordered : (f : FileMeta) → IsIn files f → IsUpTo cmp f.smallest f.largest) where
    pub chosen_inside : (f : FileMeta) → IsIn chosen f → IsIn files f
    chosen_inside f i = (filter_in least.test files f (subst (λ (l : List FileMeta). IsIn l f) least.passed i)).0

    -- a file whose range overlaps that of the set is in the set
    taken : (f : FileMeta) → IsIn files f → overlaps cmp chosen f ≡ true → IsIn chosen f
    taken f i h =
        let passes : least.test f ≡ true = all_in (λ (q : FileMeta). overlaps cmp (filter least.test files) q ≡ true → least.test q ≡ true) files least.closed f i (subst (λ (l : List FileMeta). overlaps cmp l f ≡ true) least.passed h) in
        subst (λ (l : List FileMeta). IsIn l f) (sym least.passed) (in_filter least.test files f i passes)

    touching : (f g : FileMeta) → IsIn chosen g → is_at_most cmp (user_of g.smallest) (user_of f.largest) ≡ true → is_at_most cmp (user_of f.smallest) (user_of g.largest) ≡ true → overlaps cmp chosen f ≡ true
    touching f g i begins ends =
        and_both (begins_by cmp chosen (user_of f.largest)) (ends_at_or_after cmp chosen (user_of f.smallest))
        (any_from (λ (q : FileMeta). is_at_most cmp (user_of q.smallest) (user_of f.largest)) chosen g i begins)
        (any_from (λ (q : FileMeta). is_at_most cmp (user_of f.smallest) (user_of q.largest)) chosen g i ends)

    -- what goes on within the user key of the largest key overlaps the set
    goes_touching : (g : FileMeta) → IsIn files g → goes_on cmp (largest_key cmp chosen) g ≡ true → overlaps cmp chosen g ≡ true
    goes_touching g i goes =
        let most = some_chosen chosen g goes in
        let tied = goes_within cmp total most.last.largest g (subst (λ o. goes_on cmp o g ≡ true) most.is goes) in
        let own = user_upto cmp total most.last.smallest most.last.largest (ordered most.last (chosen_inside most.last most.there)) in
        touching g most.last most.there
        (le_trans cmp total (user_of most.last.smallest) (user_of g.smallest) (user_of g.largest)
        (le_trans cmp total (user_of most.last.smallest) (user_of most.last.largest) (user_of g.smallest) own (ap is_le tied)) (user_upto cmp total g.smallest g.largest (ordered g i)))
        (tied_back cmp total (user_of most.last.largest) (user_of g.smallest) tied)

    none_added : (added : List FileMeta) → IsChain cmp files chosen added → (g : FileMeta) → IsIn added g → ⊥
    none_added [] chain g i = absurd i
    none_added (x ∷ xs) chain g i =
        let of_x = find_some (is_next cmp total chosen) files x chain.0 in
        let goes = and_second (not (is_among chosen x)) (goes_on cmp (largest_key cmp chosen) x) of_x.1 in
        let out = not_first (is_among chosen x) (and_first (not (is_among chosen x)) (goes_on cmp (largest_key cmp chosen) x) of_x.1) in
        false_true (is_among chosen x) (among_own chosen x (taken x of_x.0 (goes_touching x of_x.0 goes))) out

    -- no user key is in the range of a file that is left and in that of one that isn't
    pub none_shared : (added : List FileMeta) → IsChain cmp files chosen added → (f i : FileMeta) → IsIn files f → is_among (chosen ++ added) f ≡ false → IsIn (chosen ++ added) i → (user : List ℕ)
        → is_at_most cmp (user_of f.smallest) user ≡ true → is_at_most cmp user (user_of f.largest) ≡ true → is_at_most cmp (user_of i.smallest) user ≡ true → is_at_most cmp user (user_of i.largest) ≡ true → ⊥
    none_shared added chain f i at out there user f_from f_to i_from i_to = of_side (in_either chosen added i there)
      where
        of_side : IsIn chosen i ⊎ IsIn added i → ⊥
        of_side (inl j) =
            let h = touching f i j (le_trans cmp total (user_of i.smallest) user (user_of f.largest) i_from f_to) (le_trans cmp total (user_of f.smallest) user (user_of i.largest) f_from i_to) in
            false_true (is_among (chosen ++ added) f) (among_own (chosen ++ added) f (in_front chosen added f (taken f at h))) out
        of_side (inr j) = none_added added chain i j
