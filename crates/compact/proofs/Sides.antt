-- A file of the lower level that stays is wholly before the inputs or wholly after them.
use Rattle.std.proofs.Common.{◌≡◌, ℕ, ◌+◌, ◌<◌, Bool, true, false, not, ◌&&◌, List, [], ◌∷◌, ◌++◌, Some, Option, refl, sym, ap, subst, ◌∙◌, inl, inr, append_assoc, arith}
use Rattle.std.specs.Prelude.{◌⊎◌, Contains}
use Rattle.std.specs.List.{All, filter, list_any}
use Rattle.std.specs.Cmp.{IsTotalOrder}
use Rattle.std.specs.Ordering.{is_lt, is_le, is_eq, nat_cmp, ordering_then, ordering_reverse}
use Rattle.std.specs.declared.cmp.Ordering.{Ordering}
use Rattle.std.specs.declared.cmp.Ordering.TheVariants.{Less, Equal, Greater}
use Rattle.ikey.specs.Key.{user_of, sequence_of, kind_of, kind_number}
use Rattle.ikey.specs.Order.{internal_cmp}
use Rattle.edit.specs.Version.{State}
use Rattle.edit.specs.VersionOrder.{level_files}
use Rattle.edit.specs.declared.meta.FileMeta.{FileMeta}
use Rattle.edit.proofs.SortedFiles.{same_number}
use Rattle.pick.specs.Boundaries.{goes_on, is_among, largest_key, next_boundary, IsChain}
use Rattle.pick.specs.PickedInputs.{PickedInputs, IsPicked, input_at}
use Rattle.pick.specs.Ranges.{is_at_most, begins_by, ends_at_or_after, overlaps}
use Rattle.pick.specs.declared.picked_inputs.InputFile.{InputFile}
use Rattle.pick.proofs.Chains.{is_next}
use Rattle.pick.proofs.Lists.{IsIn, and_first, and_second, false_true, filter_in, find_some, in_back, in_either, in_front, in_filter as filtered}
use Rattle.pick.proofs.UserOrders.{le_trans}
use Rattle.reads.specs.Lawful.{IsLawful, AreDisjoint}
use Rattle.reads.specs.Tables.{NumberedContents}
use Rattle.reads.proofs.Levels.{contains_in, is_in}
use Rattle.reads.proofs.Members.{from_filter, in_filter}
use Rattle.compact.specs.ClosedInputs.{is_input}
use Rattle.compact.proofs.BoundaryRanges.{HasLargest, begins_on, ends_on, goes_within, has_largest, none_follows, overlapping_leads}
use Rattle.compact.proofs.ClosedLevels.{all_inputs, among_is, among_own, level_disjoint, level_file_of, level_of, lower_input, other_number}
use Rattle.compact.proofs.Closing.{any_at}
use Rattle.compact.proofs.FileKeys.{IsUpTo, below_upto, keys_total, less_upto, range_rises, tied_back, tied_both, user_upto}
use Rattle.compact.proofs.VersionInputs.{is_one}

refuted : (b : Bool) → (b ≡ true → ⊥) → b ≡ false
refuted true h = absurd (h refl)
refuted false h = refl

is_less : (o : Ordering) → is_lt o ≡ true → o ≡ Less
is_less Less e = refl
is_less Equal e = absurd cc
is_less Greater e = absurd cc

above_if : (o : Ordering) → is_le o ≡ false → ordering_reverse o ≡ Less
above_if Less e = absurd cc
above_if Equal e = absurd cc
above_if Greater e = refl

pub both_false : (a b : Bool) → (a && b) ≡ false → (a ≡ false) ⊎ (b ≡ false)
both_false true b e = inr e
both_false false b e = inl refl

-- if none of a list passes a test, an element doesn't
none_passes : {X : Type 0} (p : X → Bool) (xs : List X) → list_any p xs ≡ false → (x : X) → Contains xs x → p x ≡ false
none_passes p xs h x at = refuted (p x) (λ passes. false_true (list_any p xs) (any_at p xs x at passes) h)

module _ (cmp : List ℕ → List ℕ → Ordering) (total : IsTotalOrder cmp) where
  pub below_if : (a b : List ℕ) → is_at_most cmp a b ≡ false → cmp b a ≡ Less
  below_if a b h = total.antisymm b a ∙ above_if (cmp a b) h

  pub users_below : (a b : List ℕ) → cmp (user_of a) (user_of b) ≡ Less → internal_cmp cmp a b ≡ Less
  unfolding internal_cmp
  users_below a b h =
      ap (λ (o : Ordering). ordering_then o (ordering_then (nat_cmp (sequence_of b) (sequence_of a)) (nat_cmp (kind_number (kind_of b)) (kind_number (kind_of a))))) h

  pub goes_behind : (key : List ℕ) (g : FileMeta) → goes_on cmp (Some key) g ≡ true → internal_cmp cmp key g.smallest ≡ Less
  goes_behind key g h = is_less (internal_cmp cmp key g.smallest) (and_first (is_lt (internal_cmp cmp key g.smallest)) (is_eq (cmp (user_of key) (user_of g.smallest))) h)

  -- a boundary file goes on after the file with the largest key of those chosen before it
  record GoesOn (chosen : List FileMeta) (g : FileMeta) : Type 0 where
    last : FileMeta
    there : IsIn chosen last
    behind : internal_cmp cmp last.largest g.smallest ≡ Less
    within : cmp (user_of last.largest) (user_of g.smallest) ≡ Equal

  goes_from : (chosen : List FileMeta) (g : FileMeta) → goes_on cmp (largest_key cmp chosen) g ≡ true → GoesOn chosen g
  goes_from [] g h = absurd cc
  goes_from (c ∷ cs) g h =
      let most : HasLargest cmp total (c ∷ cs) = has_largest cmp total (c ∷ cs) c (inl refl) in
      let goes : goes_on cmp (Some most.last.largest) g ≡ true = subst (λ (o : Option (List ℕ)). goes_on cmp o g ≡ true) most.is h in
      record { last = most.last; there = most.there; behind = goes_behind most.last.largest g goes; within = goes_within cmp total most.last.largest g goes }

  module _ (files : List FileMeta) where
    next_in : (chosen : List FileMeta) (g : FileMeta) → next_boundary cmp files chosen ≡ Some g → IsIn files g × (goes_on cmp (largest_key cmp chosen) g ≡ true)
    next_in chosen g h = let x = find_some (is_next cmp total chosen) files g h in (x.0, and_second (not (is_among chosen g)) (goes_on cmp (largest_key cmp chosen) g) x.1)

    chain_inside : (chosen added : List FileMeta) → IsChain cmp files chosen added → (q : FileMeta) → IsIn added q → IsIn files q
    chain_inside chosen [] chain q i = absurd i
    chain_inside chosen (g ∷ added) chain q (inl same) = subst (IsIn files) (sym same) (next_in chosen g chain.0).0
    chain_inside chosen (g ∷ added) chain q (inr i) = chain_inside (chosen ++ g ∷ []) added chain.1 q i

    -- a boundary file stands after some chosen file
    record StandsBehind (chosen : List FileMeta) (l : FileMeta) : Type 0 where
      file : FileMeta
      there : IsIn chosen file
      behind : internal_cmp cmp file.largest l.smallest ≡ Less

    chain_behind : ((m : FileMeta) → IsIn files m → IsUpTo cmp m.smallest m.largest) → (chosen added : List FileMeta) → IsChain cmp files chosen added → (l : FileMeta) → IsIn added l → StandsBehind chosen l
    chain_behind ordered chosen [] chain l i = absurd i
    chain_behind ordered chosen (g ∷ added) chain l (inl same) =
        let goes = goes_from chosen g (next_in chosen g chain.0).1 in
        record { file = goes.last; there = goes.there; behind = subst (λ (x : FileMeta). internal_cmp cmp goes.last.largest x.smallest ≡ Less) (sym same) goes.behind }
    chain_behind ordered chosen (g ∷ added) chain l (inr i) = of_place (chain_behind ordered (chosen ++ g ∷ []) added chain.1 l i)
      where
        of_place : StandsBehind (chosen ++ g ∷ []) l → StandsBehind chosen l
        of_place rest = of_side (in_either chosen (g ∷ []) rest.file rest.there)
          where
            of_side : IsIn chosen rest.file ⊎ IsIn (g ∷ []) rest.file → StandsBehind chosen l
            of_side (inl j) = record { file = rest.file; there = j; behind = rest.behind }
            of_side (inr (inl same)) =
                let goes = goes_from chosen g (next_in chosen g chain.0).1 in
                let own = ordered g (next_in chosen g chain.0).0 in
                let up : internal_cmp cmp goes.last.largest g.largest ≡ Less = below_upto (internal_cmp cmp) (keys_total cmp total) goes.last.largest g.smallest g.largest goes.behind own in
                let over : internal_cmp cmp g.largest l.smallest ≡ Less = subst (λ (x : FileMeta). internal_cmp cmp x.largest l.smallest ≡ Less) same rest.behind in
                record { file = goes.last; there = goes.there; behind = (keys_total cmp total).trans goes.last.largest g.largest l.smallest up over }
            of_side (inr (inr j)) = absurd j

  module _ (v : State) (tables : List NumberedContents) (lawful : IsLawful cmp v tables) (level : ℕ) (p : PickedInputs) (picked : IsPicked cmp v level p) (f : FileMeta) (at : IsIn (level_files cmp v (level + 1)) f) (out : is_input p f.number ≡ false) where
    abbrev files : List FileMeta
    files = level_files cmp v (level + 1)

    abbrev overlapping : List FileMeta
    overlapping = filter (overlaps cmp picked.upper) (level_files cmp v (level + 1))

    abbrev added : List FileMeta
    added = picked.are_lower.added

    deep : 0 < level + 1
    deep = omega arith

    ordered : (m : FileMeta) → IsIn (level_files cmp v (level + 1)) m → IsUpTo cmp m.smallest m.largest
    ordered m i = range_rises cmp total tables m (level_file_of cmp total v tables lawful (level + 1) m i)

    disjoint : (g h : FileMeta) → IsIn (level_files cmp v (level + 1)) g → IsIn (level_files cmp v (level + 1)) h → same_number g h ≡ false → AreDisjoint cmp g h
    disjoint = level_disjoint cmp total v tables lawful (level + 1) deep

    not_among : is_among (overlapping ++ added) f ≡ false
    not_among =
        refuted (is_among (overlapping ++ added) f)
        (λ among.
        let in_lower : Contains picked.lower f = subst (λ (l : List FileMeta). Contains l f) (sym picked.are_lower.these) (in_filter (is_among (overlapping ++ added)) files f among (contains_in files f at)) in
        false_true (is_input p f.number)
        (is_one p (input_at (level + 1) f) f.number (lower_input level picked.upper picked.lower p.files picked.files_are f in_lower) refl) out)

    pub no_overlap : overlaps cmp picked.upper f ≡ false
    no_overlap =
        refuted (overlaps cmp picked.upper f)
        (λ over. false_true (is_among (overlapping ++ added) f) (among_own (overlapping ++ added) f (in_front overlapping added f (filtered (overlaps cmp picked.upper) files f at over))) not_among)

    own : is_at_most cmp (user_of f.smallest) (user_of f.largest) ≡ true
    own = user_upto cmp total f.smallest f.largest (ordered f at)

    inside : (q : FileMeta) → IsIn (overlapping ++ added) q → IsIn (level_files cmp v (level + 1)) q
    inside q i =
        elim (in_either overlapping added q i) [
          | inl j ↦ (filter_in (overlaps cmp picked.upper) files q j).0
          | inr j ↦ chain_inside files overlapping added picked.are_lower.chain q j
        ]

    apart : (l : FileMeta) → IsIn (overlapping ++ added) l → AreDisjoint cmp l f
    apart l i = disjoint l f (inside l i) at (other_number (overlapping ++ added) l f i not_among)

    lower_among : (l : FileMeta) → Contains picked.lower l → IsIn (overlapping ++ added) l
    lower_among l i =
        let kept = from_filter (is_among (overlapping ++ added)) files l (subst (λ (x : List FileMeta). Contains x l) picked.are_lower.these i) in
        among_is cmp files (overlapping ++ added) (level_of cmp total v tables lawful (level + 1)) inside l (is_in files l kept.0) kept.1

    -- whether it lies before an input, or after it
    abbrev Before : FileMeta → Type 0
    Before m = internal_cmp cmp f.largest m.smallest ≡ Less

    abbrev Behind : FileMeta → Type 0
    Behind m = internal_cmp cmp m.largest f.smallest ≡ Less

    -- ---- before the upper inputs

    module _ (left : begins_by cmp picked.upper (user_of f.largest) ≡ false) where
      before_upper : (g : FileMeta) → Contains picked.upper g → Before g
      before_upper g i =
          users_below f.largest g.smallest
          (below_if (user_of g.smallest) (user_of f.largest) (none_passes (λ (x : FileMeta). is_at_most cmp (user_of x.smallest) (user_of f.largest)) picked.upper left g i))

      before_overlapping : (l : FileMeta) → IsIn overlapping l → Before l
      before_overlapping l i = of_side (apart l (in_front overlapping added l i))
        where
          of_side : AreDisjoint cmp l f → Before l
          of_side (inr before) = before
          of_side (inl behind) =
              let over = (filter_in (overlaps cmp picked.upper) files l i).1 in
              let begins = and_first (begins_by cmp picked.upper (user_of l.largest)) (ends_at_or_after cmp picked.upper (user_of l.smallest)) over in
              let le : is_at_most cmp (user_of l.largest) (user_of f.largest) ≡ true =
              le_trans cmp total (user_of l.largest) (user_of f.smallest) (user_of f.largest) (user_upto cmp total l.largest f.smallest (less_upto cmp total l.largest f.smallest behind)) own in
              false_true (begins_by cmp picked.upper (user_of f.largest)) (begins_on cmp total picked.upper (user_of l.largest) (user_of f.largest) begins le) left

      before_added : (l : FileMeta) → IsIn added l → Before l
      before_added l i =
          let c = chain_behind files ordered overlapping added picked.are_lower.chain l i in
          let first = before_overlapping c.file c.there in
          let up = below_upto (internal_cmp cmp) (keys_total cmp total) f.largest c.file.smallest c.file.largest first (ordered c.file (inside c.file (in_front overlapping added c.file c.there))) in
          (keys_total cmp total).trans f.largest c.file.largest l.smallest up c.behind

      before_lower : (l : FileMeta) → Contains picked.lower l → Before l
      before_lower l i = elim (in_either overlapping added l (lower_among l i)) [ inl j ↦ before_overlapping l j | inr j ↦ before_added l j ]

    -- ---- after the upper inputs

    module _ (right : ends_at_or_after cmp picked.upper (user_of f.smallest) ≡ false) where
      behind_upper : (g : FileMeta) → Contains picked.upper g → Behind g
      behind_upper g i =
          users_below g.largest f.smallest
          (below_if (user_of f.smallest) (user_of g.largest) (none_passes (λ (x : FileMeta). is_at_most cmp (user_of f.smallest) (user_of x.largest)) picked.upper right g i))

      behind_overlapping : (l : FileMeta) → IsIn overlapping l → Behind l
      behind_overlapping l i = of_side (apart l (in_front overlapping added l i))
        where
          of_side : AreDisjoint cmp l f → Behind l
          of_side (inl behind) = behind
          of_side (inr before) =
              let over = (filter_in (overlaps cmp picked.upper) files l i).1 in
              let ends = and_second (begins_by cmp picked.upper (user_of l.largest)) (ends_at_or_after cmp picked.upper (user_of l.smallest)) over in
              let le : is_at_most cmp (user_of f.smallest) (user_of l.smallest) ≡ true =
              le_trans cmp total (user_of f.smallest) (user_of f.largest) (user_of l.smallest) own (user_upto cmp total f.largest l.smallest (less_upto cmp total f.largest l.smallest before)) in
              false_true (ends_at_or_after cmp picked.upper (user_of f.smallest)) (ends_on cmp total picked.upper (user_of l.smallest) (user_of f.smallest) ends le) right

      -- a boundary file after files that it lies after
      behind_next : (chosen : List FileMeta) (g : FileMeta) → ((c : FileMeta) → IsIn chosen c → IsIn (overlapping ++ added) c) → ((c : FileMeta) → IsIn chosen c → Behind c) → IsIn (overlapping ++ added) g → goes_on cmp (largest_key cmp chosen) g ≡ true → Behind g
      behind_next chosen g into behind there goes = of_side (apart g there)
        where
          on : GoesOn chosen g
          on = goes_from chosen g goes

          of_side : AreDisjoint cmp g f → Behind g
          of_side (inl lt) = lt
          of_side (inr before) =
              let low = user_upto cmp total on.last.largest f.smallest (less_upto cmp total on.last.largest f.smallest (behind on.last on.there)) in
              let high : is_at_most cmp (user_of f.smallest) (user_of on.last.largest) ≡ true =
              le_trans cmp total (user_of f.smallest) (user_of g.smallest) (user_of on.last.largest)
              (le_trans cmp total (user_of f.smallest) (user_of f.largest) (user_of g.smallest) own (user_upto cmp total f.largest g.smallest (less_upto cmp total f.largest g.smallest before)))
              (tied_back cmp total (user_of on.last.largest) (user_of g.smallest) on.within) in
              absurd
              (none_follows cmp total files (level_of cmp total v tables lawful (level + 1)) ordered disjoint overlapping added picked.are_lower.chain
              (overlapping_leads cmp total files (level_of cmp total v tables lawful (level + 1)) ordered disjoint picked.upper added)
              f on.last at not_among (into on.last on.there)
              (record { behind = behind on.last on.there; within = tied_both cmp total (user_of on.last.largest) (user_of f.smallest) low high }))

      behind_chain : (chosen more : List FileMeta) → IsChain cmp files chosen more → ((c : FileMeta) → IsIn (chosen ++ more) c → IsIn (overlapping ++ added) c) → ((c : FileMeta) → IsIn chosen c → Behind c) → (l : FileMeta) → IsIn more l → Behind l
      behind_chain chosen [] chain into behind l i = absurd i
      behind_chain chosen (g ∷ more) chain into behind l i =
          let next = behind_next chosen g (λ c j. into c (in_front chosen (g ∷ more) c j)) behind (into g (in_back chosen (g ∷ more) g (inl refl))) (next_in files chosen g chain.0).1 in
          elim i [
            | inl same ↦ subst Behind (sym same) next
            | inr later ↦ behind_chain (chosen ++ g ∷ []) more chain.1 (λ c j. into c (subst (λ (x : List FileMeta). IsIn x c) (append_assoc chosen (g ∷ []) more) j))
                (λ c j. elim (in_either chosen (g ∷ []) c j) [
                  | inl k ↦ behind c k
                  | inr k ↦ elim k [ inl same ↦ subst Behind (sym same) next | inr none ↦ absurd none ]
                ]) l later
          ]

      behind_lower : (l : FileMeta) → Contains picked.lower l → Behind l
      behind_lower l i =
          elim (in_either overlapping added l (lower_among l i)) [
            | inl j ↦ behind_overlapping l j
            | inr j ↦ behind_chain overlapping added picked.are_lower.chain (λ c k. k) behind_overlapping l j
          ]

    pub sides : All (λ (i : InputFile). internal_cmp cmp f.largest i.meta.smallest ≡ Less) p.files ⊎ All (λ (i : InputFile). internal_cmp cmp i.meta.largest f.smallest ≡ Less) p.files
    sides =
        elim (both_false (begins_by cmp picked.upper (user_of f.largest)) (ends_at_or_after cmp picked.upper (user_of f.smallest)) no_overlap) [
          | inl left ↦ inl (all_inputs level picked.upper picked.lower p.files picked.files_are Before (before_upper left) (before_lower left))
          | inr right ↦ inr (all_inputs level picked.upper picked.lower p.files picked.files_are Behind (behind_upper right) (behind_lower right))
        ]
