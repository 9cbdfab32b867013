-- Picked inputs are inputs over their version.
use Rattle.std.proofs.Common.{◌≡◌, ℕ, zero, suc, ◌+◌, ◌-◌, ◌<◌, ◌≤◌, Bool, true, false, eqb, ◌||◌, List, [], ◌∷◌, ◌++◌, map, length, sym, ap, subst, ◌∙◌, inl, inr, refl, Option, Some, None, arith}
use Rattle.std.specs.Prelude.{◌⊎◌, Contains, slice_get}
use Rattle.std.specs.List.{All, filter, list_any}
use Rattle.std.specs.Option.{option_map}
use Rattle.std.specs.Cmp.{IsTotalOrder}
use Rattle.std.specs.Ordering.{is_le}
use Rattle.std.specs.declared.cmp.Ordering.{Ordering}
use Rattle.std.specs.declared.cmp.Ordering.TheVariants.{Less}
use Rattle.std.proofs.lemmas.List.Elements.{All-contains, Contains-append_cases}
use Rattle.ikey.specs.Key.{IsInternalKey, user_of}
use Rattle.ikey.specs.Order.{internal_cmp}
use Rattle.table.specs.EncodedEntry.{Entry}
use Rattle.edit.specs.Version.{State, pointer_of}
use Rattle.edit.specs.VersionOrder.{level_files}
use Rattle.edit.specs.declared.meta.FileMeta.{FileMeta}
use Rattle.edit.specs.declared.meta.NewFile.{NewFile}
use Rattle.edit.proofs.SortedFiles.{same_number}
use Rattle.pick.specs.Ranges.{is_at_most, begins_by, ends_at_or_after, overlaps}
use Rattle.pick.specs.Boundaries.{goes_on, largest_key, is_among}
use Rattle.pick.specs.ClosedChoice.{IsClosedChoice, has_number_of, share_range, goes_with, is_needed_above, lies_among, is_needed_below}
use Rattle.pick.specs.PickedInputs.{PickedInputs, IsPicked, AreUpper, input_at, files_from}
use Rattle.pick.specs.declared.picked_inputs.InputFile.{InputFile}
use Rattle.pick.proofs.Lists.{IsIn, all_from, any_from, any_gives, and_both, and_first, and_second, or_either, false_true, filter_in, in_either}
use Rattle.pick.proofs.UserOrders.{le_refl}
use Rattle.pick.proofs.ChosenInputs.{first_in}
use Rattle.reads.specs.Tables.{NumberedContents}
use Rattle.reads.specs.Lawful.{IsLawful, AreDisjoint, IsFileOf}
use Rattle.reads.proofs.Levels.{is_in, contains_in}
use Rattle.reads.proofs.LawfulVersions.{one_number}
use Rattle.reads.proofs.Members.{later_in, first_in as head_in, from_map}
use Rattle.compact.specs.ClosedInputs.{is_input}
use Rattle.compact.specs.InputsOver.{AreInputsOver, PickedInputsOver, as_file, input_numbers}
use Rattle.compact.proofs.ChosenNumbers.{chosen_is, closed_as}
use Rattle.compact.proofs.Closing.{bounded_in, in_bounded, final_inside, in_files_from, out_above, out_below}
use Rattle.compact.proofs.ClosedHulls.{chosen_inside, none_shared}
use Rattle.compact.proofs.ClosedLevels.{among_is, in_level, file_at, level_of, level_file_of, level_disjoint, upper_input}
use Rattle.compact.proofs.FileKeys.{IsUpTo, keys_total, range_rises, user_upto, below_not_upto}
use Rattle.compact.proofs.BoundaryRanges.{Leads, HasLargest, has_largest, none_follows, one_leads, overlapping_leads, goes_within}
use Rattle.compact.proofs.Sides.{below_if, goes_behind, no_overlap, sides}
use Rattle.compact.proofs.VersionInputs.{AreOfVersion, input_file, input_of, level_of_input}

-- a file by its level and its metadata
made : (f : NewFile) (level : ℕ) (m : FileMeta) → f.level ≡ level → f.meta ≡ m → f ≡ record { level = level; meta = m }
made f level m own is = ap (λ (n : ℕ). record { level = n; meta = f.meta }) own ∙ ap (λ (x : FileMeta). record { level = level; meta = x }) is

-- a key at a place is that of an entry
abbrev key_or : List ℕ → Option (List ℕ) → List ℕ
key_or d (Some k) = k
key_or d None = d

at_key : (es : List Entry) (i : ℕ) (k : List ℕ) → option_map (λ (e : Entry). e.key) (slice_get es i) ≡ Some k → (e : Entry) × Contains es e × (e.key ≡ k)
at_key [] i k h = absurd cc
at_key (e ∷ es) zero k h = (e, head_in e es, ap (key_or k) h)
at_key (e ∷ es) (suc i) k h = let rest = at_key es i k h in (rest.0, later_in e es rest.0 rest.1, rest.2)

module _ (cmp : List ℕ → List ℕ → Ordering) (total : IsTotalOrder cmp) (v : State) (tables : List NumberedContents) (level : ℕ) (p : PickedInputs) (lawful : IsLawful cmp v tables) (low : All (λ (f : NewFile). f.level ≤ 6) v.files) (picked : IsPicked cmp v level p) where
  placed : AreOfVersion v p
  placed = input_file cmp total v tables lawful level p picked

  abbrev taken : FileMeta → Bool
  taken f = is_input p f.number

  files_there : (i : InputFile) → Contains p.files i → Contains v.files (as_file i)
  files_there i at = let x = placed i at in subst (Contains v.files) (made x.file i.level i.meta x.stands x.is) x.there

  levels_are : (i : InputFile) → Contains p.files i → (i.level ≡ p.level) ⊎ (i.level ≡ p.level + 1)
  levels_are i at =
      elim (Contains-append_cases (map (input_at level) picked.upper) (map (input_at (level + 1)) picked.lower) i (subst (λ (l : List InputFile). Contains l i) picked.files_are at)) [
        | inl j ↦ (let x = from_map (input_at level) picked.upper i j in inl (sym (ap (λ (y : InputFile). y.level) x.is) ∙ sym picked.level_is))
        | inr j ↦ (let x = from_map (input_at (level + 1)) picked.lower i j in inr (sym (ap (λ (y : InputFile). y.level) x.is) ∙ ap (λ (n : ℕ). n + 1) (sym picked.level_is)))
      ]

  -- ---- which files of a level are inputs

  abbrev above : List FileMeta
  above = picked.are_upper.chosen ++ picked.are_upper.with_boundaries.added

  -- the files of both levels whose numbers are chosen
  abbrev upper : List FileMeta
  upper = filter taken (level_files cmp v level)

  abbrev lower : List FileMeta
  lower = filter taken (level_files cmp v (level + 1))

  abbrev all : List FileMeta
  all = filter taken (level_files cmp v level) ++ filter taken (level_files cmp v (level + 1))

  abbrev overlapping : List FileMeta
  overlapping = filter (overlaps cmp picked.upper) (level_files cmp v (level + 1))

  abbrev below : List FileMeta
  below = filter (overlaps cmp picked.upper) (level_files cmp v (level + 1)) ++ picked.are_lower.added

  -- a file of a level that is an input is one at that level
  input_there : (n : ℕ) (f : FileMeta) → IsIn (level_files cmp v n) f → taken f ≡ true → (i : InputFile) × Contains p.files i × (i.level ≡ n) × (i.meta.number ≡ f.number)
  input_there n f there h =
      let b = file_at cmp total v tables lawful n f there in
      let i = input_of p f.number h in
      let number : i.input.meta.number ≡ b.file.meta.number = i.number_is ∙ sym (ap (λ (m : FileMeta). m.number) b.is) in
      (i.input, i.there, sym (level_of_input v lawful.apart p placed b.file b.there i.input i.there number) ∙ b.stands, i.number_is)

  upper_there : (f : FileMeta) → IsIn (level_files cmp v level) f → taken f ≡ true → is_among above f ≡ true
  upper_there f there h =
      let i = input_there level f there h in
      of_side i.0 i.2 i.3 (Contains-append_cases (map (input_at level) picked.upper) (map (input_at (level + 1)) picked.lower) i.0 (subst (λ (l : List InputFile). Contains l i.0) picked.files_are i.1))
    where
      of_side : (i : InputFile) → i.level ≡ level → i.meta.number ≡ f.number → Contains (map (input_at level) picked.upper) i ⊎ Contains (map (input_at (level + 1)) picked.lower) i → is_among above f ≡ true
      of_side i own same (inl j) =
          let x = from_map (input_at level) picked.upper i j in
          let number : x.source.number ≡ f.number = ap (λ (y : InputFile). y.meta.number) x.is ∙ same in
          ap (λ (n : ℕ). list_any (λ (g : FileMeta). eqb g.number n) above) (sym number) ∙ (bounded_in cmp total (level_files cmp v level) picked.are_upper.chosen picked.upper picked.are_upper.with_boundaries x.source x.there).1
      of_side i own same (inr j) = let x = from_map (input_at (level + 1)) picked.lower i j in let wrong : level + 1 ≡ level = ap (λ (y : InputFile). y.level) x.is ∙ own in absurd (omega (arith, wrong))

  lower_there : (f : FileMeta) → IsIn (level_files cmp v (level + 1)) f → taken f ≡ true → is_among below f ≡ true
  lower_there f there h =
      let i = input_there (level + 1) f there h in
      of_side i.0 i.2 i.3 (Contains-append_cases (map (input_at level) picked.upper) (map (input_at (level + 1)) picked.lower) i.0 (subst (λ (l : List InputFile). Contains l i.0) picked.files_are i.1))
    where
      of_side : (i : InputFile) → i.level ≡ level + 1 → i.meta.number ≡ f.number → Contains (map (input_at level) picked.upper) i ⊎ Contains (map (input_at (level + 1)) picked.lower) i → is_among below f ≡ true
      of_side i own same (inl j) = let x = from_map (input_at level) picked.upper i j in let wrong : level ≡ level + 1 = ap (λ (y : InputFile). y.level) x.is ∙ own in absurd (omega (arith, wrong))
      of_side i own same (inr j) =
          let x = from_map (input_at (level + 1)) picked.lower i j in
          let number : x.source.number ≡ f.number = ap (λ (y : InputFile). y.meta.number) x.is ∙ same in
          ap (λ (n : ℕ). list_any (λ (g : FileMeta). eqb g.number n) below) (sym number) ∙ (bounded_in cmp total (level_files cmp v (level + 1)) overlapping picked.lower picked.are_lower x.source x.there).1

  -- ---- the level's own files

  ordered : (n : ℕ) (m : FileMeta) → IsIn (level_files cmp v n) m → IsUpTo cmp m.smallest m.largest
  ordered n m i = range_rises cmp total tables m (level_file_of cmp total v tables lawful n m i)

  disjoint : (n : ℕ) → 0 < n → (f g : FileMeta) → IsIn (level_files cmp v n) f → IsIn (level_files cmp v n) g → same_number f g ≡ false → AreDisjoint cmp f g
  disjoint n deep = level_disjoint cmp total v tables lawful n deep

  -- two ranges that overlap share a user key
  shared : (f g : FileMeta) → IsUpTo cmp f.smallest f.largest → IsUpTo cmp g.smallest g.largest → share_range cmp g f ≡ true → ((user : List ℕ) → is_at_most cmp (user_of f.smallest) user ≡ true → is_at_most cmp user (user_of f.largest) ≡ true → is_at_most cmp (user_of g.smallest) user ≡ true → is_at_most cmp user (user_of g.largest) ≡ true → ⊥) → ⊥
  shared f g of_f of_g h none = by (is_at_most cmp (user_of f.smallest) (user_of g.smallest)) refl
    where
      begins : is_at_most cmp (user_of g.smallest) (user_of f.largest) ≡ true
      begins = and_first (is_at_most cmp (user_of g.smallest) (user_of f.largest)) (is_at_most cmp (user_of f.smallest) (user_of g.largest)) h

      ends : is_at_most cmp (user_of f.smallest) (user_of g.largest) ≡ true
      ends = and_second (is_at_most cmp (user_of g.smallest) (user_of f.largest)) (is_at_most cmp (user_of f.smallest) (user_of g.largest)) h

      by : (b : Bool) → is_at_most cmp (user_of f.smallest) (user_of g.smallest) ≡ b → ⊥
      by true e = none (user_of g.smallest) e begins (le_refl cmp total (user_of g.smallest)) (user_upto cmp total g.smallest g.largest of_g)
      by false e = none (user_of f.smallest) (le_refl cmp total (user_of f.smallest)) (user_upto cmp total f.smallest f.largest of_f) (ap is_le (below_if cmp total (user_of f.smallest) (user_of g.smallest) e)) ends

  upper_free : (n : ℕ) (upper : List FileMeta) (are : AreUpper cmp v n upper) (f g : FileMeta) → IsIn (level_files cmp v n) f → is_among (are.chosen ++ are.with_boundaries.added) f ≡ false → IsIn (level_files cmp v n) g → is_among (are.chosen ++ are.with_boundaries.added) g ≡ true → goes_with cmp n g f ≡ true → ⊥
  upper_free zero upper are f g there out also among goes =
      let files = level_files cmp v 0 in
      let added = are.with_boundaries.added in
      let inside = chosen_inside cmp total files are.first are.chosen are.are_chosen (ordered 0) in
      let final : IsIn (are.chosen ++ added) g = among_is cmp files (are.chosen ++ added) (level_of cmp total v tables lawful 0) (final_inside cmp total files are.chosen added inside are.with_boundaries.chain) g also among in
      shared f g (ordered 0 f there) (ordered 0 g also) goes (none_shared cmp total files are.first are.chosen are.are_chosen (ordered 0) added are.with_boundaries.chain f g there out final)
  upper_free (suc n) upper are f g there out also among goes =
      let files = level_files cmp v (suc n) in
      let added = are.with_boundaries.added in
      let deep : 0 < suc n = omega arith in
      let one : are.chosen ≡ are.first ∷ [] = are.are_chosen in
      let first_there = first_in cmp (pointer_of v (suc n)) files are.first are.is_first in
      let inside : (q : FileMeta) → IsIn are.chosen q → IsIn files q = λ q j. only are.first q files first_there (subst (λ (l : List FileMeta). IsIn l q) one j) in
      let leads = subst (λ (l : List FileMeta). Leads cmp total files (level_of cmp total v tables lawful (suc n)) (ordered (suc n)) (disjoint (suc n) deep) (l ++ added) l) (sym one)
      (one_leads cmp total files (level_of cmp total v tables lawful (suc n)) (ordered (suc n)) (disjoint (suc n) deep) (are.first ∷ added) are.first) in
      let final : IsIn (are.chosen ++ added) g = among_is cmp files (are.chosen ++ added) (level_of cmp total v tables lawful (suc n)) (final_inside cmp total files are.chosen added inside are.with_boundaries.chain) g also among in
      none_follows cmp total files (level_of cmp total v tables lawful (suc n)) (ordered (suc n)) (disjoint (suc n) deep) are.chosen added are.with_boundaries.chain leads f g there out final
      (record { behind = goes_behind cmp total g.largest f goes; within = goes_within cmp total g.largest f goes })
    where
      only : (first q : FileMeta) (files : List FileMeta) → IsIn files first → IsIn (first ∷ []) q → IsIn files q
      only first q files there (inl same) = subst (IsIn files) (sym same) there
      only first q files there (inr j) = absurd j

  above_closed : (f : FileMeta) → IsIn (level_files cmp v level) f → is_needed_above cmp level (filter taken (level_files cmp v level)) f ≡ true → taken f ≡ true
  above_closed f there needed = by (taken f) refl
    where
      by : (b : Bool) → taken f ≡ b → taken f ≡ true
      by true e = e
      by false e =
          let x = any_gives (λ (g : FileMeta). goes_with cmp level g f) (filter taken (level_files cmp v level)) needed in
          let g = filter_in taken (level_files cmp v level) x.item x.inside in
          absurd (upper_free level picked.upper picked.are_upper f x.item there (out_above cmp total v level p picked f there e) g.0 (upper_there x.item g.0 g.1) x.passes)

  -- ---- those of the next level

  of_upper : (q : FileMeta) → IsIn (filter taken (level_files cmp v level)) q → IsIn picked.upper q
  of_upper q i =
      let kept = filter_in taken (level_files cmp v level) q i in
      is_in picked.upper q (in_bounded cmp total (level_files cmp v level) picked.are_upper.chosen picked.upper picked.are_upper.with_boundaries q kept.0 (upper_there q kept.0 kept.1))

  overlap_on : (f : FileMeta) → overlaps cmp (filter taken (level_files cmp v level)) f ≡ true → overlaps cmp picked.upper f ≡ true
  overlap_on f h =
      let upper = filter taken (level_files cmp v level) in
      let begins = any_gives (λ (g : FileMeta). is_at_most cmp (user_of g.smallest) (user_of f.largest)) upper (and_first (begins_by cmp upper (user_of f.largest)) (ends_at_or_after cmp upper (user_of f.smallest)) h) in
      let ends = any_gives (λ (g : FileMeta). is_at_most cmp (user_of f.smallest) (user_of g.largest)) upper (and_second (begins_by cmp upper (user_of f.largest)) (ends_at_or_after cmp upper (user_of f.smallest)) h) in
      and_both (begins_by cmp picked.upper (user_of f.largest)) (ends_at_or_after cmp picked.upper (user_of f.smallest))
      (any_from (λ (g : FileMeta). is_at_most cmp (user_of g.smallest) (user_of f.largest)) picked.upper begins.item (of_upper begins.item begins.inside) begins.passes)
      (any_from (λ (g : FileMeta). is_at_most cmp (user_of f.smallest) (user_of g.largest)) picked.upper ends.item (of_upper ends.item ends.inside) ends.passes)

  -- a chosen file of either level is that of an input
  input_meta : (n : ℕ) (g : FileMeta) → IsIn (filter taken (level_files cmp v n)) g → (i : InputFile) × Contains p.files i × (i.meta ≡ g)
  input_meta n g j =
      let kept = filter_in taken (level_files cmp v n) g j in
      let i = input_there n g kept.0 kept.1 in
      let x = placed i.0 i.1 in
      let b = file_at cmp total v tables lawful n g kept.0 in
      let number : b.file.meta.number ≡ x.file.meta.number = ap (λ (m : FileMeta). m.number) b.is ∙ sym i.3 ∙ sym (ap (λ (m : FileMeta). m.number) x.is) in
      (i.0, i.1, sym x.is ∙ ap (λ (h : NewFile). h.meta) (sym (one_number v.files lawful.apart b.file x.file b.there x.there number)) ∙ b.is)

  lower_free : (f : FileMeta) → IsIn (level_files cmp v (level + 1)) f → taken f ≡ false → is_needed_below cmp (filter taken (level_files cmp v level)) (filter taken (level_files cmp v (level + 1))) f ≡ true → ⊥
  lower_free f there out needed =
      let goes = list_any (λ (g : FileMeta). goes_on cmp (Some g.largest) f) lower in
      elim (or_either (overlaps cmp upper f || goes) (lies_among cmp (upper ++ lower) f) needed) [
        | inl h ↦ elim (or_either (overlaps cmp upper f) goes h) [
          | inl k ↦ false_true (overlaps cmp picked.upper f) (overlap_on f k) (no_overlap cmp total v tables lawful level p picked f there out)
          | inr k ↦ boundary k
        ]
        | inr h ↦ between h
      ]
    where
      boundary : list_any (λ (g : FileMeta). goes_on cmp (Some g.largest) f) (filter taken (level_files cmp v (level + 1))) ≡ true → ⊥
      boundary h =
          let files = level_files cmp v (level + 1) in
          let deep : 0 < level + 1 = omega arith in
          let x = any_gives (λ (g : FileMeta). goes_on cmp (Some g.largest) f) (filter taken files) h in
          let g = filter_in taken files x.item x.inside in
          let inside : (q : FileMeta) → IsIn overlapping q → IsIn files q = λ q j. (filter_in (overlaps cmp picked.upper) files q j).0 in
          let final : IsIn below x.item = among_is cmp files below (level_of cmp total v tables lawful (level + 1)) (final_inside cmp total files overlapping picked.are_lower.added inside picked.are_lower.chain) x.item g.0 (lower_there x.item g.0 g.1) in
          none_follows cmp total files (level_of cmp total v tables lawful (level + 1)) (ordered (level + 1)) (disjoint (level + 1) deep) overlapping picked.are_lower.added picked.are_lower.chain
          (overlapping_leads cmp total files (level_of cmp total v tables lawful (level + 1)) (ordered (level + 1)) (disjoint (level + 1) deep) picked.upper picked.are_lower.added)
          f x.item there (out_below cmp total v level p picked f there out) final
          (record { behind = goes_behind cmp total x.item.largest f x.passes; within = goes_within cmp total x.item.largest f x.passes })

      -- the input that a chosen file is
      of_two : (g : FileMeta) → IsIn (filter taken (level_files cmp v level) ++ filter taken (level_files cmp v (level + 1))) g → (i : InputFile) × Contains p.files i × (i.meta ≡ g)
      of_two g j = elim (in_either (filter taken (level_files cmp v level)) (filter taken (level_files cmp v (level + 1))) g j) [ inl k ↦ input_meta level g k | inr k ↦ input_meta (level + 1) g k ]

      between : lies_among cmp (filter taken (level_files cmp v level) ++ filter taken (level_files cmp v (level + 1))) f ≡ true → ⊥
      between h = of_side (sides cmp total v tables lawful level p picked f there out)
        where
          of_side : All (λ (i : InputFile). internal_cmp cmp f.largest i.meta.smallest ≡ Less) p.files ⊎ All (λ (i : InputFile). internal_cmp cmp i.meta.largest f.smallest ≡ Less) p.files → ⊥
          of_side (inl before) =
              let x = any_gives (λ (g : FileMeta). is_le (internal_cmp cmp g.smallest f.largest)) all (and_first (list_any (λ (g : FileMeta). is_le (internal_cmp cmp g.smallest f.largest)) all) (list_any (λ (g : FileMeta). is_le (internal_cmp cmp f.smallest g.largest)) all) h) in
              let i = of_two x.item x.inside in
              below_not_upto (internal_cmp cmp) (keys_total cmp total) f.largest x.item.smallest
              (subst (λ (m : FileMeta). internal_cmp cmp f.largest m.smallest ≡ Less) i.2 (All-contains (λ (y : InputFile). internal_cmp cmp f.largest y.meta.smallest ≡ Less) p.files i.0 before i.1)) x.passes
          of_side (inr behind) =
              let x = any_gives (λ (g : FileMeta). is_le (internal_cmp cmp f.smallest g.largest)) all (and_second (list_any (λ (g : FileMeta). is_le (internal_cmp cmp g.smallest f.largest)) all) (list_any (λ (g : FileMeta). is_le (internal_cmp cmp f.smallest g.largest)) all) h) in
              let i = of_two x.item x.inside in
              below_not_upto (internal_cmp cmp) (keys_total cmp total) x.item.largest f.smallest
              (subst (λ (m : FileMeta). internal_cmp cmp m.largest f.smallest ≡ Less) i.2 (All-contains (λ (y : InputFile). internal_cmp cmp y.meta.largest f.smallest ≡ Less) p.files i.0 behind i.1)) x.passes

  below_closed : (f : FileMeta) → IsIn (level_files cmp v (level + 1)) f → is_needed_below cmp (filter taken (level_files cmp v level)) (filter taken (level_files cmp v (level + 1))) f ≡ true → taken f ≡ true
  below_closed f there needed = by (taken f) refl
    where
      by : (b : Bool) → taken f ≡ b → taken f ≡ true
      by true e = e
      by false e = absurd (lower_free f there e needed)

  is_closed : IsClosedChoice cmp v level (λ (f : FileMeta). is_input p f.number)
  is_closed = record {
    above = all_from (λ (f : FileMeta). is_needed_above cmp level (filter taken (level_files cmp v level)) f ≡ true → taken f ≡ true) (level_files cmp v level) above_closed;
    below = all_from (λ (f : FileMeta). is_needed_below cmp (filter taken (level_files cmp v level)) (filter taken (level_files cmp v (level + 1))) f ≡ true → taken f ≡ true) (level_files cmp v (level + 1)) below_closed;
  }

  -- ---- the deeper files, and the compact pointer

  deeper_there : (f : NewFile) → Contains v.files f → p.level + 1 < f.level → Contains p.deeper f.meta
  deeper_there f at lt =
      let six : f.level ≤ 6 = All-contains (λ (x : NewFile). x.level ≤ 6) v.files f low at in
      let own = picked.level_is in
      let there : IsIn (files_from cmp v (level + 2) (5 - level)) f.meta = in_files_from cmp total v (5 - level) (level + 2) f.level (omega (arith, lt, own)) (omega (arith, lt, own, six)) f.meta (in_level cmp total v tables lawful f at f.level refl) in
      contains_in p.deeper f.meta (subst (λ (l : List FileMeta). IsIn l f.meta) (sym picked.deeper_are) there)

  file_of_input : (i : InputFile) → Contains p.files i → IsFileOf cmp tables i.meta
  file_of_input i at =
      let f = placed i at in
      subst (IsFileOf cmp tables) f.is (All-contains (λ (x : NewFile). IsFileOf cmp tables x.meta) v.files f.file lawful.files f.there)

  -- the compact pointer is the largest key of an input
  pointer_by : (upper : List FileMeta) → ((m : FileMeta) → Contains upper m → Contains p.files (input_at level m)) → largest_key cmp upper ≡ Some p.pointer.key → IsInternalKey p.pointer.key
  pointer_by [] are h = absurd cc
  pointer_by (m ∷ ms) are h =
      let most : HasLargest cmp total (m ∷ ms) = has_largest cmp total (m ∷ ms) m (inl refl) in
      let is = file_of_input (input_at level most.last) (are most.last (contains_in (m ∷ ms) most.last most.there)) in
      let same : most.last.largest ≡ p.pointer.key = ap (key_or most.last.largest) (sym most.is ∙ h) in
      let at = at_key is.table.entries (length is.table.entries - 1) most.last.largest is.largest in
      subst IsInternalKey (at.2 ∙ same) (All-contains (λ (e : Entry). IsInternalKey e.key) is.table.entries at.0 is.keys at.1)

  pub picked_over : AreInputsOver cmp v p
  picked_over = record {
    files = files_there;
    levels = levels_are;
    closed = subst (λ (n : ℕ). IsClosedChoice cmp v n (has_number_of (input_numbers p))) (sym picked.level_is)
        (closed_as cmp v level taken (has_number_of (input_numbers p)) (λ f. sym (chosen_is p f)) is_closed);
    deeper = deeper_there;
    pointer = pointer_by picked.upper (upper_input level picked.upper picked.lower p.files picked.files_are) picked.pointer_key;
  }

pub picked_inputs_over : (cmp : List ℕ → List ℕ → Ordering) → IsTotalOrder cmp → PickedInputsOver cmp
picked_inputs_over cmp total v tables level p lawful low picked = picked_over cmp total v tables level p lawful low picked
