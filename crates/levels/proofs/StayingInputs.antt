-- Inputs that stay apart after the compaction of others of the same level.
use Rattle.std.proofs.Common.{◌≡◌, ℕ, ◌+◌, ◌<◌, eqb, Bool, true, false, List, [], ◌∷◌, map, Option, Some, None, refl, sym, ap, subst, ◌∙◌, inl, inr, arith, eqb-true, eq-eqb}
use Rattle.std.specs.Prelude.{Contains, unwrap_or}
use Rattle.std.specs.List.{filter}
use Rattle.std.specs.Cmp.{IsTotalOrder}
use Rattle.std.specs.declared.cmp.Ordering.{Ordering}
use Rattle.std.proofs.lemmas.List.Elements.{All-contains}
use Rattle.edit.specs.Key.{user_of}
use Rattle.edit.specs.Version.{State}
use Rattle.edit.specs.VersionOrder.{level_files}
use Rattle.edit.specs.declared.meta.FileMeta.{FileMeta}
use Rattle.edit.specs.declared.meta.NewFile.{NewFile}
use Rattle.pick.specs.ApartChoice.{AreDisjointChoices, HaveRanges, IsApartChoice, IsOldOrNew, LiesWithin, both_chosen, both_files}
use Rattle.pick.specs.ClosedChoice.{has_number_of}
use Rattle.pick.specs.PickedInputs.{PickedInputs}
use Rattle.pick.specs.Ranges.{is_at_most}
use Rattle.pick.specs.declared.picked_inputs.InputFile.{InputFile}
use Rattle.pick.proofs.ApartChoices.{apart_is_closed, is_there, refuted, stays_apart}
use Rattle.pick.proofs.Lists.{IsIn, all_from, any_from, any_gives, in_back, in_either, in_filter, in_front}
use Rattle.keep.specs.Lawful.{IsBelowNextFile, IsFileOf, IsLawful}
use Rattle.keep.specs.Tables.{NumberedContents}
use Rattle.reads.proofs.Levels.{at_level, from_level}
use Rattle.keep.proofs.Members.{from_map}
use Rattle.compact.specs.ClosedInputs.{is_input}
use Rattle.compact.specs.InputsOver.{as_file, input_numbers}
use Rattle.compact.proofs.ChosenNumbers.{chosen_is}
use Rattle.compact.proofs.FileKeys.{range_rises, user_upto}
use Rattle.store.specs.FolderRequest.{manifest_of}
use Rattle.store.specs.OutputRanges.{IsOldOrOutput, input_metas}
use Rattle.store.proofs.PartFiles.{held_in}
use Rattle.levels.specs.ApartParts.{ShareNone, StandApart}

-- the files that inputs choose, by their numbers
abbrev pub chosen_by : PickedInputs → FileMeta → Bool
chosen_by p = has_number_of (input_numbers p)

pub below_manifest : (next : Option ℕ) (n : ℕ) → IsBelowNextFile next n → n < unwrap_or next 0
below_manifest None n h = absurd h
below_manifest (Some m) n h = h

-- of each file of a lawful version the smallest user key is at or before the largest
pub lawful_ranges : (cmp : List ℕ → List ℕ → Ordering) (total : IsTotalOrder cmp) (w : State) (tables : List NumberedContents) → IsLawful cmp w tables → (level : ℕ) → HaveRanges cmp w level
lawful_ranges cmp total w tables lawful level =
    all_from (λ (f : FileMeta). is_at_most cmp (user_of f.smallest) (user_of f.largest) ≡ true) (both_files cmp w level)
    (λ f i. elim (in_either (level_files cmp w level) (level_files cmp w (level + 1)) f i) [ inl j ↦ at level f j | inr j ↦ at (level + 1) f j ])
  where
    at : (n : ℕ) (f : FileMeta) → IsIn (level_files cmp w n) f → is_at_most cmp (user_of f.smallest) (user_of f.largest) ≡ true
    at n f i =
        let g = from_level cmp total w.files n f (held_in (level_files cmp w n) f i) in
        let file : IsFileOf cmp tables f = subst (IsFileOf cmp tables) g.is (All-contains (λ (x : NewFile). IsFileOf cmp tables x.meta) w.files g.file lawful.files g.there) in
        user_upto cmp total f.smallest f.largest (range_rises cmp total tables f file)

module _ (cmp : List ℕ → List ℕ → Ordering) (total : IsTotalOrder cmp) (w : State) (tables : List NumberedContents) (lawful : IsLawful cmp w tables) (level : ℕ) (p q : PickedInputs)
    (one : StandApart cmp w level p) (other : StandApart cmp w level q) (share : ShareNone p q)
    (after : State) (within : (f : NewFile) → Contains after.files f → IsOldOrOutput cmp w p f) where
  -- a file of both levels that is an input
  in_both : (x : PickedInputs) → StandApart cmp w level x → (i : InputFile) → Contains x.files i → IsIn (both_files cmp w level) i.meta
  in_both x stands i at =
      let there = stands.over.files i at in
      elim (stands.over.levels i at) [
        | inl same ↦ in_front (level_files cmp w level) (level_files cmp w (level + 1)) i.meta
            (is_there (level_files cmp w level) i.meta (at_level cmp total w.files level lawful.apart (as_file i) there (same ∙ stands.own)))
        | inr same ↦ in_back (level_files cmp w level) (level_files cmp w (level + 1)) i.meta
            (is_there (level_files cmp w (level + 1)) i.meta (at_level cmp total w.files (level + 1) lawful.apart (as_file i) there (same ∙ ap (λ (n : ℕ). n + 1) stands.own)))
      ]

  numbered : (x : PickedInputs) (i : InputFile) → Contains x.files i → chosen_by x i.meta ≡ true
  numbered x i at = any_from (λ (n : ℕ). eqb n i.meta.number) (input_numbers x) i.meta.number (number_there x.files i at) (eq-eqb i.meta.number i.meta.number refl)
    where
      number_there : (is : List InputFile) (j : InputFile) → Contains is j → IsIn (map (λ (k : InputFile). k.meta.number) is) j.meta.number
      number_there is j there = in_mapped is (is_there is j there)
        where
          in_mapped : (ks : List InputFile) → IsIn ks j → IsIn (map (λ (k : InputFile). k.meta.number) ks) j.meta.number
          in_mapped [] k = absurd k
          in_mapped (k ∷ ks) (inl same) = inl (ap (λ (y : InputFile). y.meta.number) same)
          in_mapped (k ∷ ks) (inr later) = inr (in_mapped ks later)

  -- an input of this number
  record HasInput (x : PickedInputs) (f : FileMeta) : Type 0 where
    input : InputFile
    there : Contains x.files input
    is : input.meta.number ≡ f.number

  input_of : (x : PickedInputs) (f : FileMeta) → chosen_by x f ≡ true → HasInput x f
  input_of x f h =
      let n = any_gives (λ (m : ℕ). eqb m f.number) (input_numbers x) h in
      let i = from_map (λ (y : InputFile). y.meta.number) x.files n.item (held_in (input_numbers x) n.item n.inside) in
      record { input = i.source; there = i.there; is = i.is ∙ eqb-true n.item f.number n.passes }

  disjoint : AreDisjointChoices cmp w level (chosen_by q) (chosen_by p)
  disjoint =
      all_from (λ (f : FileMeta). chosen_by q f ≡ true → chosen_by p f ≡ false) (both_files cmp w level)
      (λ f there h. let i = input_of q f h in chosen_is p f ∙ ap (is_input p) (sym i.is) ∙ share i.input i.there)

  -- a number above next file is none of the inputs'
  new_number : (f : FileMeta) → manifest_of w < f.number → chosen_by q f ≡ false
  new_number f high = refuted (chosen_by q f) (λ h.
      let i = input_of q f h in
      let below = All-contains (λ (g : NewFile). IsBelowNextFile w.next_file g.meta.number) w.files (as_file i.input) lawful.below_next (other.over.files i.input i.there) in
      let lt = below_manifest w.next_file i.input.meta.number below in
      let is = i.is in
      absurd (omega (arith, lt, high, is)))

  in_chosen : (m : FileMeta) → IsIn (input_metas p) m → IsIn (both_chosen cmp w level (chosen_by p)) m
  in_chosen m i =
      let x = from_map (λ (y : InputFile). y.meta) p.files m (held_in (input_metas p) m i) in
      subst (IsIn (both_chosen cmp w level (chosen_by p))) x.is
      (elim (in_either (level_files cmp w level) (level_files cmp w (level + 1)) x.source.meta (in_both p one x.source x.there)) [
        | inl j ↦ in_front (filter (chosen_by p) (level_files cmp w level)) (filter (chosen_by p) (level_files cmp w (level + 1))) x.source.meta
            (in_filter (chosen_by p) (level_files cmp w level) x.source.meta j (numbered p x.source x.there))
        | inr j ↦ in_back (filter (chosen_by p) (level_files cmp w level)) (filter (chosen_by p) (level_files cmp w (level + 1))) x.source.meta
            (in_filter (chosen_by p) (level_files cmp w (level + 1)) x.source.meta j (numbered p x.source x.there))
      ])

  lies_within : (f : FileMeta) → LiesWithin cmp (input_metas p) f → LiesWithin cmp (both_chosen cmp w level (chosen_by p)) f
  lies_within f h =
      let low = any_gives (λ (g : FileMeta). is_at_most cmp (user_of g.smallest) (user_of f.smallest)) (input_metas p) h.begins in
      let high = any_gives (λ (g : FileMeta). is_at_most cmp (user_of f.largest) (user_of g.largest)) (input_metas p) h.ends in
      record {
        begins = any_from (λ (g : FileMeta). is_at_most cmp (user_of g.smallest) (user_of f.smallest)) (both_chosen cmp w level (chosen_by p)) low.item (in_chosen low.item low.inside) low.passes;
        ends = any_from (λ (g : FileMeta). is_at_most cmp (user_of f.largest) (user_of g.largest)) (both_chosen cmp w level (chosen_by p)) high.item (in_chosen high.item high.inside) high.passes;
      }

  of_level : (n : ℕ) → ((g : FileMeta) → IsIn (level_files cmp w n) g → IsIn (both_files cmp w level) g) → (f : FileMeta) → IsIn (level_files cmp after n) f → IsOldOrNew cmp w level (chosen_by q) (chosen_by p) f
  of_level n inside f i =
      let g = from_level cmp total after.files n f (held_in (level_files cmp after n) f i) in
      subst (IsOldOrNew cmp w level (chosen_by q) (chosen_by p)) g.is
      (elim (within g.file g.there) [
        | inl old ↦ inl (
          held_in (both_files cmp w level) g.file.meta (inside g.file.meta (is_there (level_files cmp w n) g.file.meta (at_level cmp total w.files n lawful.apart g.file old.0 g.stands))),
          chosen_is p g.file.meta ∙ old.1,
        )
        | inr new ↦ inr (new_number g.file.meta new.1, lies_within g.file.meta new.2)
      ])

  old_or_new : (f : FileMeta) → IsIn (both_files cmp after level) f → IsOldOrNew cmp w level (chosen_by q) (chosen_by p) f
  old_or_new f i =
      elim (in_either (level_files cmp after level) (level_files cmp after (level + 1)) f i) [
        | inl j ↦ of_level level (λ g k. in_front (level_files cmp w level) (level_files cmp w (level + 1)) g k) f j
        | inr j ↦ of_level (level + 1) (λ g k. in_back (level_files cmp w level) (level_files cmp w (level + 1)) g k) f j
      ]

  apart_after : IsApartChoice cmp after level (chosen_by q)
  apart_after =
      stays_apart cmp total w after level (chosen_by q) (chosen_by p) (lawful_ranges cmp total w tables lawful level) other.apart one.apart disjoint
      (all_from (IsOldOrNew cmp w level (chosen_by q) (chosen_by p)) (both_files cmp after level) old_or_new)

  -- the other inputs stand apart in the version after
  module _ (tables_after : List NumberedContents) (lawful_after : IsLawful cmp after tables_after) (stays : (f : NewFile) → Contains w.files f → is_input p f.meta.number ≡ false → Contains after.files f) where
    pub still_apart : StandApart cmp after level q
    still_apart = record {
      own = other.own;
      over = record {
        files = λ i at. stays (as_file i) (other.over.files i at) (share i at);
        levels = other.over.levels;
        closed = apart_is_closed cmp total after q.level (chosen_by q) (lawful_ranges cmp total after tables_after lawful_after q.level) (subst (λ (n : ℕ). IsApartChoice cmp after n (chosen_by q)) (sym other.own) apart_after);
        deeper = λ f at lt. elim (within f at) [
          | inl old ↦ other.over.deeper f old.0 lt
          | inr new ↦ (let own = one.own in let theirs = other.own in let level_is = new.0 in absurd (omega (arith, own, theirs, level_is, lt)))
        ];
        pointer = other.over.pointer;
      };
      apart = apart_after;
    }
