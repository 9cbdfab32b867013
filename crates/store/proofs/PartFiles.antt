-- The files of a part of a level, and that they are closed inputs.
use Rattle.std.proofs.Common.{◌≡◌, ℕ, zero, suc, ◌+◌, ◌-◌, ◌<◌, ◌≤◌, nat_lt, eqb, Bool, true, false, List, [], ◌∷◌, ◌++◌, map, Some, None, Option, Result, Ok, Err, refl, sym, ap, subst, ◌∙◌, inl, inr, arith, eqb-true, eq-eqb}
use Rattle.std.specs.Prelude.{◌⊎◌, Contains, MatchBool, IsOkAnd, slice_get}
use Rattle.std.specs.List.{All, filter}
use Rattle.std.specs.Option.{ok_or}
use Rattle.std.specs.Cmp.{IsTotalOrder}
use Rattle.std.specs.declared.cmp.Ordering.{Ordering}
use Rattle.std.proofs.lemmas.Bool.{ltb-false}
use Rattle.std.proofs.lemmas.List.Elements.{All-contains, Contains-append_cases, Contains-append_left, Contains-append_right}
use Rattle.std.proofs.lemmas.List.Kept.{AllPairs-filter}
use Rattle.table.specs.Key.{IsInternalKey}
use Rattle.folder.proofs.Binds.{ok_is}
use Rattle.folder.specs.Answers.{fault}
use Rattle.folder.specs.fault.Fault.{Fault}
use Rattle.folder.specs.fault.FaultName.TheVariants.{Lawless, Level, NoInput}
use Rattle.folder.specs.Version.{State, are_apart}
use Rattle.folder.specs.VersionOrder.{level_files}
use Rattle.folder.specs.meta.FileMeta.{FileMeta}
use Rattle.folder.specs.meta.NewFile.{NewFile}
use Rattle.pick.specs.ApartChoice.{HaveRanges, IsApartChoice, both_files}
use Rattle.pick.specs.ClosedChoice.{IsClosedChoice, has_number_of, is_needed_above, is_needed_below}
use Rattle.pick.specs.Parts.{ArePartsBy, ArePartsFrom, IsPartsAnswer, have_ranges, part_inputs, part_key}
use Rattle.pick.specs.PickedInputs.{PickedInputs, input_at}
use Rattle.pick.specs.declared.picked_inputs.InputFile.{InputFile}
use Rattle.pick.proofs.ApartChoices.{apart_is_closed, is_there}
use Rattle.pick.proofs.Lists.{IsIn, all_from, all_in, any_from, any_gives, filter_same, in_either, in_filter, same_test}
use Rattle.pick.proofs.Widened.{all_ranges}
use Rattle.pick.proofs.VersionFiles.{are_level_files}
use Rattle.reads.proofs.Apart.{AreTwoMetas, metas_apart, one_number}
use Rattle.reads.proofs.Levels.{from_level}
use Rattle.reads.proofs.Members.{first_in, from_filter, from_map, in_map, later_in, none_in}
use Rattle.reads.proofs.Pairs.{Pairs, pairs_append, pairs_from, pairs_map, pairs_to}
use Rattle.reads.specs.Lawful.{IsLawful}
use Rattle.reads.specs.Tables.{NumberedContents}
use Rattle.compact.specs.InputsOver.{AreInputsOver, as_file, input_numbers}
use Rattle.compact.proofs.ClosedLevels.{in_level}
use Rattle.compact.proofs.Closing.{in_files_from}
use Rattle.store.specs.Choice.{IsChosen, part_of_number}
use Rattle.store.specs.declared.choice.Choice.TheVariants.{Part}
use Rattle.store.proofs.InputsApart.{AreTwoInputs}
use Rattle.store.proofs.Flow.{no_refusal, refusal}

abbrev pub done : PickedInputs → Result PickedInputs Fault
done p = Ok p

pub held_in : {X : Type 0} (xs : List X) (q : X) → IsIn xs q → Contains xs q
held_in [] q i = absurd i
held_in (x ∷ xs) q (inl same) = subst (Contains (x ∷ xs)) (sym same) (first_in x xs)
held_in (x ∷ xs) q (inr i) = later_in x xs q (held_in xs q i)

-- ---- the part of a number

place_in : (parts : List PickedInputs) (place : ℕ) (p : PickedInputs) → ok_or (slice_get parts place) (fault NoInput) ≡ done p → Contains parts p
place_in [] place p h = absurd (cc h)
place_in (q ∷ parts) zero p h = subst (Contains (q ∷ parts)) (ok_is q p h) (first_in q parts)
place_in (q ∷ parts) (suc k) p h = later_in q parts p (place_in parts k p h)

numbered_in : (number : ℕ) (parts : List PickedInputs) (p : PickedInputs) → part_of_number number parts ≡ done p → Contains parts p
numbered_in zero parts p h = absurd (cc h)
numbered_in (suc place) parts p h = place_in parts place p h

module _ (cmp : List ℕ → List ℕ → Ordering) (v : State) (level : ℕ) where
  -- each part stands apart
  pub tests_apart : (before : List (FileMeta → Bool)) (files : List FileMeta) (parts : List (FileMeta → Bool)) → ArePartsFrom cmp v level before files parts → (test : FileMeta → Bool) → IsIn parts test → IsApartChoice cmp v level test
  tests_apart before [] parts h test i = absurd (subst (λ (l : List (FileMeta → Bool)). IsIn l test) h i)
  tests_apart before (f ∷ files) [] h test i = absurd i
  tests_apart before (f ∷ files) (part ∷ parts) (inl h) test i = tests_apart before files (part ∷ parts) h.1 test i
  tests_apart before (f ∷ files) (part ∷ parts) (inr h) test (inl same) = subst (IsApartChoice cmp v level) (sym same) h.1.apart
  tests_apart before (f ∷ files) (part ∷ parts) (inr h) test (inr i) = tests_apart (before ++ part ∷ []) files parts h.2 test i

  -- inputs that are a part: all files of both levels that pass a test which stands apart
  pub record IsPartBy (p : PickedInputs) : Type 0 where
    pub low : level ≤ 5
    pub ranges : HaveRanges cmp v level
    pub test : FileMeta → Bool
    pub apart : IsApartChoice cmp v level test
    pub key : List ℕ
    pub these : p ≡ part_inputs cmp v level key test

  pub record AreParts (parts : List PickedInputs) : Type 0 where
    pub low : level ≤ 5
    pub ranges : have_ranges cmp (both_files cmp v level) ≡ true
    pub by_key : ArePartsBy cmp v level (part_key cmp v level) parts

  pub answered : (parts : List PickedInputs) → IsPartsAnswer cmp v level (Ok parts) → AreParts parts
  answered parts h = by (nat_lt 5 level) (have_ranges cmp (both_files cmp v level)) refl refl h
    where
      by : (a b : Bool) → nat_lt 5 level ≡ a → have_ranges cmp (both_files cmp v level) ≡ b
          → MatchBool a (Ok parts ≡ refusal (fault Level)) (MatchBool b (ArePartsBy cmp v level (part_key cmp v level) parts) (Ok parts ≡ refusal (fault Lawless))) → AreParts parts
      by true b e r is = absurd (no_refusal parts (fault Level) is)
      by false true e r is = record { low = let low = ltb-false 5 level e in omega (arith, low); ranges = r; by_key = is }
      by false false e r is = absurd (no_refusal parts (fault Lawless) is)

pub part_by : (cmp : List ℕ → List ℕ → Ordering) (total : IsTotalOrder cmp) (v : State) (level : ℕ) (parts : List PickedInputs) (p : PickedInputs) → IsPartsAnswer cmp v level (Ok parts) → Contains parts p → IsPartBy cmp v level p
part_by cmp total v level parts p h at = by (part_key cmp v level) told.by_key
  where
    told : AreParts cmp v level parts
    told = answered cmp v level parts h

    by : (key : Option (List ℕ)) → ArePartsBy cmp v level key parts → IsPartBy cmp v level p
    by None none = absurd (none_in p (subst (λ (l : List PickedInputs). Contains l p) none at))
    by (Some key) are =
        let x = from_map (part_inputs cmp v level key) are.parts p (subst (λ (l : List PickedInputs). Contains l p) are.these at) in
        record {
          low = told.low;
          ranges = all_ranges cmp total (both_files cmp v level) told.ranges;
          test = x.source;
          apart = tests_apart cmp v level [] (level_files cmp v level) are.parts are.are_parts x.source (is_there are.parts x.source x.there);
          key = key;
          these = sym x.is;
        }

pub part_so : (cmp : List ℕ → List ℕ → Ordering) (total : IsTotalOrder cmp) (v : State) (level number : ℕ) (p : PickedInputs) → IsChosen cmp v (Part level number) (Ok p) → IsPartBy cmp v level p
part_so cmp total v level number p (Err e, (h, is)) = absurd (no_refusal p e is)
part_so cmp total v level number p (Ok parts, (h, is)) = part_by cmp total v level parts p h (numbered_in number parts p (sym is))

-- ---- its files

-- a choice that chooses the same files of both levels is closed, too
closed_among : (cmp : List ℕ → List ℕ → Ordering) (v : State) (level : ℕ) (a b : FileMeta → Bool)
    → ((f : FileMeta) → IsIn (level_files cmp v level) f → a f ≡ b f) → ((f : FileMeta) → IsIn (level_files cmp v (level + 1)) f → a f ≡ b f)
    → IsClosedChoice cmp v level a → IsClosedChoice cmp v level b
closed_among cmp v level a b above below closed = record {
  above = all_from (λ (f : FileMeta). is_needed_above cmp level (filter b (level_files cmp v level)) f ≡ true → b f ≡ true) (level_files cmp v level)
      (λ f there needed.
      sym (above f there)
      ∙ all_in (λ (g : FileMeta). is_needed_above cmp level (filter a (level_files cmp v level)) g ≡ true → a g ≡ true) (level_files cmp v level) closed.above f there
      (subst (λ (l : List FileMeta). is_needed_above cmp level l f ≡ true) (sym uppers) needed));
  below = all_from (λ (f : FileMeta). is_needed_below cmp (filter b (level_files cmp v level)) (filter b (level_files cmp v (level + 1))) f ≡ true → b f ≡ true) (level_files cmp v (level + 1))
      (λ f there needed.
      sym (below f there)
      ∙ all_in (λ (g : FileMeta). is_needed_below cmp (filter a (level_files cmp v level)) (filter a (level_files cmp v (level + 1))) g ≡ true → a g ≡ true) (level_files cmp v (level + 1)) closed.below f there
      (subst (λ (l : List FileMeta). is_needed_below cmp l (filter a (level_files cmp v (level + 1))) f ≡ true) (sym uppers)
      (subst (λ (l : List FileMeta). is_needed_below cmp (filter b (level_files cmp v level)) l f ≡ true) (sym lowers) needed)));
}
  where
    uppers : filter a (level_files cmp v level) ≡ filter b (level_files cmp v level)
    uppers = filter_same a b (level_files cmp v level) above

    lowers : filter a (level_files cmp v (level + 1)) ≡ filter b (level_files cmp v (level + 1))
    lowers = filter_same a b (level_files cmp v (level + 1)) below

-- a file by its level and its metadata
pub made : (f : NewFile) (level : ℕ) (m : FileMeta) → f.level ≡ level → f.meta ≡ m → f ≡ record { level = level; meta = m }
made f level m own is = ap (λ (n : ℕ). record { level = n; meta = f.meta }) own ∙ ap (λ (x : FileMeta). record { level = level; meta = x }) is

module _ (cmp : List ℕ → List ℕ → Ordering) (total : IsTotalOrder cmp) (v : State) (level : ℕ) (test : FileMeta → Bool) (key : List ℕ) where
  abbrev these : PickedInputs
  these = part_inputs cmp v level key test

  abbrev uppers : List FileMeta
  uppers = filter test (level_files cmp v level)

  abbrev lowers : List FileMeta
  lowers = filter test (level_files cmp v (level + 1))

  pub record IsTaken (i : InputFile) : Type 0 where
    pub there : Contains v.files (as_file i)
    pub stands : (i.level ≡ level) ⊎ (i.level ≡ level + 1)
    pub passes : test i.meta ≡ true

  taken_at : (n : ℕ) (m : FileMeta) → Contains (filter test (level_files cmp v n)) m → Contains v.files (as_file (input_at n m)) × (test m ≡ true)
  taken_at n m at =
      let kept = from_filter test (level_files cmp v n) m at in
      let b = from_level cmp total v.files n m kept.0 in
      (subst (Contains v.files) (made b.file n m b.stands b.is) b.there, kept.1)

  pub taken : (i : InputFile) → Contains these.files i → IsTaken i
  taken i at =
      elim (Contains-append_cases (map (input_at level) uppers) (map (input_at (level + 1)) lowers) i at) [
        | inl j ↦ (let x = from_map (input_at level) uppers i j in
            let t = taken_at level x.source x.there in record {
              there = subst (λ (y : InputFile). Contains v.files (as_file y)) x.is t.0;
              stands = inl (sym (ap (λ (y : InputFile). y.level) x.is));
              passes = subst (λ (y : InputFile). test y.meta ≡ true) x.is t.1;
            })
        | inr j ↦ (let x = from_map (input_at (level + 1)) lowers i j in
            let t = taken_at (level + 1) x.source x.there in record {
              there = subst (λ (y : InputFile). Contains v.files (as_file y)) x.is t.0;
              stands = inr (sym (ap (λ (y : InputFile). y.level) x.is));
              passes = subst (λ (y : InputFile). test y.meta ≡ true) x.is t.1;
            })
      ]

  -- ---- numbers of their own

  module _ (apart : are_apart v.files ≡ true) where
    level_apart : (n : ℕ) → Pairs AreTwoMetas (filter test (level_files cmp v n))
    level_apart n =
        let differ = (are_level_files total v n apart).differ in
        pairs_from AreTwoMetas (filter test (level_files cmp v n))
        (AllPairs-filter AreTwoMetas test (level_files cmp v n) (pairs_to AreTwoMetas (level_files cmp v n) (metas_apart (level_files cmp v n) differ)))

    across : (i j : InputFile) → Contains (map (input_at level) uppers) i → Contains (map (input_at (level + 1)) lowers) j → AreTwoInputs i j
    across i j at to same =
        let x = from_map (input_at level) uppers i at in
        let y = from_map (input_at (level + 1)) lowers j to in
        let f = taken_at level x.source x.there in
        let g = taken_at (level + 1) y.source y.there in
        let number : x.source.number ≡ y.source.number = ap (λ (k : InputFile). k.meta.number) x.is ∙ same ∙ sym (ap (λ (k : InputFile). k.meta.number) y.is) in
        let levels : level ≡ level + 1 = ap (λ (k : NewFile). k.level) (one_number v.files apart (as_file (input_at level x.source)) (as_file (input_at (level + 1) y.source)) f.0 g.0 number) in
        absurd (omega (arith, levels))

    pub inputs_apart : Pairs AreTwoInputs these.files
    inputs_apart =
        pairs_append AreTwoInputs (map (input_at level) uppers) (map (input_at (level + 1)) lowers)
        (pairs_map AreTwoInputs (input_at level) uppers (level_apart level))
        (pairs_map AreTwoInputs (input_at (level + 1)) lowers (level_apart (level + 1))) across

    -- ---- which files have a number of theirs

    number_there : (is : List InputFile) (i : InputFile) → Contains is i → IsIn (map (λ (j : InputFile). j.meta.number) is) i.meta.number
    number_there is i at = is_there (map (λ (j : InputFile). j.meta.number) is) i.meta.number (in_map (λ (j : InputFile). j.meta.number) is i at)

    same_chosen : (n : ℕ) → ((f : FileMeta) → IsIn (level_files cmp v n) f → test f ≡ true → Contains these.files (input_at n f)) → (f : FileMeta) → IsIn (level_files cmp v n) f → test f ≡ has_number_of (input_numbers these) f
    same_chosen n own f there = same_test (test f) (has_number_of (input_numbers these) f) to back
      where
        to : test f ≡ true → has_number_of (input_numbers these) f ≡ true
        to h = any_from (λ (m : ℕ). eqb m f.number) (input_numbers these) f.number (number_there these.files (input_at n f) (own f there h)) (eq-eqb f.number f.number refl)

        back : has_number_of (input_numbers these) f ≡ true → test f ≡ true
        back h =
            let x = any_gives (λ (m : ℕ). eqb m f.number) (input_numbers these) h in
            let i = from_map (λ (j : InputFile). j.meta.number) these.files x.item (held_in (input_numbers these) x.item x.inside) in
            let t = taken i.source i.there in
            let b = from_level cmp total v.files n f (held_in (level_files cmp v n) f there) in
            let number : i.source.meta.number ≡ b.file.meta.number = i.is ∙ eqb-true x.item f.number x.passes ∙ sym (ap (λ (m : FileMeta). m.number) b.is) in
            let one = one_number v.files apart (as_file i.source) b.file t.there b.there number in
            ap test (sym b.is ∙ sym (ap (λ (g : NewFile). g.meta) one)) ∙ t.passes

    upper_own : (f : FileMeta) → IsIn (level_files cmp v level) f → test f ≡ true → Contains these.files (input_at level f)
    upper_own f there h =
        Contains-append_left (map (input_at level) uppers) (map (input_at (level + 1)) lowers) (input_at level f)
        (in_map (input_at level) uppers f (held_in uppers f (in_filter test (level_files cmp v level) f there h)))

    lower_own : (f : FileMeta) → IsIn (level_files cmp v (level + 1)) f → test f ≡ true → Contains these.files (input_at (level + 1) f)
    lower_own f there h =
        Contains-append_right (map (input_at level) uppers) (map (input_at (level + 1)) lowers) (input_at (level + 1) f)
        (in_map (input_at (level + 1)) lowers f (held_in lowers f (in_filter test (level_files cmp v (level + 1)) f there h)))

    -- by number the same files of both levels are chosen
    pub same_both : (f : FileMeta) → IsIn (both_files cmp v level) f → test f ≡ has_number_of (input_numbers these) f
    same_both f there =
        elim (in_either (level_files cmp v level) (level_files cmp v (level + 1)) f there) [
          | inl i ↦ same_chosen level upper_own f i
          | inr i ↦ same_chosen (level + 1) lower_own f i
        ]

    closed : HaveRanges cmp v level → IsApartChoice cmp v level test → IsClosedChoice cmp v level (has_number_of (input_numbers these))
    closed ranges stands =
        closed_among cmp v level test (has_number_of (input_numbers these)) (same_chosen level upper_own) (same_chosen (level + 1) lower_own) (apart_is_closed cmp total v level test ranges stands)

  -- ---- inputs over a lawful version

  module _ (tables : List NumberedContents) (lawful : IsLawful cmp v tables) (low : All (λ (f : NewFile). f.level ≤ 6) v.files) (level_low : level ≤ 5) where
    deeper_there : (f : NewFile) → Contains v.files f → level + 1 < f.level → Contains these.deeper f.meta
    deeper_there f at lt =
        let six : f.level ≤ 6 = All-contains (λ (x : NewFile). x.level ≤ 6) v.files f low at in
        held_in these.deeper f.meta
        (in_files_from cmp total v (5 - level) (level + 2) f.level (omega (arith, lt)) (omega (arith, six, level_low)) f.meta (in_level cmp total v tables lawful f at f.level refl))

    over : HaveRanges cmp v level → IsApartChoice cmp v level test → IsInternalKey key → AreInputsOver cmp v these
    over ranges stands internal = record {
      files = λ i at. (taken i at).there;
      levels = λ i at. (taken i at).stands;
      closed = closed lawful.apart ranges stands;
      deeper = deeper_there;
      pointer = internal;
    }

-- ---- of inputs that are a part

-- inputs that are files of the version, at levels up to 6
pub record ArePlaced (v : State) (p : PickedInputs) : Type 0 where
  pub there : (i : InputFile) → Contains p.files i → Contains v.files (as_file i)
  pub levels : (i : InputFile) → Contains p.files i → i.level ≤ 6

module _ (cmp : List ℕ → List ℕ → Ordering) (total : IsTotalOrder cmp) (v : State) (level : ℕ) (p : PickedInputs) (so : IsPartBy cmp v level p) where
  pub part_placed : ArePlaced v p
  part_placed = subst (ArePlaced v) (sym so.these) (record {
    there = λ i at. (taken cmp total v level so.test so.key i at).there;
    levels = λ i at. let low = so.low in elim (taken cmp total v level so.test so.key i at).stands [ inl own ↦ omega (arith, own, low) | inr own ↦ omega (arith, own, low) ];
  })

  pub part_apart : are_apart v.files ≡ true → Pairs AreTwoInputs p.files
  part_apart apart = subst (λ (q : PickedInputs). Pairs AreTwoInputs q.files) (sym so.these) (inputs_apart cmp total v level so.test so.key apart)

  pub part_over : (tables : List NumberedContents) → IsLawful cmp v tables → All (λ (f : NewFile). f.level ≤ 6) v.files → IsInternalKey p.pointer.key → AreInputsOver cmp v p
  part_over tables lawful low internal =
      subst (AreInputsOver cmp v) (sym so.these)
      (over cmp total v level so.test so.key tables lawful low so.low so.ranges so.apart (subst (λ (q : PickedInputs). IsInternalKey q.pointer.key) so.these internal))
