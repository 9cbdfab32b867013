-- The inputs are files of the version.
use Rattle.std.proofs.Common.{◌≡◌, ℕ, ◌+◌, ◌<◌, ◌≤◌, Bool, true, eqb, List, [], ◌∷◌, ◌++◌, map, refl, sym, ap, subst, ◌∙◌, inl, inr, Some, None, Option, arith}
use Rattle.std.specs.Prelude.{Contains}
use Rattle.std.specs.List.{filter, list_any}
use Rattle.std.specs.Option.{ForSome}
use Rattle.std.specs.Cmp.{IsTotalOrder}
use Rattle.std.specs.declared.cmp.Ordering.{Ordering}
use Rattle.std.proofs.lemmas.Bool.Decides.{Decides-eqb}
use Rattle.std.proofs.lemmas.List.Elements.{All-contains, Contains-append_cases}
use Rattle.edit.specs.Version.{State, are_apart}
use Rattle.edit.specs.VersionOrder.{level_files}
use Rattle.edit.specs.declared.meta.FileMeta.{FileMeta}
use Rattle.edit.specs.declared.meta.NewFile.{NewFile}
use Rattle.pick.specs.Ranges.{overlaps}
use Rattle.pick.specs.Boundaries.{is_among, AreWithBoundaries}
use Rattle.pick.specs.PickedInputs.{PickedInputs, IsPicked, input_at}
use Rattle.pick.specs.declared.picked_inputs.InputFile.{InputFile}
use Rattle.pick.proofs.Lists.{or_either}
use Rattle.reads.specs.Lawful.{IsLawful, IsBelowNextFile}
use Rattle.reads.specs.Tables.{NumberedContents}
use Rattle.reads.proofs.Levels.{IsAtLevel, from_level}
use Rattle.reads.proofs.LawfulVersions.{one_number}
use Rattle.reads.proofs.Members.{later_in, first_in, from_filter, from_map}
use Rattle.compact.specs.ClosedInputs.{is_input}
use Rattle.compact.proofs.Closing.{any_at}

-- one that passes a test
pub record Passing {X : Type 0} (p : X → Bool) (xs : List X) : Type 0 where
  pub item : X
  pub there : Contains xs item
  pub passes : p item ≡ true

pub any_passes : {X : Type 0} (p : X → Bool) (xs : List X) → list_any p xs ≡ true → Passing p xs
any_passes p [] h = absurd cc
any_passes p (x ∷ xs) h =
    elim (or_either (p x) (list_any p xs) h) [
      | inl own ↦ record { item = x; there = first_in x xs; passes = own }
      | inr later ↦ (let rest = any_passes p xs later in record { item = rest.item; there = later_in x xs rest.item rest.there; passes = rest.passes })
    ]

-- the file of the version that an input is
pub record IsInputAt (v : State) (i : InputFile) : Type 0 where
  pub file : NewFile
  pub there : Contains v.files file
  pub stands : file.level ≡ i.level
  pub is : file.meta ≡ i.meta

-- each input is a file of the version
abbrev pub AreOfVersion : State → PickedInputs → Type 0
AreOfVersion v p = (i : InputFile) → Contains p.files i → IsInputAt v i

-- the input that a number is of
pub record IsInputOf (p : PickedInputs) (number : ℕ) : Type 0 where
  pub input : InputFile
  pub there : Contains p.files input
  pub number_is : input.meta.number ≡ number

pub input_of : (p : PickedInputs) (number : ℕ) → is_input p number ≡ true → IsInputOf p number
input_of p number h =
    let x = any_passes (λ (i : InputFile). eqb i.meta.number number) p.files h in
    record { input = x.item; there = x.there; number_is = (Decides-eqb x.item.meta.number number).0 x.passes }

pub is_one : (p : PickedInputs) (i : InputFile) (number : ℕ) → Contains p.files i → i.meta.number ≡ number → is_input p number ≡ true
is_one p i number at same = any_at (λ (x : InputFile). eqb x.meta.number number) p.files i at ((Decides-eqb i.meta.number number).1 same)

-- a file of the version that is an input stands at the input's level
pub level_of_input : (v : State) → are_apart v.files ≡ true → (p : PickedInputs) → AreOfVersion v p → (f : NewFile) → Contains v.files f → (i : InputFile) → Contains p.files i → i.meta.number ≡ f.meta.number → f.level ≡ i.level
level_of_input v apart p placed f at i there same =
    let g = placed i there in
    let number : f.meta.number ≡ g.file.meta.number = sym same ∙ sym (ap (λ (m : FileMeta). m.number) g.is) in
    ap (λ (x : NewFile). x.level) (one_number v.files apart f g.file at g.there number) ∙ g.stands

module _ (cmp : List ℕ → List ℕ → Ordering) (total : IsTotalOrder cmp) (v : State) (tables : List NumberedContents) (lawful : IsLawful cmp v tables) (level : ℕ) (p : PickedInputs) (picked : IsPicked cmp v level p) where
  bounded : (n : ℕ) (chosen all : List FileMeta) → AreWithBoundaries cmp (level_files cmp v n) chosen all → (m : FileMeta) → Contains all m → IsAtLevel v.files n m
  bounded n chosen all with m at =
      from_level cmp total v.files n m (from_filter (is_among (chosen ++ with.added)) (level_files cmp v n) m (subst (λ (l : List FileMeta). Contains l m) with.these at)).0

  of_level : (n : ℕ) (m : FileMeta) (i : InputFile) → input_at n m ≡ i → IsAtLevel v.files n m → IsInputAt v i
  of_level n m i is at = record {
    file = at.file;
    there = at.there;
    stands = at.stands ∙ ap (λ (x : InputFile). x.level) is;
    is = at.is ∙ ap (λ (x : InputFile). x.meta) is;
  }

  pub input_file : AreOfVersion v p
  input_file i at =
      elim (Contains-append_cases (map (input_at level) picked.upper) (map (input_at (level + 1)) picked.lower) i (subst (λ (l : List InputFile). Contains l i) picked.files_are at)) [
        | inl j ↦ (let x = from_map (input_at level) picked.upper i j in of_level level x.source i x.is (bounded level picked.are_upper.chosen picked.upper picked.are_upper.with_boundaries x.source x.there))
        | inr j ↦ (let x = from_map (input_at (level + 1)) picked.lower i j in of_level (level + 1) x.source i x.is (bounded (level + 1) (filter (overlaps cmp picked.upper) (level_files cmp v (level + 1))) picked.lower picked.are_lower x.source x.there))
      ]

-- a number of a lawful version's file is below one that its next file isn't above
below_by : (next : Option ℕ) (number first : ℕ) → IsBelowNextFile next number → ForSome next (λ n. n ≤ first) → number < first
below_by None number first below high = absurd below
below_by (Some n) number first below high = let le : n ≤ first = high n refl in omega (arith, below, le)

pub below_first : (cmp : List ℕ → List ℕ → Ordering) (v : State) (tables : List NumberedContents) (lawful : IsLawful cmp v tables) (first : ℕ) → ForSome v.next_file (λ next. next ≤ first) → (f : NewFile) → Contains v.files f → f.meta.number < first
below_first cmp v tables lawful first high f at =
    below_by v.next_file f.meta.number first (All-contains (λ (x : NewFile). IsBelowNextFile v.next_file x.meta.number) v.files f lawful.below_next at) high
