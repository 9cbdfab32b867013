-- The parts of a level: each stands apart over the version, and no two share a file.
use Rattle.std.proofs.Common.{◌≡◌, ℕ, zero, suc, ◌+◌, ◌≤◌, Bool, true, false, List, [], ◌∷◌, ◌++◌, map, Some, None, Option, Result, Ok, Err, refl, sym, ap, subst, ◌∙◌, inl, inr}
use Rattle.std.specs.Prelude.{Contains, slice_get}
use Rattle.std.specs.List.{All}
use Rattle.std.specs.Cmp.{IsTotalOrder}
use Rattle.std.specs.declared.cmp.Ordering.{Ordering}
use Rattle.edit.specs.Key.{IsInternalKey}
use Rattle.edit.proofs.Binds.{ok_is}
use Rattle.edit.specs.fault.Fault.{Fault}
use Rattle.edit.specs.Version.{State}
use Rattle.edit.specs.VersionOrder.{level_files}
use Rattle.edit.specs.declared.meta.FileMeta.{FileMeta}
use Rattle.edit.specs.declared.meta.NewFile.{NewFile}
use Rattle.pick.specs.ApartChoice.{AreDisjointChoices, HaveRanges, IsApartChoice, both_files}
use Rattle.pick.specs.Parts.{ArePartsBy, ArePartsFrom, IsPartsAnswer, part_inputs, part_key}
use Rattle.pick.specs.PickedInputs.{PickedInputs}
use Rattle.pick.proofs.ApartChoices.{is_there, refuted}
use Rattle.pick.proofs.Lists.{IsIn, all_in, in_back, in_front}
use Rattle.pick.proofs.Widened.{all_ranges}
use Rattle.keep.specs.Lawful.{IsLawful}
use Rattle.keep.specs.Tables.{NumberedContents}
use Rattle.reads.proofs.Levels.{at_level}
use Rattle.keep.proofs.Members.{first_in, from_map, later_in}
use Rattle.compact.specs.InputsOver.{as_file}
use Rattle.compact.proofs.ChosenNumbers.{chosen_is}
use Rattle.store.proofs.PartFiles.{AreParts, answered, part_by, part_over, same_both, taken}
use Rattle.store.proofs.StayingParts.{apart_among, behind}
use Rattle.levels.specs.WholeAnswer.{AreLevelParts, some_parts}
use Rattle.levels.specs.ApartParts.{ShareNone, StandApart}
use Rattle.levels.proofs.StayingInputs.{chosen_by}

-- no two of some parts share a file
abbrev pub ShareNoFile : List PickedInputs → Type 0
ShareNoFile [] = Unit {0}
ShareNoFile (p ∷ parts) = ((q : PickedInputs) → Contains parts q → ShareNone p q) × ShareNoFile parts

-- no two of some choices do
abbrev AreDisjoint : (List ℕ → List ℕ → Ordering) → State → ℕ → List (FileMeta → Bool) → Type 0
AreDisjoint cmp v level [] = Unit {0}
AreDisjoint cmp v level (t ∷ tests) = ((u : FileMeta → Bool) → IsIn tests u → AreDisjointChoices cmp v level t u) × AreDisjoint cmp v level tests

pub slice_in : (parts : List PickedInputs) (k : ℕ) (p : PickedInputs) → slice_get parts k ≡ Some p → Contains parts p
slice_in [] k p h = absurd (cc h)
slice_in (q ∷ parts) zero p h = let same : q ≡ p = cc h in subst (Contains (q ∷ parts)) same (first_in q parts)
slice_in (q ∷ parts) (suc k) p h = later_in q parts p (slice_in parts k p h)

pub place_of : {X : Type 0} (xs : List X) (x : X) → IsIn xs x → (k : ℕ) × (slice_get xs k ≡ Some x)
place_of [] x i = absurd i
place_of (y ∷ xs) x (inl same) = (zero, ap (λ (z : _). Some z) (sym same))
place_of (y ∷ xs) x (inr later) = let rest = place_of xs x later in (suc rest.0, rest.1)

module _ (cmp : List ℕ → List ℕ → Ordering) (total : IsTotalOrder cmp) (v : State) (level : ℕ) (ranges : HaveRanges cmp v level) where
  disjoint : (before : List (FileMeta → Bool)) (files : List FileMeta) (tests : List (FileMeta → Bool)) → ArePartsFrom cmp v level before files tests → ((f : FileMeta) → IsIn files f → IsIn (level_files cmp v level) f) → AreDisjoint cmp v level tests
  disjoint before [] tests h own = subst (AreDisjoint cmp v level) (sym h) tt
  disjoint before (f ∷ files) [] h own = tt
  disjoint before (f ∷ files) (t ∷ tests) (inl h) own = disjoint before files (t ∷ tests) h.1 (λ g k. own g (inr k))
  disjoint before (f ∷ files) (t ∷ tests) (inr h) own = (
    (λ u i. let at = place_of tests u i in behind cmp total v level ranges (before ++ t ∷ []) files tests h.2 (λ g k. own g (inr k)) f t (in_back before (t ∷ []) t (inl refl)) h.1 at.0 u at.1),
    disjoint (before ++ t ∷ []) files tests h.2 (λ g k. own g (inr k)),
  )

module _ (cmp : List ℕ → List ℕ → Ordering) (total : IsTotalOrder cmp) (v : State) (tables : List NumberedContents) (lawful : IsLawful cmp v tables) (level : ℕ) (key : List ℕ) where
  -- two disjoint choices as inputs
  share_none : (a b : FileMeta → Bool) → AreDisjointChoices cmp v level a b → ShareNone (part_inputs cmp v level key a) (part_inputs cmp v level key b)
  share_none a b apart i at =
      let t = taken cmp total v level b key i at in
      let both : IsIn (both_files cmp v level) i.meta = elim t.stands [
        | inl same ↦ in_front (level_files cmp v level) (level_files cmp v (level + 1)) i.meta (is_there (level_files cmp v level) i.meta (at_level cmp total v.files level lawful.apart (as_file i) t.there same))
        | inr same ↦ in_back (level_files cmp v level) (level_files cmp v (level + 1)) i.meta (is_there (level_files cmp v (level + 1)) i.meta (at_level cmp total v.files (level + 1) lawful.apart (as_file i) t.there same))
      ] in
      let none : a i.meta ≡ false = refuted (a i.meta) (λ own.
      let none' = all_in (λ (f : FileMeta). a f ≡ true → b f ≡ false) (both_files cmp v level) apart i.meta both own in
      let clash : true ≡ false = sym t.passes ∙ none' in
      cc clash) in
      sym (chosen_is (part_inputs cmp v level key a) i.meta) ∙ sym (same_both cmp total v level a key lawful.apart i.meta both) ∙ none

  shared : (tests : List (FileMeta → Bool)) → AreDisjoint cmp v level tests → ShareNoFile (map (part_inputs cmp v level key) tests)
  shared [] h = tt
  shared (t ∷ tests) h = (
    (λ q at. let u = from_map (part_inputs cmp v level key) tests q at in subst (ShareNone (part_inputs cmp v level key t)) u.is (share_none t u.source (h.0 u.source (is_there tests u.source u.there)))),
    shared tests h.1,
  )

abbrev done : List PickedInputs → Result (List PickedInputs) Fault
done parts = Ok parts

abbrev pub refused : Fault → Result (List PickedInputs) Fault
refused e = Err e

pub no_refusal : (parts : List PickedInputs) (e : Fault) → done parts ≡ refused e → ⊥
no_refusal parts e h = cc h

some_is : (found parts : List PickedInputs) → done parts ≡ some_parts found → found ≡ parts
some_is [] parts h = absurd (cc h)
some_is (p ∷ found) parts h = sym (ok_is parts (p ∷ found) h)

-- some parts are all parts of the level, and there is one
pub level_parts : (cmp : List ℕ → List ℕ → Ordering) (v : State) (level : ℕ) (parts : List PickedInputs) → AreLevelParts cmp v level (Ok parts) → IsPartsAnswer cmp v level (Ok parts)
level_parts cmp v level parts (Err e, (h, is)) = absurd (no_refusal parts e is)
level_parts cmp v level parts (Ok found, (h, is)) = subst (λ (l : List PickedInputs). IsPartsAnswer cmp v level (Ok l)) (some_is found parts is) h

none_part : done [] ≡ some_parts [] → ⊥
none_part h = cc h

first_is : (p : PickedInputs) (found : List PickedInputs) → done [] ≡ some_parts (p ∷ found) → ⊥
first_is p found h = cc h

pub some_there : (cmp : List ℕ → List ℕ → Ordering) (v : State) (level : ℕ) → AreLevelParts cmp v level (Ok []) → ⊥
some_there cmp v level (Err e, (h, is)) = no_refusal [] e is
some_there cmp v level (Ok [], (h, is)) = none_part is
some_there cmp v level (Ok (p ∷ found), (h, is)) = first_is p found is

pub share_no_file : (cmp : List ℕ → List ℕ → Ordering) (total : IsTotalOrder cmp) (v : State) (tables : List NumberedContents) → IsLawful cmp v tables → (level : ℕ) (parts : List PickedInputs) → IsPartsAnswer cmp v level (Ok parts) → ShareNoFile parts
share_no_file cmp total v tables lawful level parts h = by (part_key cmp v level) told.by_key
  where
    told : AreParts cmp v level parts
    told = answered cmp v level parts h

    by : (key : Option (List ℕ)) → ArePartsBy cmp v level key parts → ShareNoFile parts
    by None none = subst ShareNoFile (sym none) tt
    by (Some key) are =
        subst ShareNoFile (sym are.these)
        (shared cmp total v tables lawful level key are.parts
        (disjoint cmp total v level (all_ranges cmp total (both_files cmp v level) told.ranges) [] (level_files cmp v level) are.parts are.are_parts (λ f k. k)))

-- each part stands apart over the version
pub stands_apart : (cmp : List ℕ → List ℕ → Ordering) (total : IsTotalOrder cmp) (v : State) (tables : List NumberedContents) → IsLawful cmp v tables → All (λ (f : NewFile). f.level ≤ 6) v.files → (level : ℕ) (parts : List PickedInputs) → IsPartsAnswer cmp v level (Ok parts)
    → (p : PickedInputs) → Contains parts p → IsInternalKey p.pointer.key → StandApart cmp v level p
stands_apart cmp total v tables lawful low level parts h p at internal =
    let so = part_by cmp total v level parts p h at in
    record {
      own = ap (λ (x : PickedInputs). x.level) so.these;
      over = part_over cmp total v level p so tables lawful low internal;
      apart = subst (λ (x : PickedInputs). IsApartChoice cmp v level (chosen_by x)) (sym so.these)
          (apart_among cmp v level so.test (chosen_by (part_inputs cmp v level so.key so.test)) (same_both cmp total v level so.test so.key lawful.apart) so.apart);
    }

pub level_low : (cmp : List ℕ → List ℕ → Ordering) (v : State) (level : ℕ) (parts : List PickedInputs) → IsPartsAnswer cmp v level (Ok parts) → level ≤ 5
level_low cmp v level parts h = (answered cmp v level parts h).low
