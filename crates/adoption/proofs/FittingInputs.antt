-- The inputs of an edit that fits are closed inputs over the version, so reads survive.
use Rattle.std.proofs.Common.{◌≡◌, ℕ, ◌+◌, ◌-◌, ◌<◌, ◌≤◌, nat_lt, Bool, true, false, eqb, cond, List, [], ◌∷◌, ◌++◌, map, Some, Option, Ok, Err, refl, sym, ap, subst, ◌∙◌, inl, inr, arith, eqb-true}
use Rattle.std.specs.Prelude.{◌⊎◌, Contains}
use Rattle.std.specs.List.{All, AllByRecursion, filter, fold}
use Rattle.std.specs.Cmp.{IsTotalOrder}
use Rattle.std.specs.Ordering.{nat_cmp, ordering_then, is_eq}
use Rattle.std.specs.declared.cmp.Ordering.{Ordering}
use Rattle.std.specs.declared.cmp.Ordering.TheVariants.{Less, Equal, Greater}
use Rattle.std.proofs.lemmas.Bool.{ltb-false}
use Rattle.std.proofs.lemmas.List.Elements.{All-contains, Contains-append_cases}
use Rattle.edit.proofs.Tested.{is_eq-nat_cmp}
use Rattle.edit.proofs.Binds.{ok_is}
use Rattle.edit.specs.Answers.{fault}
use Rattle.edit.specs.fault.FaultName.TheVariants.{Level}
use Rattle.edit.specs.Comparator.{KeyOrder}
use Rattle.edit.specs.Key.{IsInternalKey}
use Rattle.edit.specs.Edit.{Edit, IsEdit, deleted_cmp, edit_from, empty_edit, with_field}
use Rattle.edit.specs.Field.{Field, AddFile, DeleteFile, IsField, SetComparator, SetLastSequence, SetLogNumber, SetNextFile, SetPointer, SetPreviousLog}
use Rattle.edit.specs.Version.{State}
use Rattle.edit.specs.VersionOrder.{level_files}
use Rattle.edit.specs.declared.meta.CompactPointer.{CompactPointer}
use Rattle.edit.specs.declared.meta.DeletedFile.{DeletedFile}
use Rattle.edit.specs.declared.meta.FileMeta.{FileMeta}
use Rattle.edit.specs.declared.meta.NewFile.{NewFile}
use Rattle.pick.specs.ClosedChoice.{IsClosedChoice, has_number_of}
use Rattle.pick.specs.NumberedInputs.{chosen_files, numbered_answer, these_answer, these_inputs}
use Rattle.pick.specs.PickedInputs.{PickedInputs, files_from, input_at}
use Rattle.pick.specs.declared.picked_inputs.InputFile.{InputFile}
use Rattle.pick.proofs.Lists.{IsIn, any_from, any_gives, filter_in, same_test}
use Rattle.keep.proofs.Members.{first_or_later, from_map, in_map, none_in}
use Rattle.keep.specs.Lawful.{IsLawful}
use Rattle.keep.specs.Tables.{NumberedContents}
use Rattle.compact.specs.EditOf.{deletion_of, deletions_of}
use Rattle.compact.specs.InputsOver.{AreInputsOver, as_file, input_numbers}
use Rattle.compact.proofs.AppliedEdit.{all_only, all_there}
use Rattle.compact.proofs.ChosenNumbers.{closed_as}
use Rattle.compact.proofs.ClosedLevels.{file_at, in_level}
use Rattle.compact.proofs.Closing.{in_files_from}
use Rattle.adoption.specs.EditFit.{deleted_numbers, only_pointer}
use Rattle.store.proofs.PartFiles.{held_in, made, done}

-- ---- elements

in_held : {X : Type 0} (xs : List X) (q : X) → Contains xs q → IsIn xs q
in_held [] q at = absurd (none_in q at)
in_held (x ∷ xs) q at = elim (first_or_later x xs q at) [ inl same ↦ inl same | inr later ↦ inr (in_held xs q later) ]

-- ---- the compact pointer

pub pointer_there : (pointers : List CompactPointer) (pointer : CompactPointer) → Some pointer ≡ only_pointer pointers → pointers ≡ pointer ∷ []
pointer_there [] pointer h = absurd cc
pointer_there (p ∷ []) pointer h = let same : pointer ≡ p = cc in ap (λ (x : CompactPointer). x ∷ []) (sym same)
pointer_there (p ∷ (q ∷ pointers)) pointer h = absurd cc

-- the compact pointers of an edit are internal keys
abbrev pub AreKeys : List CompactPointer → Type 0
AreKeys pointers = AllByRecursion (λ (p : CompactPointer). IsInternalKey p.key) pointers

keys_more : (pointers : List CompactPointer) (p : CompactPointer) → AreKeys pointers → IsInternalKey p.key → AreKeys (pointers ++ p ∷ [])
keys_more [] p all own = (own, tt)
keys_more (q ∷ pointers) p all own = (all.0, keys_more pointers p all.1 own)

keys_with : (e : Edit) (field : Field) → IsField field → AreKeys e.pointers → AreKeys (with_field e field).pointers
keys_with e (SetComparator name) is h = h
keys_with e (SetLogNumber number) is h = h
keys_with e (SetPreviousLog number) is h = h
keys_with e (SetNextFile number) is h = h
keys_with e (SetLastSequence number) is h = h
keys_with e (SetPointer pointer) is h = keys_more e.pointers pointer h is.1
keys_with e (DeleteFile file) is h = h
keys_with e (AddFile file) is h = h

keys_all : (fields : List Field) (e : Edit) → AllByRecursion IsField fields → AreKeys e.pointers → AreKeys (fold with_field e fields).pointers
keys_all [] e are h = h
keys_all (f ∷ fields) e are h = keys_all fields (with_field e f) are.1 (keys_with e f are.0 h)

pub pointer_keys : (bytes : List ℕ) (e : Edit) → IsEdit bytes e → AreKeys e.pointers
pointer_keys bytes e h = subst (λ (x : Edit). AreKeys x.pointers) h.sets (keys_all h.fields empty_edit h.lawful tt)

-- ---- deletions

same_number : (m n : ℕ) → nat_cmp m n ≡ Equal → m ≡ n
same_number m n e = eqb-true m n (sym (is_eq-nat_cmp m n) ∙ ap is_eq e)

deleted_ties : (a b : DeletedFile) → deleted_cmp a b ≡ Equal → a ≡ b
deleted_ties a b h = by_level (nat_cmp a.level b.level) refl h
  where
    by_level : (o : Ordering) → nat_cmp a.level b.level ≡ o → ordering_then o (nat_cmp a.number b.number) ≡ Equal → a ≡ b
    by_level Less e t = absurd cc
    by_level Equal e t = let levels = same_number a.level b.level e in let numbers = same_number a.number b.number t in ap (λ (l : ℕ). record { level = l; number = a.number }) levels ∙ ap (λ (n : ℕ). record { level = b.level; number = n }) numbers
    by_level Greater e t = absurd cc

abbrev numbers_of : List DeletedFile → List ℕ
numbers_of deleted = map (λ (d : DeletedFile). d.number) deleted

abbrev own_numbers : List InputFile → List ℕ
own_numbers files = map (λ (i : InputFile). i.meta.number) files

abbrev has_this : FileMeta → ℕ → Bool
has_this f n = eqb n f.number

-- the numbers of the deletions of inputs are those of the inputs
deleted_are : (files : List InputFile) (f : FileMeta) → has_number_of (numbers_of (deletions_of files)) f ≡ has_number_of (own_numbers files) f
deleted_are files f = same_test (has_number_of (numbers_of (deletions_of files)) f) (has_number_of (own_numbers files) f) to back
  where
    to : has_number_of (numbers_of (deletions_of files)) f ≡ true → has_number_of (own_numbers files) f ≡ true
    to h =
        let x = any_gives (has_this f) (numbers_of (deletions_of files)) h in
        let d = from_map (λ (y : DeletedFile). y.number) (deletions_of files) x.item (held_in (numbers_of (deletions_of files)) x.item x.inside) in
        elim (all_only deleted_cmp deleted_ties [] (map deletion_of files) d.source d.there) [
          | inl none ↦ absurd (none_in d.source none)
          | inr at ↦ (let i = from_map deletion_of files d.source at in
              any_from (has_this f) (own_numbers files) i.source.meta.number (in_held (own_numbers files) i.source.meta.number (in_map (λ (y : InputFile). y.meta.number) files i.source i.there))
              (ap (has_this f) (ap (λ (y : DeletedFile). y.number) i.is ∙ d.is) ∙ x.passes))
        ]

    back : has_number_of (own_numbers files) f ≡ true → has_number_of (numbers_of (deletions_of files)) f ≡ true
    back h =
        let x = any_gives (has_this f) (own_numbers files) h in
        let i = from_map (λ (y : InputFile). y.meta.number) files x.item (held_in (own_numbers files) x.item x.inside) in
        let at = all_there deleted_cmp deleted_ties [] (map deletion_of files) (deletion_of i.source) (in_map deletion_of files i.source i.there) in
        any_from (has_this f) (numbers_of (deletions_of files)) i.source.meta.number (in_held (numbers_of (deletions_of files)) i.source.meta.number (in_map (λ (y : DeletedFile). y.number) (deletions_of files) (deletion_of i.source) at))
        (ap (has_this f) i.is ∙ x.passes)

-- ---- numbered inputs

-- they are these, and their level is at most 5
pub record IsNumberedSo (cmp : KeyOrder) (v : State) (pointer : CompactPointer) (numbers : List ℕ) (p : PickedInputs) : Type 0 where
  pub level_low : pointer.level ≤ 5
  pub these : p ≡ these_inputs cmp v pointer.level (chosen_files cmp v pointer.level (has_number_of numbers)) (chosen_files cmp v (pointer.level + 1) (has_number_of numbers)) pointer.key

some_given : (cmp : KeyOrder) (v : State) (level : ℕ) (upper lower : List FileMeta) (key : List ℕ) (p : PickedInputs) → these_answer cmp v level upper lower key ≡ done p → p ≡ these_inputs cmp v level upper lower key
some_given cmp v level [] lower key p h = absurd cc
some_given cmp v level (f ∷ upper) lower key p h = sym (ok_is (these_inputs cmp v level (f ∷ upper) lower key) p h)

pub numbered_so : (cmp : KeyOrder) (v : State) (pointer : CompactPointer) (numbers : List ℕ) (p : PickedInputs) → numbered_answer cmp v pointer numbers ≡ Ok p → IsNumberedSo cmp v pointer numbers p
numbered_so cmp v pointer numbers p h = by (nat_lt 5 pointer.level) refl h
  where
    by : (b : Bool) → nat_lt 5 pointer.level ≡ b → cond b (Err (fault Level)) (these_answer cmp v pointer.level (chosen_files cmp v pointer.level (has_number_of numbers)) (chosen_files cmp v (pointer.level + 1) (has_number_of numbers)) pointer.key) ≡ done p → IsNumberedSo cmp v pointer numbers p
    by true e is = absurd cc
    by false e is = record {
      level_low = let low = ltb-false 5 pointer.level e in omega (arith, low);
      these = some_given cmp v pointer.level (chosen_files cmp v pointer.level (has_number_of numbers)) (chosen_files cmp v (pointer.level + 1) (has_number_of numbers)) pointer.key p is;
    }

-- ---- inputs over a lawful version

module _ (cmp : KeyOrder) (total : IsTotalOrder cmp) (v : State) (tables : List NumberedContents) (lawful : IsLawful cmp v tables) (low : All (λ (f : NewFile). f.level ≤ 6) v.files) (level : ℕ) (level_low : level ≤ 5) (key : List ℕ) (numbers : List ℕ) where
  abbrev test : FileMeta → Bool
  test = has_number_of numbers

  abbrev these : PickedInputs
  these = these_inputs cmp v level (chosen_files cmp v level (has_number_of numbers)) (chosen_files cmp v (level + 1) (has_number_of numbers)) key

  record IsPlaced (i : InputFile) : Type 0 where
    there : Contains v.files (as_file i)
    stands : (i.level ≡ level) ⊎ (i.level ≡ level + 1)

  placed_at : (n : ℕ) (m : FileMeta) → Contains (filter (has_number_of numbers) (level_files cmp v n)) m → Contains v.files (as_file (input_at n m))
  placed_at n m at =
      let kept = filter_in test (level_files cmp v n) m (in_held (filter test (level_files cmp v n)) m at) in
      let b = file_at cmp total v tables lawful n m kept.0 in
      subst (Contains v.files) (made b.file n m b.stands b.is) b.there

  placed : (i : InputFile) → Contains these.files i → IsPlaced i
  placed i at =
      elim (Contains-append_cases (map (input_at level) (chosen_files cmp v level test)) (map (input_at (level + 1)) (chosen_files cmp v (level + 1) test)) i at) [
        | inl j ↦ (let x = from_map (input_at level) (chosen_files cmp v level test) i j in record {
          there = subst (λ (y : InputFile). Contains v.files (as_file y)) x.is (placed_at level x.source x.there);
          stands = inl (sym (ap (λ (y : InputFile). y.level) x.is));
        })
        | inr j ↦ (let x = from_map (input_at (level + 1)) (chosen_files cmp v (level + 1) test) i j in record {
          there = subst (λ (y : InputFile). Contains v.files (as_file y)) x.is (placed_at (level + 1) x.source x.there);
          stands = inr (sym (ap (λ (y : InputFile). y.level) x.is));
        })
      ]

  deeper_there : (f : NewFile) → Contains v.files f → level + 1 < f.level → Contains these.deeper f.meta
  deeper_there f at lt =
      let six : f.level ≤ 6 = All-contains (λ (x : NewFile). x.level ≤ 6) v.files f low at in
      held_in these.deeper f.meta
      (in_files_from cmp total v (5 - level) (level + 2) f.level (omega (arith, lt)) (omega (arith, six, level_low)) f.meta (in_level cmp total v tables lawful f at f.level refl))

  pub these_over : IsInternalKey key → IsClosedChoice cmp v level (has_number_of (input_numbers these)) → AreInputsOver cmp v these
  these_over internal closed = record {
    files = λ i at. (placed i at).there;
    levels = λ i at. (placed i at).stands;
    closed = closed;
    deeper = deeper_there;
    pointer = internal;
  }

-- the inputs of an edit that deletes just them, if they are closed
module _ (cmp : KeyOrder) (total : IsTotalOrder cmp) (v : State) (tables : List NumberedContents) (lawful : IsLawful cmp v tables) (low : All (λ (f : NewFile). f.level ≤ 6) v.files) (e : Edit) (p : PickedInputs) (pointer : CompactPointer) where
  pub fitting_over : Some pointer ≡ only_pointer e.pointers → IsInternalKey pointer.key → numbered_answer cmp v pointer (deleted_numbers e) ≡ Ok p → IsClosedChoice cmp v p.level (has_number_of (deleted_numbers e)) → e.deleted ≡ deletions_of p.files → AreInputsOver cmp v p
  fitting_over only internal numbered closed deleted =
      let so = numbered_so cmp v pointer (deleted_numbers e) p numbered in
      let own : IsClosedChoice cmp v p.level (has_number_of (input_numbers p)) =
      closed_as cmp v p.level (has_number_of (deleted_numbers e)) (has_number_of (input_numbers p))
      (λ f. ap (λ (ds : List DeletedFile). has_number_of (numbers_of ds) f) deleted ∙ deleted_are p.files f) closed in
      let these = these_inputs cmp v pointer.level (chosen_files cmp v pointer.level (has_number_of (deleted_numbers e))) (chosen_files cmp v (pointer.level + 1) (has_number_of (deleted_numbers e))) pointer.key in
      subst (AreInputsOver cmp v) (sym so.these)
      (these_over cmp total v tables lawful low pointer.level so.level_low pointer.key (deleted_numbers e) internal
      (subst (λ (q : PickedInputs). IsClosedChoice cmp v q.level (has_number_of (input_numbers q))) so.these own))
