-- The numbers of an outcome's outputs, and of the files of the edited version.
use Rattle.std.proofs.Common.{◌≡◌, ◌⊎◌, ℕ, zero, suc, ◌+◌, ◌-◌, ◌<◌, List, [], ◌∷◌, map, Option, Some, sym, ap, subst, ◌∙◌, inl, inr, arith}
use Rattle.std.specs.Prelude.{Contains}
use Rattle.std.proofs.lemmas.List.Elements.{All-contains}
use Rattle.edit.specs.Comparator.{KeyOrder}
use Rattle.edit.specs.Edit.{Edit}
use Rattle.edit.specs.Version.{State}
use Rattle.edit.specs.VersionOrder.{level_files}
use Rattle.edit.specs.declared.meta.FileMeta.{FileMeta}
use Rattle.folder.specs.Levels.{by_level, file_numbers, numbers_at}
use Rattle.folder.specs.ReadsAs.{IsOneOf}
use Rattle.install.specs.Install.{numbers_of}
use Rattle.install.proofs.Numbers.{after_edit, among_append, in_files, in_version, numbers_in}
use Rattle.keep.proofs.Members.{first_in, later_in}
use Rattle.keep.specs.Lawful.{IsBelowNextFile}
use Rattle.store.specs.FolderRequest.{manifest_of}
use Rattle.store.specs.InputsCompaction.{IsOrderly}
use Rattle.adoption.specs.Adoption.{Adoption, adopted}
use Rattle.adoption.specs.AdoptedOutcome.{IsAdopted}
use Rattle.store.proofs.ClosedJoint.{below_next}
use Rattle.adoption.proofs.AdoptedSo.{IsAdoptedSo, IsCounted, adopted_so, counted_so, numbers_same, rising_all}

-- a number of some levels is one of a level among them
at_level : (of : ℕ → List ℕ) (level k n : ℕ) → IsOneOf (by_level of level k) n → (l : ℕ) × (l < level + k) × IsOneOf (of l) n
at_level of level zero n m = absurd m
at_level of level (suc k) n m = elim (among_append (of level) (by_level of (level + 1) k) n m) [
  | inl a ↦ (level, omega arith, a)
  | inr b ↦ (let rest = at_level of (level + 1) k n b in let lt = rest.1 in (rest.0, omega (arith, lt), rest.2))
]

-- a number of files has one of them
numbered_below : (next : Option ℕ) (files : List FileMeta) (n : ℕ) → ((f : FileMeta) → Contains files f → IsBelowNextFile next f.number) → IsOneOf (map (λ (f : FileMeta). f.number) files) n → IsBelowNextFile next n
numbered_below next [] n h m = absurd m
numbered_below next (f ∷ files) n h (inl same) = subst (IsBelowNextFile next) (sym same) (h f (first_in f files))
numbered_below next (f ∷ files) n h (inr m) = numbered_below next files n (λ g at. h g (later_in f files g at)) m

-- in an orderly version all numbers are below next file
pub orderly_below : (cmp : KeyOrder) (v : State) → IsOrderly cmp v → v.next_file ≡ Some (manifest_of v) → (n : ℕ) → IsOneOf (file_numbers cmp v) n → n < manifest_of v
orderly_below cmp v orderly free n m =
    let l = at_level (numbers_at cmp v) 0 7 n m in
    let lt = l.1 in
    let level = orderly l.0 (omega (arith, lt)) in
    below_next v.next_file (manifest_of v) n free
    (numbered_below v.next_file (level_files cmp v l.0) n (λ f at. All-contains (λ (g : FileMeta). IsBelowNextFile v.next_file g.number) (level_files cmp v l.0) f level.below_next at) l.2)

module _ (cmp : KeyOrder) (v : State) (a : Adoption) (tables : List (ℕ × List ℕ)) (ad : IsAdopted cmp v (a, tables)) where
  abbrev e : Edit
  e = ad.edit

  so : IsAdoptedSo cmp v e a
  so = adopted_so cmp v e a ad.adoption

  counted : IsCounted v e
  counted = counted_so v e so.fits.counted

  pub output_numbers : numbers_in e.added ≡ numbers_of tables
  output_numbers = sym (numbers_same e.added) ∙ (sym (ap (λ outputs. map (λ i. i.meta.number) outputs) so.outputs) ∙ sym ad.numbers)

  pub output_above : (n : ℕ) → IsOneOf (numbers_of tables) n → manifest_of v < n
  output_above n m = (rising_all (manifest_of v) counted.high e.added n counted.rises (subst (λ (ns : List ℕ). IsOneOf ns n) (sym output_numbers) m)).0

  pub file_below : (n : ℕ) → IsOneOf (file_numbers cmp v) n → n < manifest_of v
  file_below n m = orderly_below cmp v so.orderly counted.first_free n m

  -- ---- its tables

  pub there : (n : ℕ) → IsOneOf (file_numbers cmp a.next) n → IsOneOf (numbers_of tables) n ⊎ IsOneOf (file_numbers cmp v) n
  there n m = elim (after_edit v a.next (adopted v e) so.applies n (in_files cmp a.next n m)) [
    | inl fresh ↦ inl (subst (λ (ns : List ℕ). IsOneOf ns n) output_numbers fresh)
    | inr old ↦ inr (in_version cmp v n ad.state.levels.file_levels old)
  ]
