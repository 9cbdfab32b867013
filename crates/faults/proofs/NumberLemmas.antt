-- The numbers of a version's files, and tables that are found by their numbers.
use Rattle.std.proofs.Common.{◌≡◌, ℕ, zero, suc, ◌+◌, Bool, true, false, eqb, List, [], ◌∷◌, ◌++◌, map, Some, refl, sym, ap, ap₂, ◌∙◌, inl, inr, if◌then◌else◌}
use Rattle.std.specs.Prelude.{Contains}
use Rattle.std.specs.List.{find}
use Rattle.std.specs.Option.{option_map}
use Rattle.std.proofs.lemmas.Bool.{eq-eqb}
use Rattle.std.proofs.lemmas.List.{map-append}
use Rattle.table.specs.Comparator.{KeyOrder}
use Rattle.table.specs.TableContents.{Contents}
use Rattle.folder.specs.Version.{State}
use Rattle.folder.specs.VersionOrder.{added_from, at_level, files_at, in_version_order}
use Rattle.folder.specs.meta.FileMeta.{FileMeta}
use Rattle.folder.specs.meta.NewFile.{NewFile}
use Rattle.folder.proofs.Snapshots.{added_from-suc, added_from-zero, one_level}
use Rattle.folder.specs.Calls.{Files}
use Rattle.folder.specs.Levels.{by_level, file_numbers, numbers_at}
use Rattle.reads.specs.Tables.{NumberedContents, table_of_number}
use Rattle.reads.proofs.Members.{first_or_later, none_in}
use Rattle.checks.specs.HeldTables.{AreFound}
use Rattle.checks.proofs.FileTables.{numbers_in}
use Rattle.faults.specs.AllFaults.{all_files}

level_numbers : (level : ℕ) (fs : List FileMeta) → map (λ (f : FileMeta). f.number) fs ≡ numbers_in (map (λ (f : NewFile). f.meta) (map (at_level level) fs))
level_numbers level [] = refl
level_numbers level (f ∷ fs) = ap (λ (ns : List ℕ). f.number ∷ ns) (level_numbers level fs)

numbers_from : (cmp : KeyOrder) (v : State) (level n : ℕ) → by_level (numbers_at cmp v) level n ≡ numbers_in (map (λ (f : NewFile). f.meta) (added_from cmp v.files level n))
numbers_from cmp v level zero = sym (ap (λ (fs : List NewFile). numbers_in (map (λ (f : NewFile). f.meta) fs)) (added_from-zero cmp v.files level))
numbers_from cmp v level (suc n) =
    let here : List NewFile = one_level cmp v.files level in
    let later : List NewFile = added_from cmp v.files (level + 1) n in
    ap₂ (λ (a b : List ℕ). a ++ b) (level_numbers level (in_version_order cmp (files_at v.files level))) (numbers_from cmp v (level + 1) n)
    ∙ sym (map-append (λ (f : FileMeta). f.number) (map (λ (f : NewFile). f.meta) here) (map (λ (f : NewFile). f.meta) later))
    ∙ sym (ap numbers_in (map-append (λ (f : NewFile). f.meta) here later))
    ∙ sym (ap (λ (fs : List NewFile). numbers_in (map (λ (f : NewFile). f.meta) fs)) (added_from-suc cmp v.files level n))

pub all_numbers : (cmp : KeyOrder) (v : State) → file_numbers cmp v ≡ numbers_in (map (λ (f : NewFile). f.meta) (all_files cmp v))
all_numbers cmp v = numbers_from cmp v 0 7

-- a number that was found has a table
pub some_found : (cmp : KeyOrder) (files : Files) (numbers : List ℕ) (tables : List NumberedContents) → AreFound cmp files numbers tables → (n : ℕ) → Contains numbers n → (x : Contents) × (table_of_number tables n ≡ Some x)
some_found cmp files [] [] h n at = absurd (none_in n at)
some_found cmp files [] (t ∷ tables) h n at = absurd h
some_found cmp files (m ∷ numbers) [] h n at = absurd h
some_found cmp files (m ∷ numbers) (t ∷ tables) h n at = by (eqb t.number n) refl (some_found cmp files numbers tables h.1 n)
  where
    by : (b : Bool) → eqb t.number n ≡ b → (Contains numbers n → (x : Contents) × (table_of_number tables n ≡ Some x))
        → (x : Contents) × (option_map (λ (t : NumberedContents). t.contents) (if b then Some t else find (λ (t : NumberedContents). eqb t.number n) tables) ≡ Some x)
    by true same later = (t.contents, refl)
    by false other later = elim (first_or_later m numbers n at) [
      | inl first ↦ let both : true ≡ false = sym (eq-eqb t.number n (h.0.0 ∙ sym first)) ∙ other in absurd cc
      | inr behind ↦ later behind
    ]
