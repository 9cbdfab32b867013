-- The test of a version with the tables of a folder, step by step.
use Rattle.std.proofs.Common.{◌≡◌, ◌⊎◌, ℕ, suc, List, [], ◌∷◌, Option, Some, None, Result, Ok, Err, IfOk, IfErr, length, refl, sym, ap, ap₂, subst, ◌∙◌, inr}
use Rattle.std.specs.Prelude.{filter}
use Rattle.std.specs.List.{AllZip}
use Rattle.std.specs.Cmp.{IsTotalOrder}
use Rattle.std.specs.declared.cmp.Ordering.{Ordering}
use Rattle.ikey.proofs.Binds.{done, failed, ok_is}
use Rattle.ikey.specs.Answers.{UnlessMemory, fault}
use Rattle.ikey.specs.fault.Fault.{Fault}
use Rattle.ikey.specs.fault.FaultName.TheVariants.{Lawless, Memory}
use Rattle.folder.specs.Version.{State}
use Rattle.folder.specs.meta.FileMeta.{FileMeta}
pub use Rattle.folder.proofs.ToldLemmas.{loaded_in, told_still}
use Rattle.folder.specs.Calls.{Files}
use Rattle.folder.specs.Levels.{file_numbers}
use Rattle.folder.specs.LoadedTables.{IsTableOf}
use Rattle.folder.specs.OpenAnswer.{FolderAnswers, IsStopped}
use Rattle.folder.specs.ReadsAs.{IsFileIn}
use Rattle.split.specs.Ranges.{IsCover, KeyRange}
use Rattle.reads.specs.Tables.{NumberedContents}
use Rattle.reads.specs.TableOrder.{AreAllAdded, AreStandingFiles, IsNeverLawful}
use Rattle.checks.specs.TableReadings.{tables_reading}
use Rattle.checks.specs.GroupTest.{IsLawfulIn, IsLawlessIn, IsRangeAnswer, IsRangesAnswer, IsSweepAnswer, IsWalkAnswer}
use Rattle.checks.specs.HeldTables.{AreFound, IsFoundAnswer}
use Rattle.checks.specs.InOrder.{AreChecked}
use Rattle.checks.specs.NeededFiles.{is_file_needed}
use Rattle.checks.specs.TestedTables.{IsTested, totals_of}
use Rattle.checks.specs.declared.version_totals.VersionTotals.{VersionTotals}
use Rattle.checks.proofs.FileTables.{numbers_in}
use Rattle.checks.proofs.FoundTables.{checked_parts}
use Rattle.checks.proofs.LawfulLemmas.{not_checked, sound}
use Rattle.checks.proofs.RangeLemmas.{unfound_wrong, walked_sound, walked_wrong}
use Rattle.checks.proofs.SweepLemmas.{all_sound, all_there, lawless}

-- ---- a range

module _ (cmp : List ℕ → List ℕ → Ordering) (total : IsTotalOrder cmp) (files : Files) (next : Option ℕ) (standing : List FileMeta) (range : KeyRange) where
  abbrev needed : List FileMeta
  needed = filter (is_file_needed cmp range) standing

  pub range_answer : (tables : List NumberedContents) → AreFound cmp files (numbers_in needed) tables → (found : Option ℕ) → IsWalkAnswer cmp next range needed tables found → IsRangeAnswer cmp files next standing range (Ok found)
  range_answer tables there (Some count) w = walked_sound cmp total files next standing range tables there count w
  range_answer tables there None w = walked_wrong cmp total files next standing range tables there w

  pub range_unfound : IsFoundAnswer cmp files (numbers_in needed) (Ok None) → IsRangeAnswer cmp files next standing range (Ok None)
  range_unfound h = unfound_wrong cmp total files next standing range h

  pub range_answers : (before now : ℕ) (r : Result (Option ℕ) Fault) (metas : List FileMeta) (tables : List NumberedContents) → metas ≡ needed → AreFound cmp files (numbers_in needed) tables
      → IfErr r (λ e. e ≡ fault Memory) → IfOk r (IsWalkAnswer cmp next range metas tables) → FolderAnswers (λ (found : Option ℕ). found) before now r (IsRangeAnswer cmp files next standing range)
  range_answers before now (Ok found) metas tables same there m w = range_answer tables there found (subst (λ (fs : List FileMeta). IsWalkAnswer cmp next range fs tables found) same w)
  range_answers before now (Err e) metas tables same there m w = subst (λ (f : Fault). UnlessMemory f (IsStopped before now f ⊎ IsRangeAnswer cmp files next standing range (Err f))) (sym m) tt

-- ---- all ranges

module _ (cmp : List ℕ → List ℕ → Ordering) (total : IsTotalOrder cmp) (files : Files) (v : State) (standing : List FileMeta) (stand : AreStandingFiles cmp v standing) (added : AreAllAdded cmp v) where
  pub sweep_answer : (boundaries : List (List ℕ)) → IsCover cmp boundaries → (a : Result (Option ℕ) Fault) → IsRangesAnswer cmp files v.next_file standing boundaries a → IsSweepAnswer cmp files v a
  sweep_answer boundaries cover (Ok (Some count)) h = all_sound cmp total files v standing stand boundaries count cover h
  sweep_answer boundaries cover (Ok None) h = (lawless cmp total files v standing stand h, added)
  sweep_answer boundaries cover (Err e) h = absurd h

pub never_answer : (cmp : List ℕ → List ℕ → Ordering) (files : Files) (v : State) → IsNeverLawful cmp v → AreAllAdded cmp v → IsSweepAnswer cmp files v (Ok None)
never_answer cmp files v never added = (λ loaded tables there read lawful. never tables lawful, added)

-- ---- a version

pub zip_length : {A B : Type 0} (R : A → B → Type 0) (xs : List A) (ys : List B) → AllZip R xs ys → length xs ≡ length ys
zip_length R [] [] h = refl
zip_length R [] (y ∷ ys) h = absurd h
zip_length R (x ∷ xs) [] h = absurd h
zip_length R (x ∷ xs) (y ∷ ys) h = ap suc (zip_length R xs ys h.1)

pub read_length : (cmp : List ℕ → List ℕ → Ordering) (loaded : List (ℕ × List ℕ)) (tables : List NumberedContents) → tables_reading cmp loaded ≡ Ok tables → length tables ≡ length loaded
read_length cmp [] tables h = ap (λ (ts : List NumberedContents). length ts) (sym (ok_is [] tables h))
read_length cmp (t ∷ loaded) tables h =
    let parts = checked_parts cmp t loaded tables h in
    sym (ap (λ (ts : List NumberedContents). length ts) parts.whole) ∙ ap suc (read_length cmp loaded parts.behind parts.rest)

module _ (cmp : List ℕ → List ℕ → Ordering) (files : Files) (v : State) where
  -- the version is lawful
  pub tested_ok : (n count : ℕ) → n ≡ length (file_numbers cmp v) → IsLawfulIn cmp files v count → IsTested (IsFileIn files) cmp v (Ok (record { files = n; entries = count }))
  tested_ok n count is h =
      let files_too : n ≡ length h.tables = is ∙ zip_length (IsTableOf (IsFileIn files)) (file_numbers cmp v) h.loaded h.there ∙ sym (read_length cmp h.loaded h.tables h.read) in
      let whole : record { files = n; entries = count } ≡ totals_of h.tables = ap₂ (λ (a b : ℕ). let t : VersionTotals = record { files = a; entries = b } in t) files_too h.is in
      (Ok h.loaded, (h.there, (Ok h.tables, (sound cmp v h.loaded h.tables h.read h.lawful, ap (λ (t : VersionTotals). let r : Result VersionTotals Fault = Ok t in r) whole))))

  -- its tables aren't all there, or one is invalid
  pub not_tested : (e : Fault) → AreChecked cmp files (file_numbers cmp v) (Err e) → IsTested (IsFileIn files) cmp v (Err e)
  not_tested e (Err d, h) = (Err d, (h.0, same_error d e h.1))
    where
      same_error : (d e : Fault) → failed {A = Unit {0}} e ≡ failed d → failed {A = VersionTotals} e ≡ failed d
      same_error d e h = let one : e ≡ d = cc h in ap (λ (f : Fault). failed {A = VersionTotals} f) one
  not_tested e (Ok loaded, (there, (Err d, h))) = (Ok loaded, (there, (Err d, (not_checked cmp v loaded d h.0, same_error d e h.1))))
    where
      same_error : (d e : Fault) → failed {A = Unit {0}} e ≡ failed d → failed {A = VersionTotals} e ≡ failed d
      same_error d e h = let one : e ≡ d = cc h in ap (λ (f : Fault). failed {A = VersionTotals} f) one
  not_tested e (Ok loaded, (there, (Ok tables, h))) = absurd (no_value e h.1)
    where
      no_value : (e : Fault) → failed {A = Unit {0}} e ≡ done tt → ⊥
      no_value e h = cc

  -- it isn't lawful
  pub not_lawful_tested : IsLawlessIn cmp files v → AreAllAdded cmp v → AreChecked cmp files (file_numbers cmp v) (Ok tt) → IsTested (IsFileIn files) cmp v (Err (fault Lawless))
  not_lawful_tested never added (Ok loaded, (there, (Ok tables, h))) =
      (Ok loaded, (there, (Err (fault Lawless), ((Ok tables, (h.0, inr (all_there cmp files v loaded tables added there h.0, refl, never loaded tables there h.0))), refl))))
  not_lawful_tested never added (Ok loaded, (there, (Err d, h))) = absurd (no_error d h.1)
    where
      no_error : (e : Fault) → done {A = Unit {0}} tt ≡ failed e → ⊥
      no_error e h = cc
  not_lawful_tested never added (Err d, h) = absurd (no_error d h.1)
    where
      no_error : (e : Fault) → done {A = Unit {0}} tt ≡ failed e → ⊥
      no_error e h = cc
