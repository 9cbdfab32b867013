-- What the count of a version answers.
use Rattle.std.proofs.Common.{◌≡◌, ◌≢◌, ℕ, List, Result, Ok, Err, IfErr, IsErrAnd, sym, ap, subst, ◌∙◌}
use Rattle.std.specs.Prelude.{◌⊎◌}
use Rattle.std.specs.declared.cmp.Ordering.{Ordering}
use Rattle.table.proofs.Binds.{ok_is, failed}
use Rattle.table.proofs.Refusals.{unless_device, unless_from}
use Rattle.table.specs.Answers.{EqualOrMemory, UnlessMemory, fault}
use Rattle.table.specs.fault.Fault.{Fault}
use Rattle.table.specs.fault.FaultName.TheVariants.{Device, Lawless}
use Rattle.folder.specs.Version.{State}
use Rattle.folder.specs.Calls.{Files}
use Rattle.folder.specs.OpenAnswer.{FolderAnswers, IsStopped}
use Rattle.folder.specs.ReadsAs.{IsFileIn}
use Rattle.checks.specs.TestedTables.{entry_count, IsTested, totals_of}
use Rattle.checks.specs.declared.version_totals.VersionTotals.{VersionTotals}
use Rattle.scan.specs.Stats.{Stats, version_stats}
use Rattle.scan.specs.TestedStats.{IsTestedStats}
use Rattle.scan.proofs.ScanAnswers.{LawfulTables}

no_refusal : {Y : Type 0} (y : Y) (e : Fault) → failed e ≡ Ok y → ⊥
no_refusal y e h = cc

same_refusal : {Y : Type 0} (e d : Fault) → failed {A = Y} e ≡ failed d → e ≡ d
same_refusal e d h = cc

-- a refusal that `?` hands on
pub answers_handed : {X Y : Type 0} (view : X → Y) (before now : ℕ) (r : Result X Fault) (e : Fault) (P : Type 0) (IsAnswer : Result Y Fault → Type 0) → IsErrAnd r (λ f. f ≡ e) → UnlessMemory e P → (P → IsStopped before now e ⊎ IsAnswer (Err e)) → FolderAnswers view before now r IsAnswer
answers_handed view before now (Ok x) e P IsAnswer is given f = absurd is
answers_handed view before now (Err d) e P IsAnswer is given f =
    subst (λ (g : Fault). UnlessMemory g (IsStopped before now g ⊎ IsAnswer (Err g))) (sym is) (unless_from e P (IsStopped before now e ⊎ IsAnswer (Err e)) f given)

-- a refusal that isn't Device
pub other_handed : {X : Type 0} (r : Result X Fault) (e : Fault) (P : Type 0) → IsErrAnd r (λ f. f ≡ e) → UnlessMemory e ((e ≡ fault Lawless) × P) → IfErr r (λ f. f.name ≢ Device)
other_handed (Ok x) e P is given = absurd is
other_handed (Err f) e P is given = λ same.
    let named : e.name ≡ Device = sym (ap (λ (d : Fault). d.name) is) ∙ same in
    let lawless : e ≡ fault Lawless = (unless_device e ((e ≡ fault Lawless) × P) named given).0 in
    let no = sym (ap (λ (d : Fault). d.name) lawless) ∙ named in
    absurd cc

-- an answer that is made of no folder
pub answers_equal : {X Y : Type 0} (view : X → Y) (before now : ℕ) (r : Result X Fault) (one two : Y) → EqualOrMemory view r (Ok one) → two ≡ one → FolderAnswers view before now r (λ answer. answer ≡ Ok two)
answers_equal view before now (Ok x) one two given same = sym given ∙ ap (λ y. Ok y) (sym same)
answers_equal view before now (Err e) one two given same = unless_from e (Ok one ≡ Err e) (IsStopped before now e ⊎ (Err e ≡ Ok two)) (λ h. absurd (no_refusal one e (sym h))) given

module _ (cmp : List ℕ → List ℕ → Ordering) (files : Files) (v : State) where
  -- what the test of the version refuses
  pub refused_stats : (e : Fault) → IsTested (IsFileIn files) cmp v (Err e) → IsTestedStats (IsFileIn files) cmp v (Err e)
  refused_stats e (Ok loaded, (there, (Ok tables, h))) = absurd (no_refusal _ e h.1)
  refused_stats e (Ok loaded, (there, (Err d, h))) = (Ok loaded, (there, (Err d, (h.0, ap failed (same_refusal e d h.1)))))
  refused_stats e (Err d, h) = (Err d, (h.0, ap failed (same_refusal e d h.1)))

  -- the tables of a version that was tested, and how many entries they have
  pub record CountedTables (tested : VersionTotals) : Type 0 where
    pub found : LawfulTables cmp files v
    pub entries : tested.entries ≡ entry_count found.tables

  pub counted_tables : (tested : VersionTotals) → IsTested (IsFileIn files) cmp v (Ok tested) → CountedTables tested
  counted_tables tested (Ok loaded, (there, (Ok tables, h))) = record {
    found = record { loaded = loaded; tables = tables; there = there; lawful = h.0 };
    entries = ap (λ (t : VersionTotals). t.entries) (ok_is tested (totals_of tables) h.1);
  }
  counted_tables tested (Ok loaded, (there, (Err e, h))) = absurd (no_refusal tested e (sym h.1))
  counted_tables tested (Err e, h) = absurd (no_refusal tested e (sym h.1))

  -- and of a version that is lawful
  pub lawful_stats : (found : LawfulTables cmp files v) (answer : Result Stats Fault) → answer ≡ Ok (version_stats cmp v found.tables) → IsTestedStats (IsFileIn files) cmp v answer
  lawful_stats found answer is = (Ok found.loaded, (found.there, (Ok found.tables, (found.lawful, is))))
