-- What is left of a folder by outcomes that are taken in and installed.
use Rattle.std.specs.Prelude.{◌≡◌, ◌⊎◌, ℕ, List, [], unwrap_or}
use Rattle.std.specs.Prelude.{Result, Ok, Err, IfErr, IfOk, IsErrAnd, OnOk}
use Rattle.edit.specs.Answers.{UnlessMemory, fault}
use Rattle.edit.specs.fault.Fault.{Fault}
use Rattle.edit.specs.fault.FaultName.TheVariants.{Apply, Changed}
use Rattle.edit.specs.Comparator.{KeyOrder}
use Rattle.edit.specs.Edit.{Edit, IsEdit, edit_bytes}
use Rattle.edit.specs.Version.{State}
use Rattle.folder.specs.CallSequence.{MakesCalls}
use Rattle.folder.specs.Calls.{Files, Tells}
use Rattle.folder.specs.Manifest.{order_name}
use Rattle.folder.specs.OpenAnswer.{IsStopped}
use Rattle.folder.specs.ReadsAs.{ReadsAs}
use Rattle.folder.specs.Reports.{OnlyReads, ReportsDevice}
use Rattle.folder.specs.declared.folder.Folder.{Ghosts}
use Rattle.folder.specs.declared.order.Order.{Order}
use Rattle.install.specs.FolderChange.{change_of}
use Rattle.install.specs.Install.{IsEditedBy, SurvivesCrash, calls_before_rename, current_calls}
use Rattle.install.specs.Install.{manifest_bytes, next_with, table_calls, version_with}
use Rattle.install.specs.InstallCalls.{IsInstallRun}
use Rattle.compact.specs.GroupedAnswer.{table_sizes}
use Rattle.store.specs.FolderRequest.{manifest_of}
use Rattle.store.specs.Outcome.{OutcomeView, outcome_in}
use Rattle.store.specs.Step.{step_by, step_in}
use Rattle.store.specs.declared.compaction_step.CompactionStep.{CompactionStep}
use Rattle.store.specs.declared.named_edits.WrittenTables.{WrittenTables}
use Rattle.adoption.specs.Adoption.{IsLastTested}
use Rattle.adoption.specs.TakenOutcomes.{AreTakenInTurn, Given, IsLawfulAfter, IsLawfulSoFar}
use Rattle.adoption.specs.TakenOutcomes.{edits_in, given_tables, groups_of}
use Rattle.adoption.specs.declared.comparison.Comparison.{Comparison}
use Rattle.adoption.specs.declared.taken_outcomes.TakenOutcome.{TakenOutcome}
use Rattle.adoption.specs.declared.taken_outcomes.TakenOutcomes.{TakenOutcomes}

-- the version that outcomes leave: at first the one that was opened
abbrev pub version_in : TakenOutcomes → State
version_in t = unwrap_or t.next t.opened.now.version

abbrev pub outcome_taken : TakenOutcome → OutcomeView
outcome_taken t = outcome_in t.made

-- From one state of a folder on these outcomes were taken in, for the first version: just their
-- tables were written. If outputs are compared and the folder read as that version, it was lawful,
-- and what they leave is.
pub record AreTaken {F : Type 0} (g : Ghosts F) (cmp : KeyOrder) (first : State)
    (comparison : Comparison) (old new : F) (v : State) (w : WrittenTables) : Type 0 where
  pub outcomes : List Given
  pub in_turn : AreTakenInTurn cmp first outcomes v
  pub outputs_are : w.outputs.items ≡ table_sizes (given_tables outcomes)
  pub edits_are : w.edits.items ≡ edits_in outcomes
  pub runs : MakesCalls {T = Unit {0}} {E = Fault} (table_calls (groups_of outcomes))
      (g.calls old) (g.calls new) (g.tells old) (g.tells new) (Ok tt)
  pub device : ReportsDevice {X = Unit {0}} g old new (Ok tt)
  pub lawful : (files : Files) (order : Order) (loaded : List (ℕ × List ℕ)) →
      Tells (g.tells old) files → ReadsAs cmp order first loaded files →
      IsLawfulSoFar cmp first loaded comparison outcomes v

-- Tables of outcomes were written, the last perhaps in part, and it was refused. A crash at any
-- moment leaves the first version, and so does no crash.
pub record IsTakingStopped {F T : Type 0} (g : Ghosts F) (cmp : KeyOrder) (first : State)
    (old new : F) (result : Result T Fault) : Type 0 where
  pub outcomes : List Given
  pub v : State
  pub in_turn : AreTakenInTurn cmp first outcomes v
  pub runs : MakesCalls (table_calls (groups_of outcomes)) (g.calls old) (g.calls new)
      (g.tells old) (g.tells new) result
  pub survives : (order : Order) (loaded : List (ℕ × List ℕ)) → SurvivesCrash cmp order
      (version_with first loaded) (version_with first loaded) (change_of g old new) result
  pub refused : OnOk result ⊥

-- If outcomes were taken in from the first state of a folder on, one more was; or it was refused.
abbrev pub IsTakingEnd : {F : Type 0} → Ghosts F → KeyOrder → F → F → F → TakenOutcomes →
    Result TakenOutcome Fault → Type 0
IsTakingEnd g cmp start old new t (Ok one) =
    AreTaken g cmp t.opened.now.version t.comparison start old (version_in t) t.written →
    (one.taken.opened.now ≡ t.opened.now) × (one.taken.comparison ≡ t.comparison)
    × AreTaken g cmp t.opened.now.version t.comparison start new (version_in one.taken)
    one.taken.written
IsTakingEnd g cmp start old new t (Err e) =
    AreTaken g cmp t.opened.now.version t.comparison start old (version_in t) t.written →
    IsTakingStopped {T = TakenOutcome} g cmp t.opened.now.version start new (Err e)

-- All outcomes were installed by one manifest, up to a call that failed: their tables, and the edit
-- as which their edits read. It makes the version after all of them, which is lawful, and gets
-- answer as they should. A crash at any moment leaves the first version or that one. At Ok it is
-- the latter, and at Changed the former. At Ok the step has all tables, and deletes what the edit
-- does.
pub record AreInstalledTogether {F : Type 0} (g : Ghosts F) (name : List ℕ) (cmp : KeyOrder)
    (comparison : Comparison) (first v : State) (opened : ℕ) (old new : F)
    (result : Result CompactionStep Fault) : Type 0 where
  pub outcomes : List Given
  pub in_turn : AreTakenInTurn cmp first outcomes v
  pub edit : Edit
  pub read : IsEdit (edits_in outcomes) edit
  pub edited : IsEditedBy cmp first (manifest_of first) (given_tables outcomes) (edit_bytes edit) v
  pub run : IsInstallRun g (calls_before_rename (manifest_of first) (groups_of outcomes)
      (manifest_bytes name cmp first (edit_bytes edit))) (current_calls (manifest_of first)) opened
      old new result
  pub survives : (order : Order) (loaded : List (ℕ × List ℕ)) → order_name order ≡ name →
      SurvivesCrash cmp order (version_with first loaded)
      (next_with cmp v (given_tables outcomes) loaded) (change_of g old new) result
  pub before : (order : Order) (loaded : List (ℕ × List ℕ)) → order_name order ≡ name →
      IfErr result (λ e. e ≡ fault Changed → SurvivesCrash cmp order (version_with first loaded)
      (version_with first loaded) (change_of g old new) result)
  pub lawful : (files : Files) (order : Order) (loaded : List (ℕ × List ℕ)) →
      Tells (g.tells old) files → ReadsAs cmp order first loaded files →
      IsLawfulAfter cmp first loaded comparison outcomes v
  pub step : IfOk result
      (λ step. step_in step ≡ step_by first (table_sizes (given_tables outcomes)) edit)

-- If outcomes were taken in from the first state of a folder on: there was none; or nothing was
-- installed, since the device failed, or the last version was refused; or they were installed.
abbrev pub IsTakenInstalled : {F : Type 0} → Ghosts F → List ℕ → KeyOrder → F → F → F →
    TakenOutcomes → Result CompactionStep Fault → Type 0
IsTakenInstalled g name cmp start old new t result =
    AreTaken g cmp t.opened.now.version t.comparison start old (version_in t) t.written →
    ((t.written.edits.items ≡ []) × OnlyReads g old new × IsErrAnd result (λ e. e ≡ fault Apply))
    ⊎ ((IsTakingStopped g cmp t.opened.now.version start new result
    × ((files : Files) → Tells (g.tells old) files → IfErr result (λ e. UnlessMemory e
    (IsStopped (g.failed old) (g.failed new) e
    ⊎ IsLastTested cmp files (version_in t) t.comparison (Err e)))))
    ⊎ AreInstalledTogether g name cmp t.comparison t.opened.now.version (version_in t)
    t.opened.now.manifest start new result)
