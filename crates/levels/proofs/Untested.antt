-- A compaction without a test, for a caller that knows that the version is lawful.
use Rattle.std.proofs.Common.{◌≡◌, ◌≤◌, ◌⊎◌, ℕ, List, None, Ok, Err, IsErrAnd, Result, arith, refl, subst, sym, inl, inr}
use Rattle.std.specs.declared.cmp.Ordering.{Ordering}
use Rattle.folder.specs.Answers.{IsThen, UnlessMemory}
use Rattle.folder.specs.fault.Fault.{Fault}
use Rattle.folder.specs.Calls.{Files}
use Rattle.folder.specs.Comparator.{ShortKeys}
use Rattle.folder.specs.Levels.{file_numbers}
use Rattle.folder.specs.LoadedTables.{IsLoaded}
use Rattle.folder.specs.OpenAnswer.{FolderAnswers, IsStopped}
use Rattle.folder.specs.Orders.{order_cmp, order_short_keys}
use Rattle.folder.specs.ReadsAs.{IsFileIn}
use Rattle.folder.specs.declared.order.Order.{Order}
use Rattle.folder.proofs.OpeningLemmas.{answers_since}
use Rattle.folder.specs.Version.{State}
use Rattle.reads.specs.Tables.{NumberedContents}
use Rattle.checks.specs.LawfulTables.{IsLawfulTables}
use Rattle.checks.specs.TestedTables.{totals_of}
use Rattle.compact.specs.declared.settings.Settings.{Settings}
use Rattle.store.specs.Answers.{IsCompacted}
use Rattle.store.specs.InputsCompaction.{IsInputsCompacted}
use Rattle.store.specs.Outcome.{IsTestAnswer}
use Rattle.store.specs.Step.{StepView, step_in}
use Rattle.store.specs.StepLeft.{PassesTest}
use Rattle.store.specs.declared.compaction_step.CompactionStep.{CompactionStep}
use Rattle.store.proofs.Flow.{first_refused, no_refusal}
use Rattle.levels.specs.LevelMade.{IsLevelStep}
use Rattle.levels.specs.WholeAnswer.{AreSelected, IsVersionWhole, IsWholeCompacted, IsWholeStep, PicksInputs}
use Rattle.levels.specs.declared.selection.Selection.{Selection}
use Rattle.edit.proofs.Refusals.{unless_from}

pub passes_test : (cmp : List ℕ → List ℕ → Ordering) (files : Files) (v : State) (loaded : List (ℕ × List ℕ)) (tables : List NumberedContents) → IsLoaded (IsFileIn files) (file_numbers cmp v) (Ok loaded) → IsLawfulTables cmp v loaded (Ok tables) → PassesTest files cmp v
passes_test cmp files v loaded tables held sound = (totals_of tables, (Ok loaded, (held, (Ok tables, (sound, refl)))))

not_asked : {B : Type 0} (IsNext : Result B Fault → Type 0) (files : Files) (cmp : List ℕ → List ℕ → Ordering) (v : State) (answer : Result B Fault) → IsThen (IsTestAnswer None files cmp v) (λ passed. IsNext) answer → IsNext answer
not_asked IsNext files cmp v answer (Ok u, (h, next)) = next
not_asked IsNext files cmp v answer (Err e, (h, is)) = absurd (no_refusal tt e (sym h))

-- the answer without a test
pub untested : (before now : ℕ) (r : Result CompactionStep Fault) (cmp : List ℕ → List ℕ → Ordering) (short_keys : ShortKeys) (files : Files) (v : State) (level : ℕ) (s : Settings)
    → FolderAnswers step_in before now r (IsCompacted None cmp short_keys files v level s) → FolderAnswers step_in before now r (IsInputsCompacted cmp short_keys files v level s)
untested before now (Ok step) cmp short_keys files v level s given = not_asked (IsInputsCompacted cmp short_keys files v level s) files cmp v (Ok (step_in step)) given
untested before now (Err e) cmp short_keys files v level s given =
    unless_from e (IsStopped before now e ⊎ IsCompacted None cmp short_keys files v level s (Err e)) (IsStopped before now e ⊎ IsInputsCompacted cmp short_keys files v level s (Err e)) (λ g. elim g [
      | inl stopped ↦ inl stopped
      | inr one ↦ inr (not_asked (IsInputsCompacted cmp short_keys files v level s) files cmp v (Err e) one)
    ]) given

-- ---- what a selection takes

module _ (selection : Selection) (order : Order) (files : Files) (v : State) (level : ℕ) (s : Settings) where
  abbrev IsStep : Result StepView Fault → Type 0
  IsStep = IsLevelStep selection order files v level s

  -- inputs that the rules pick
  pub picked_step : (before now : ℕ) → before ≤ now → (r : Result CompactionStep Fault) → PicksInputs selection (order_cmp order) v level
      → FolderAnswers step_in before now r (IsCompacted None (order_cmp order) (order_short_keys order) files v level s) → FolderAnswers step_in before now r IsStep
  picked_step before now later r picks given =
      answers_since step_in before before now r (IsInputsCompacted (order_cmp order) (order_short_keys order) files v level s) IsStep (λ a h. inl (picks, h)) (omega arith) later
      (untested before now r (order_cmp order) (order_short_keys order) files v level s given)

  -- chosen parts
  pub whole_step_of : (before now : ℕ) → before ≤ now → (r : Result CompactionStep Fault)
      → FolderAnswers step_in before now r (IsWholeCompacted (order_cmp order) (order_short_keys order) files v (AreSelected selection (order_cmp order) v level) s) → FolderAnswers step_in before now r IsStep
  whole_step_of before now later r given =
      answers_since step_in before before now r (IsWholeCompacted (order_cmp order) (order_short_keys order) files v (AreSelected selection (order_cmp order) v level) s) IsStep (λ a h. inr h) (omega arith) later given

  -- the refusal of the choice
  pub choice_refused : (loaded : List (ℕ × List ℕ)) (tables : List NumberedContents) → IsLoaded (IsFileIn files) (file_numbers (order_cmp order) v) (Ok loaded) → IsLawfulTables (order_cmp order) v loaded (Ok tables)
      → (before now : ℕ) (r : Result CompactionStep Fault) (e : Fault) → IsErrAnd r (λ f. f ≡ e) → UnlessMemory e (AreSelected selection (order_cmp order) v level (Err e)) → FolderAnswers step_in before now r IsStep
  choice_refused loaded tables held sound before now (Ok x) e h given = absurd h
  choice_refused loaded tables held sound before now (Err f) e h given =
      subst (λ (d : Fault). UnlessMemory d (IsStopped before now d ⊎ IsStep (Err d))) (sym h)
      (unless_from e (AreSelected selection (order_cmp order) v level (Err e)) (IsStopped before now e ⊎ IsStep (Err e)) (λ k. inr (inr
      (first_refused (IsVersionWhole (order_cmp order) (order_short_keys order) files v (AreSelected selection (order_cmp order) v level) s) (IsWholeStep v) e (Ok loaded, (held, (Ok tables, (sound, (Err e, (k, refl)))))))))
      given)
