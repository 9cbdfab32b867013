-- A compaction that is installed while its tables are encoded, as a part of the call.
use Rattle.std.proofs.Common.{◌≡◌, ◌≢◌, ◌⊎◌, ℕ, List, Option, Result, Ok, Err, IfErr, IsErrAnd, refl, sym, ap, subst, ◌∙◌, inl, inr}
use Rattle.std.specs.Prelude.{◌&&◌, nat_le}
use Rattle.std.specs.declared.cmp.Ordering.{Ordering}
use Rattle.folder.proofs.Refusals.{unless_from}
use Rattle.folder.specs.Answers.{FailsOrMemory, UnlessMemory, fault, ◌>>=◌}
use Rattle.folder.specs.fault.Fault.{Fault}
use Rattle.folder.specs.fault.FaultName.TheVariants.{Device, Memory, SplitCount}
use Rattle.folder.specs.Comparator.{ShortKeys}
use Rattle.reads.specs.TestResult.{test_result}
use Rattle.folder.specs.Version.{State}
use Rattle.folder.proofs.LoadingLemmas.{told_since}
use Rattle.folder.proofs.OpeningLemmas.{refuses}
use Rattle.folder.specs.Calls.{Step}
use Rattle.folder.specs.Folder.{TellsSame}
use Rattle.folder.specs.OpenAnswer.{FolderAnswers, IsStopped}
use Rattle.folder.specs.declared.order.Order.{Order}
use Rattle.install.specs.Install.{version_with}
use Rattle.pick.specs.PickedInputs.{PickedInputs}
use Rattle.compact.specs.OneThread.{Answer, compaction_result}
use Rattle.compact.specs.Request.{RequestView}
use Rattle.compact.specs.declared.settings.Settings.{Settings}
use Rattle.store.specs.Compaction.{IsUnchanged}
use Rattle.store.specs.FolderRequest.{compaction_from, numbered_request}
use Rattle.store.specs.FoundInputs.{IsStepLeft, step_result}
use Rattle.store.specs.Step.{StepView, step_of}
use Rattle.store.specs.declared.compaction_step.CompactionStep.{CompactionStep}
use Rattle.store.proofs.Flow.{no_value}
use Rattle.store.proofs.InstallPart.{step_told, still}
use Rattle.install.proofs.Changes.{change_by}
use Rattle.store.specs.OrderView.{order_by}

-- an answer that is another one too
pub answers_as : {X Y : Type 0} (view : X → Y) (before now : ℕ) (r : Result X Fault) (IsOne IsOther : Result Y Fault → Type 0) → ((a : Result Y Fault) → IsOne a → IsOther a)
    → FolderAnswers view before now r IsOne → FolderAnswers view before now r IsOther
answers_as view before now (Ok x) IsOne IsOther f given = f (Ok (view x)) given
answers_as view before now (Err e) IsOne IsOther f given =
    unless_from e (IsStopped before now e ⊎ IsOne (Err e)) (IsStopped before now e ⊎ IsOther (Err e)) (λ g. elim g [
      | inl stopped ↦ inl stopped
      | inr one ↦ inr (f (Err e) one)
    ]) given

-- a refusal of a compaction is that of its step
pub step_refused : {X : Type 0} (view : X → StepView) (before now : ℕ) (r : Result X Fault) (e : Fault) (v : State) (p : PickedInputs) (compacted : Result Answer Fault) → IsErrAnd r (λ f. f ≡ e) → FailsOrMemory e compacted
    → FolderAnswers view before now r (λ step. step ≡ step_result v p compacted)
step_refused view before now r e v p compacted h given =
    refuses {Z = Answer} view before now r e (λ a. compacted ≡ a) (λ (step : Result StepView Fault). step ≡ step_result v p compacted) h given
    (λ is. sym (ap (step_result v p) is))

-- and its value is that of its step
pub step_value : (v : State) (p : PickedInputs) (compacted : Result Answer Fault) (answer : Answer) (step : StepView) → compacted ≡ Ok answer → step ≡ step_of v p answer → Ok step ≡ step_result v p compacted
step_value v p compacted answer step answered is = ap (λ (x : StepView). Ok x) is ∙ sym (ap (step_result v p) answered)

-- nothing was written before a refusal
pub unchanged : {T : Type 0} (steps : List Step) (tells : List ℕ → Option (List ℕ) → Type 0) (r : Result T Fault) (P : Fault → Type 0) → IsErrAnd r P → IsUnchanged (change_by steps steps tells tells) r
unchanged steps tells r P h = record { calls = refl; same = λ name held. ((λ x. x), (λ x. x)); refused = no_value r P h }

-- a step, told from earlier calls on that only read
pub step_since : (order : Order) (cmp : List ℕ → List ℕ → Ordering) (short_keys : ShortKeys) (v : State) (loaded : List (ℕ × List ℕ)) (level : ℕ) (s : Settings)
    (first before after : List Step) (zero old new : List ℕ → Option (List ℕ) → Type 0) (r : Result CompactionStep Fault) → before ≡ first → TellsSame zero old
    → IsStepLeft (order_by order cmp short_keys) (version_with v loaded) level s (change_by before after old new) r → IsStepLeft (order_by order cmp short_keys) (version_with v loaded) level s (change_by first after zero new) r
step_since order cmp short_keys v loaded level s first before after zero old new r same told (inl u) =
    inl (record { calls = u.calls ∙ same; same = told_since zero old new told u.same; refused = u.refused })
step_since order cmp short_keys v loaded level s first before after zero old new r same told (inr i) =
    inr (step_told (order_by order cmp short_keys) (version_with v loaded) level s first before after zero old new r same (still zero old told) i)

-- a split that was refused
pub split_refused : (cmp : List ℕ → List ℕ → Ordering) (short_keys : ShortKeys) (v : State) (loaded : List (ℕ × List ℕ)) (p : PickedInputs) (s : Settings) (first : Option ℕ) (e : Fault)
    → FailsOrMemory e (test_result (nat_le 1 s.ranges && nat_le s.ranges 4096) SplitCount) → FailsOrMemory e (compaction_from first cmp short_keys v loaded p s)
split_refused cmp short_keys v loaded p s first e given =
    let test = test_result (nat_le 1 s.ranges && nat_le s.ranges 4096) SplitCount in
    unless_from e (test ≡ Err e) (compaction_from first cmp short_keys v loaded p s ≡ Err e)
    (λ is. ap (λ (t : Result (Unit {0}) Fault). t >>= λ _. numbered_request first v loaded p s >>= λ (r : RequestView). compaction_result cmp short_keys s.workers r) is) given

abbrev pub value : {A : Type 0} → A → Result A Fault
value x = Ok x

-- a step whose only refusal is Memory
pub never_refused : {A : Type 0} {B : Type 0} (x : A) (e : Fault) (other : Result B Fault) → FailsOrMemory e (value x) → FailsOrMemory e other
never_refused {A} {B} x e other given = unless_from e (value x ≡ Err e) (other ≡ Err e) (λ h. absurd (none h)) given
  where
    none : value x ≡ Err e → ⊥
    none h = cc

-- memory ran out, of which no answer says anything
pub memory_answers : {X Y : Type 0} (view : X → Y) (before now : ℕ) (r : Result X Fault) (e : Fault) (IsAnswer : Result Y Fault → Type 0) → IsErrAnd r (λ f. f ≡ e) → e ≡ fault Memory → FolderAnswers view before now r IsAnswer
memory_answers view before now (Ok x) e IsAnswer h is = absurd h
memory_answers view before now (Err f) e IsAnswer h is = subst (λ (x : Fault). UnlessMemory x (IsStopped before now x ⊎ IsAnswer (Err x))) (sym (h ∙ is)) tt

-- and which isn't Device
pub memory_apart : {X : Type 0} (r : Result X Fault) (e : Fault) → IsErrAnd r (λ f. f ≡ e) → e ≡ fault Memory → IfErr r (λ f. f.name ≢ Device)
memory_apart (Ok x) e h is = absurd h
memory_apart (Err f) e h is = λ same. let both : Memory ≡ Device = sym (ap (λ (x : Fault). x.name) (h ∙ is)) ∙ same in cc both
