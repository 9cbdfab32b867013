-- What the compaction of inputs answers whose tables are held.
use Rattle.std.proofs.Common.{◌≡◌, ◌≢◌, ◌⊎◌, ℕ, List, Option, Result, Ok, Err, IfErr, IfOk, inr}
use Rattle.std.specs.declared.cmp.Ordering.{Ordering}
use Rattle.folder.proofs.Refusals.{unless_from}
use Rattle.folder.proofs.Binds.{bind_ok}
use Rattle.folder.specs.Answers.{HoldsOrMemory, UnlessMemory, ◌>>=◌}
use Rattle.folder.specs.fault.Fault.{Fault}
use Rattle.folder.specs.fault.FaultName.TheVariants.{Device}
use Rattle.folder.specs.Calls.{ToldFiles}
use Rattle.folder.specs.Comparator.{ShortKeys}
use Rattle.folder.specs.LoadedTables.{IsLoaded}
use Rattle.folder.specs.OpenAnswer.{FolderAnswers, HasDeviceFailed, IsStopped}
use Rattle.folder.specs.Version.{State}
use Rattle.pick.specs.PickedInputs.{PickedInputs}
use Rattle.reads.specs.TableContents.{Contents}
use Rattle.compact.specs.AnswerIn.{answer_in}
use Rattle.compact.specs.OneThread.{Answer}
use Rattle.compact.specs.outcome.Outcome.{Outcome}
use Rattle.compact.specs.declared.settings.Settings.{Settings}
use Rattle.store.specs.FolderRequest.{compaction_from}
use Rattle.store.specs.InputsCompaction.{IsReadAnswer, input_numbers, input_tables}
use Rattle.store.specs.PickedOutcome.{IsPickedCompacted}
use Rattle.store.specs.Step.{with_inputs}
use Rattle.store.proofs.Flow.{never_device, refusal}
use Rattle.store.proofs.ChosenInputs.{value}

-- an answer of tables that are held is one of a folder
pub held_answers : {X Y : Type 0} (view : X → Y) (before now : ℕ) (r : Result X Fault) (IsOne IsOther : Result Y Fault → Type 0) → ((a : Result Y Fault) → IsOne a → IsOther a) → HoldsOrMemory view r IsOne → FolderAnswers view before now r IsOther
held_answers view before now (Ok x) IsOne IsOther f given = f (Ok (view x)) given
held_answers view before now (Err e) IsOne IsOther f given = unless_from e (IsOne (Err e)) (IsStopped before now e ⊎ IsOther (Err e)) (λ h. inr (f (Err e) h)) given

-- and never Device
pub never_answered : {X Y : Type 0} (before now : ℕ) (view : X → Y) (r : Result X Fault) (IsOne : Result Y Fault → Type 0) → ((e : Fault) → IsOne (Err e) → e.name ≢ Device) → HoldsOrMemory view r IsOne → IfErr r (HasDeviceFailed before now)
never_answered before now view (Ok x) IsOne f given = tt
never_answered before now view (Err e) IsOne f given = never_device before now e (IsOne (Err e)) (f e) given

no_error : (x : PickedInputs × Answer) (e : Fault) → value x ≡ refusal e → ⊥
no_error x e h = cc h

-- the tables are as their files state
pub picked_compacted : (first : Option ℕ) (cmp : List ℕ → List ℕ → Ordering) (short_keys : ShortKeys) (told : ToldFiles) (v : State) (s : Settings) (p : PickedInputs) (loaded : List (ℕ × List ℕ)) → IsLoaded told (input_numbers p.files) (Ok loaded)
    → (r : Result Outcome Fault) → HoldsOrMemory (λ o. (p, answer_in o)) r (IsReadAnswer first cmp short_keys v s p loaded) → IfOk r (λ o. compaction_from first cmp short_keys v loaded p s ≡ Ok (answer_in o))
    → IfOk r (λ o. IsPickedCompacted first cmp short_keys told v s p (answer_in o))
picked_compacted first cmp short_keys told v s p loaded read (Err e) held answered = tt
picked_compacted first cmp short_keys told v s p loaded read (Ok o) (Err e, (h, is)) answered = absurd (no_error (p, answer_in o) e is)
picked_compacted first cmp short_keys told v s p loaded read (Ok o) (Ok contents, (h, is)) answered =
    record { loaded = loaded; read = read; contents = contents; stated = h; answered = answered }
