-- The steps of taking an outcome in, as parts of a call.
use Rattle.std.proofs.Common.{◌≡◌, ◌⊎◌, ℕ, [], ◌∷◌, Result, Ok, Err, IsErrAnd, refl, sym, subst, ◌∙◌, inl, inr}
use Rattle.edit.specs.Answers.{UnlessMemory, fault}
use Rattle.edit.specs.fault.Fault.{Fault}
use Rattle.edit.specs.fault.FaultName.TheVariants.{Memory}
use Rattle.edit.specs.Comparator.{KeyOrder}
use Rattle.folder.proofs.LoadingLemmas.{told_since}
use Rattle.folder.specs.CallSequence.{MakesCalls}
use Rattle.folder.specs.OpenAnswer.{FolderAnswers, IsStopped}
use Rattle.folder.specs.Reports.{OnlyReads}
use Rattle.folder.specs.declared.folder.Folder.{Ghosts}
use Rattle.install.specs.Install.{table_calls}
use Rattle.store.proofs.Flow.{no_value, told_still}
use Rattle.store.proofs.InstallPart.{refused_ok}
use Rattle.store.proofs.RunPart.{calls_since, handed_calls, passed_calls}
use Rattle.install.specs.FolderChange.{change_of}
use Rattle.store.specs.Compaction.{IsUnchanged}
use Rattle.adoption.specs.TakenOutcomes.{Given}
use Rattle.adoption.specs.TakingSteps.{AreTestedOutputs, IsOneMore, IsTakingOf, IsWritten, IsWrittenTaking}
use Rattle.adoption.specs.declared.taken_outcomes.TakenOutcome.{TakenOutcome}
use Rattle.adoption.specs.declared.taken_outcomes.TakenOutcomes.{TakenOutcomes}

pub memory_answers : {X Y : Type 0} (view : X → Y) (before now : ℕ) (q : Result X Fault) (e : Fault) (IsAnswer : Result Y Fault → Type 0) → e ≡ fault Memory → IsErrAnd q (λ f. f ≡ e) → FolderAnswers view before now q IsAnswer
memory_answers view before now (Ok x) e IsAnswer memory h = absurd h
memory_answers view before now (Err f) e IsAnswer memory h = subst (λ (d : Fault). UnlessMemory d (IsStopped before now d ⊎ IsAnswer (Err d))) (sym (h ∙ memory)) tt

pub nothing_written : {F X : Type 0} (g : Ghosts F) (old : F) (q : Result X Fault) (e : Fault) → IsErrAnd q (λ f. f ≡ e) → IsUnchanged (change_of g old old) q
nothing_written g old q e h = record { calls = refl; same = λ n held. ((λ x. x), (λ x. x)); refused = no_value q (λ f. f ≡ e) h }

module _ {F : Type 0} (g : Ghosts F) (given : Given) (old new : F) (t : TakenOutcomes) where
  pub written_refused : {X : Type 0} (r : Result X Fault) (q : Result TakenOutcome Fault) (e : Fault) → r ≡ Err e → IsErrAnd q (λ f. f ≡ e) → MakesCalls (table_calls (given.1 ∷ [])) (g.calls old) (g.calls new) (g.tells old) (g.tells new) r → IsWrittenTaking g given old new t q
  written_refused r q e was is runs = inr (record {
    runs = handed_calls (table_calls (given.1 ∷ [])) (g.calls old) (g.calls new) (g.tells old) (g.tells new) r q e was is runs;
    taken = refused_ok q e (λ (one : TakenOutcome). IsOneMore given t one.taken) is;
  })

  pub written_done : {X : Type 0} (r : Result X Fault) (x : X) (one : TakenOutcome) → r ≡ Ok x → IsOneMore given t one.taken → MakesCalls (table_calls (given.1 ∷ [])) (g.calls old) (g.calls new) (g.tells old) (g.tells new) r → IsWrittenTaking g given old new t (Ok one)
  written_done r x one was taken runs = inr (record {
    runs = passed_calls (table_calls (given.1 ∷ [])) (g.calls old) (g.calls new) (g.tells old) (g.tells new) r x one was runs;
    taken = taken;
  })

-- ---- told from an earlier state of the folder on, which was only read since

module _ {F : Type 0} (g : Ghosts F) (cmp : KeyOrder) (given : Given) (old mid new : F) (t : TakenOutcomes) (r : Result TakenOutcome Fault) (reads : OnlyReads g old mid) where
  nothing : IsUnchanged (change_of g mid new) r → IsUnchanged (change_of g old new) r
  nothing none = record { calls = none.calls ∙ reads.calls; same = told_since (g.tells old) (g.tells mid) (g.tells new) reads.same none.same; refused = none.refused }

  written : IsWritten g given mid new t r → IsWritten g given old new t r
  written w = record {
    runs = calls_since (table_calls (given.1 ∷ [])) (g.calls old) (g.calls mid) (g.calls new) (g.tells old) (g.tells mid) (g.tells new) r reads.calls (λ files told. told_still (g.tells old) (g.tells mid) files reads.same told) w.runs;
    taken = w.taken;
  }

  pub taking_since : AreTestedOutputs g cmp t.comparison given old → IsWrittenTaking g given mid new t r → IsTakingOf g cmp given old new t r
  taking_since outputs (inl none) = inl (nothing none)
  taking_since outputs (inr w) = inr (outputs, written w)
