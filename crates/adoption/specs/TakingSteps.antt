-- Taking an outcome in, step by step.
use Rattle.std.specs.Prelude.{◌≡◌, ◌⊎◌, [], ◌∷◌, ◌++◌, Result, Ok, IfOk}
use Rattle.edit.specs.fault.Fault.{Fault}
use Rattle.edit.specs.Comparator.{KeyOrder}
use Rattle.folder.specs.CallSequence.{MakesCalls}
use Rattle.folder.specs.Calls.{Files, Tells}
use Rattle.folder.specs.declared.folder.Folder.{Ghosts}
use Rattle.install.specs.FolderChange.{change_of}
use Rattle.install.specs.Install.{table_calls}
use Rattle.compact.specs.GroupedAnswer.{table_sizes}
use Rattle.store.specs.Compaction.{IsUnchanged}
use Rattle.adoption.specs.Adoption.{IsGivenTested}
use Rattle.adoption.specs.TakenIn.{version_in}
use Rattle.adoption.specs.TakenOutcomes.{Given}
use Rattle.adoption.specs.declared.comparison.Comparison.{Comparison}
use Rattle.adoption.specs.declared.taken_outcomes.TakenOutcome.{TakenOutcome}
use Rattle.adoption.specs.declared.taken_outcomes.TakenOutcomes.{TakenOutcomes}

-- outcomes after this one more
pub record IsOneMore (given : Given) (before after : TakenOutcomes) : Type 0 where
  pub opened : after.opened.now ≡ before.opened.now
  pub compared : after.comparison ≡ before.comparison
  pub version : version_in after ≡ given.0.next
  pub outputs : after.written.outputs.items ≡ before.written.outputs.items ++ table_sizes given.1
  pub edits : after.written.edits.items ≡ before.written.edits.items ++ given.0.edit

-- the tables of an outcome were written as one group, up to a call that failed; at Ok it is taken
pub record IsWritten {F : Type 0} (g : Ghosts F) (given : Given) (old new : F) (t : TakenOutcomes)
    (result : Result TakenOutcome Fault) : Type 0 where
  pub runs : MakesCalls (table_calls (given.1 ∷ [])) (g.calls old) (g.calls new) (g.tells old)
      (g.tells new) result
  pub taken : IfOk result (λ one. IsOneMore given t one.taken)

abbrev pub IsWrittenTaking : {F : Type 0} → Ghosts F → Given → F → F → TakenOutcomes →
    Result TakenOutcome Fault → Type 0
IsWrittenTaking g given old new t result =
    IsUnchanged (change_of g old new) result ⊎ IsWritten g given old new t result

-- its outputs passed their test
abbrev pub AreTestedOutputs : {F : Type 0} → Ghosts F → KeyOrder → Comparison → Given → F → Type 0
AreTestedOutputs g cmp comparison given old = (files : Files) → Tells (g.tells old) files →
    IsGivenTested cmp files given comparison (Ok tt)

abbrev pub IsTakingOf : {F : Type 0} → Ghosts F → KeyOrder → Given → F → F → TakenOutcomes →
    Result TakenOutcome Fault → Type 0
IsTakingOf g cmp given old new t result = IsUnchanged (change_of g old new) result
    ⊎ (AreTestedOutputs g cmp t.comparison given old × IsWritten g given old new t result)
