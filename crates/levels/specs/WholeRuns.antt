-- Which calls the compaction of chosen parts of a level makes on a folder, be it one that tells
-- what it holds or not.
use Rattle.std.specs.Prelude.{IfErr, IfOk, List, Ok, OnOk, Result, Some, [], flat_map, length, map}
use Rattle.std.specs.Prelude.{ℕ, ◌++◌, ◌+◌, ◌∷◌, ◌≡◌, ◌⊎◌}
use Rattle.table.specs.TableBytes.{AreBytes}
use Rattle.edit.specs.Answers.{UnlessMemory, fault}
use Rattle.edit.specs.Comparator.{KeyOrder, ShortKeys}
use Rattle.edit.specs.Edit.{Edit, IsEdit, edit_bytes}
use Rattle.edit.specs.Key.{IsInternalKey}
use Rattle.edit.specs.Version.{State}
use Rattle.edit.specs.fault.Fault.{Fault}
use Rattle.edit.specs.fault.FaultName.TheVariants.{Changed, Device}
use Rattle.pick.specs.PickedInputs.{PickedInputs}
use Rattle.folder.specs.CallSequence.{MakesCalls}
use Rattle.folder.specs.Calls.{Done, Step}
use Rattle.folder.specs.declared.folder.Folder.{Ghosts}
use Rattle.install.specs.FolderChange.{change_of}
use Rattle.install.specs.Install.{calls_before_rename, current_calls, manifest_bytes}
use Rattle.install.specs.Install.{manifest_calls, table_calls}
use Rattle.compact.specs.OneThread.{Answer}
use Rattle.compact.specs.declared.settings.Settings.{Settings}
use Rattle.store.specs.Compaction.{IsUnchanged}
use Rattle.store.specs.FolderRequest.{manifest_of}
use Rattle.store.specs.PickedOutcome.{IsPickedCompacted}
use Rattle.store.specs.Runs.{HasMade}
use Rattle.store.specs.Step.{step_in}
use Rattle.store.specs.declared.compaction_step.CompactionStep.{CompactionStep}
use Rattle.levels.specs.WholeAnswer.{Choosing, edits_of, next_last, whole_step}

-- an answer that is installed: with its inputs, and the groups in which its tables are written
pub record GroupedAnswer : Type 0 where
  pub picked : PickedInputs
  pub answer : Answer
  pub groups : List (List (ℕ × List ℕ))

-- the answers that are installed, and the groups in which their tables are written
abbrev pub answers_in : List GroupedAnswer → List Answer
answers_in links = map (λ (l : GroupedAnswer). l.answer) links

abbrev pub groups_in : List GroupedAnswer → List (List (ℕ × List ℕ))
groups_in links = flat_map (λ (l : GroupedAnswer). l.groups) links

-- It is one thread's answer for this part, whose outputs have the numbers after this one. Its
-- inputs' tables are those that the folder told when just the calls so far had been made. The key
-- that the part sets is an internal key, and the answer's edit is bytes.
pub record IsPartLink {F : Type 0} (g : Ghosts F) (first : F) (so_far : List Step)
    (cmp : KeyOrder) (short_keys : ShortKeys) (v : State) (s : Settings) (last : ℕ)
    (p : PickedInputs) (l : GroupedAnswer) : Type 0 where
  pub at : F
  pub made : HasMade g first so_far at
  pub of_part : l.picked ≡ p
  pub compacted : IsPickedCompacted (Some (last + 1)) cmp short_keys (g.tells at) v s p
      l.answer
  pub together : flat_map (λ (g : List (ℕ × List ℕ)). g) l.groups ≡ l.answer.tables
  pub pointer : IsInternalKey p.pointer.key
  pub bytes : AreBytes l.answer.edit

-- answers for the first of these parts, one after the other, after these calls from the first
-- folder on
abbrev pub ArePartLinks : {F : Type 0} → Ghosts F → F → List Step → KeyOrder → ShortKeys →
    State → Settings → ℕ → List PickedInputs → List GroupedAnswer → Type 0
ArePartLinks g first so_far cmp short_keys v s last parts [] = Unit {0}
ArePartLinks g first so_far cmp short_keys v s last [] (l ∷ links) = ⊥
ArePartLinks g first so_far cmp short_keys v s last (p ∷ parts) (l ∷ links) =
    IsPartLink g first so_far cmp short_keys v s last p l
    × ArePartLinks g first (so_far ++ map Done (table_calls l.groups)) cmp short_keys v s
    (next_last last l.answer) parts links

-- All tables were written, and then the manifest that has the edits as one, up to a call that
-- fails. At Changed all calls before the rename were made, and no others. At Ok the step is that of
-- the answers. The only faults are Device, Changed and Memory.
pub record AreWholeInstalled {F : Type 0} (g : Ghosts F) (name : List ℕ) (cmp : KeyOrder)
    (v : State) (links : List GroupedAnswer) (old new : F) (result : Result CompactionStep Fault)
    : Type 0 where
  pub edit : Edit
  pub read : IsEdit (edits_of (answers_in links)) edit
  pub again : IsEdit (edit_bytes edit) edit
  pub at : F
  pub written : MakesCalls {T = Unit {0}} {E = Fault} (table_calls (groups_in links)) (g.calls old)
      (g.calls at) (g.tells old) (g.tells at) (Ok tt)
  pub runs : MakesCalls (manifest_calls (manifest_of v)
      (manifest_bytes name cmp v (edit_bytes edit)) ++ current_calls (manifest_of v))
      (g.calls at) (g.calls new) (g.tells at) (g.tells new) result
  pub changed : IfErr result (λ e. e ≡ fault Changed → g.calls new ≡ g.calls old ++ map Done
      (calls_before_rename (manifest_of v) (groups_in links)
      (manifest_bytes name cmp v (edit_bytes edit))))
  pub step : IfOk result (λ step. step_in step ≡ whole_step v (answers_in links) edit)
  pub refused : IfErr result
      (λ e. UnlessMemory e ((e ≡ fault Device) ⊎ (e ≡ fault Changed)))

-- The chosen parts were compacted in their order, each from this version. The tables of the first
-- of them were written, up to a call that failed or to a refusal; or all were, and the manifest.
pub record IsWholeWritten {F : Type 0} (g : Ghosts F) (name : List ℕ) (cmp : KeyOrder)
    (short_keys : ShortKeys) (v : State) (AreChosen : Choosing) (s : Settings) (old new : F)
    (result : Result CompactionStep Fault) : Type 0 where
  pub parts : List PickedInputs
  pub are_parts : AreChosen (Ok parts)
  pub links : List GroupedAnswer
  pub chain : ArePartLinks g old [] cmp short_keys v s (manifest_of v) parts links
  pub written : (MakesCalls (table_calls (groups_in links)) (g.calls old) (g.calls new)
      (g.tells old) (g.tells new) result × OnOk result ⊥)
      ⊎ ((length links ≡ length parts)
      × AreWholeInstalled g name cmp v links old new result)

-- no call that writes was made; or these were
abbrev pub IsWholeRun : {F : Type 0} → Ghosts F → List ℕ → KeyOrder → ShortKeys → State →
    Choosing → Settings → F → F → Result CompactionStep Fault → Type 0
IsWholeRun g name cmp short_keys v AreChosen s old new result =
    IsUnchanged (change_of g old new) result
    ⊎ IsWholeWritten g name cmp short_keys v AreChosen s old new result
