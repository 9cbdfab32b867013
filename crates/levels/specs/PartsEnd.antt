-- How the compaction of the parts of a level ends, step by step.
use Rattle.std.specs.Prelude.{Err, IfErr, IfOk, IsErrAnd, List, Ok, OnOk, Result, Some, [], false}
use Rattle.std.specs.Prelude.{length, map, nat_lt, slice_get, true, ℕ, ◌++◌, ◌+◌, ◌-◌, ◌<◌, ◌^◌}
use Rattle.std.specs.Prelude.{◌∷◌, ◌≡◌, ◌≤◌, ◌⊎◌}
use Rattle.table.specs.TableBytes.{AreBytes}
use Rattle.edit.specs.Answers.{UnlessMemory, fault}
use Rattle.edit.specs.Comparator.{KeyOrder, ShortKeys}
use Rattle.edit.specs.Edit.{Edit, IsEdit, IsEditRefused, edit_bytes}
use Rattle.edit.specs.Key.{IsInternalKey}
use Rattle.edit.specs.Version.{State}
use Rattle.edit.specs.fault.Fault.{Fault}
use Rattle.edit.specs.fault.FaultName.TheVariants.{Numbers}
use Rattle.pick.specs.PickedInputs.{PickedInputs, picked_in}
use Rattle.pick.specs.declared.picked_inputs.Inputs.{Inputs}
use Rattle.folder.specs.CallSequence.{MakesCalls}
use Rattle.folder.specs.Calls.{Done, Files, Tells}
use Rattle.folder.specs.OpenAnswer.{IsStopped}
use Rattle.folder.specs.Reports.{ReportsDevice}
use Rattle.folder.specs.declared.folder.Folder.{Ghosts}
use Rattle.install.specs.FolderChange.{change_of}
use Rattle.install.specs.GroupedInstallation.{IsGroupedInstallation, asked_of}
use Rattle.install.specs.Install.{current_calls, manifest_bytes, manifest_calls, table_calls}
use Rattle.compact.specs.GroupedAnswer.{table_sizes}
use Rattle.compact.specs.OneThread.{Answer}
use Rattle.compact.specs.declared.settings.Settings.{Settings}
use Rattle.store.specs.Compaction.{IsUnchanged}
use Rattle.store.specs.FolderRequest.{manifest_of}
use Rattle.store.specs.InputsCompaction.{IsPickedAnswer}
use Rattle.store.specs.PickedOutcome.{IsPickedCompacted}
use Rattle.store.specs.Runs.{HasMade}
use Rattle.store.specs.Step.{step_in}
use Rattle.store.specs.declared.compaction_step.CompactionStep.{CompactionStep}
use Rattle.levels.specs.WholeAnswer.{AreSelected, edits_of, next_last, tables_of, whole_step}
use Rattle.levels.specs.WholeRuns.{ArePartLinks, GroupedAnswer, answers_in, groups_in}
use Rattle.levels.specs.declared.part_writer.WrittenParts.{WrittenParts}
use Rattle.levels.specs.declared.selection.Selection.{Selection}

-- what is kept of parts after one more, which has this answer
pub record IsTakenIn (before after : WrittenParts) (a : Answer) : Type 0 where
  pub outputs : after.outputs.items ≡ before.outputs.items ++ table_sizes a.tables
  pub edits : after.edits.items ≡ before.edits.items ++ a.edit
  pub last : after.last ≡ next_last before.last a

-- The tables of a part were written as one group, up to a call that failed. At Ok the part is taken
-- in. Its edit is bytes.
pub record AreTablesMade {F X : Type 0} (g : Ghosts F) (a : Answer) (before after : WrittenParts)
    (old new : F) (result : Result X Fault) : Type 0 where
  pub runs : MakesCalls (table_calls (a.tables ∷ [])) (g.calls old) (g.calls new) (g.tells old)
      (g.tells new) result
  pub refused : IfErr result (λ e. UnlessMemory e (IsStopped (g.failed old) (g.failed new) e))
  pub taken : OnOk result (IsTakenIn before after a)
  pub bytes : AreBytes a.edit

-- the outcome of a part was written, or the number after those of its outputs isn't below 2 ^ 64
abbrev pub IsOutcomeWritten : {F X : Type 0} → Ghosts F → Answer → WrittenParts → WrittenParts →
    F → F → Result X Fault → Type 0
IsOutcomeWritten g a before after old new result =
    ((2 ^ 64 ≤ next_last before.last a) × IsUnchanged (change_of g old new) result)
    ⊎ AreTablesMade g a before after old new result

-- why a part is refused, if the folder told these files then
abbrev pub IsRefusedFor : KeyOrder → ShortKeys → Files → State → Settings → ℕ → PickedInputs →
    Fault → Type 0
IsRefusedFor cmp short_keys files v s last p e =
    ((nat_lt last (2 ^ 64 - 1) ≡ false) × (e ≡ fault Numbers))
    ⊎ ((nat_lt last (2 ^ 64 - 1) ≡ true)
    × IsPickedAnswer (Some (last + 1)) cmp short_keys files v s p (Err e))

-- nothing was written of a part, since it was refused
pub record IsPartRefused {F X : Type 0} (g : Ghosts F) (cmp : KeyOrder) (short_keys : ShortKeys)
    (v : State) (s : Settings) (p : PickedInputs) (last : ℕ) (old new : F)
    (result : Result X Fault) : Type 0 where
  pub nothing : IsUnchanged (change_of g old new) result
  pub why : (files : Files) → Tells (g.tells old) files →
      IfErr result (λ e. UnlessMemory e (IsStopped (g.failed old) (g.failed new) e
      ⊎ IsRefusedFor cmp short_keys files v s last p e))

-- its tables were written
pub record IsPartDone {F X : Type 0} (g : Ghosts F) (cmp : KeyOrder) (short_keys : ShortKeys)
    (v : State) (s : Settings) (p : PickedInputs) (before after : WrittenParts) (old new : F)
    (result : Result X Fault) : Type 0 where
  pub answer : Answer
  pub compacted : IsPickedCompacted (Some (before.last + 1)) cmp short_keys (g.tells old) v s p
      answer
  pub pointer : IsInternalKey p.pointer.key
  pub made : AreTablesMade g answer before after old new result

abbrev pub IsPartWritten : {F X : Type 0} → Ghosts F → KeyOrder → ShortKeys → State → Settings →
    PickedInputs → WrittenParts → WrittenParts → F → F → Result X Fault → Type 0
IsPartWritten g cmp short_keys v s p before after old new result =
    IsPartRefused g cmp short_keys v s p before.last old new result
    ⊎ IsPartDone g cmp short_keys v s p before after old new result

-- they are what a selection takes of a level
abbrev pub AreSelectedParts : KeyOrder → State → List PickedInputs → Type 0
AreSelectedParts cmp v parts = (selection : Selection) × (level : ℕ)
    × AreSelected selection cmp v level (Ok parts)

-- at this place of selected parts is one
pub record IsPartAt (cmp : KeyOrder) (v : State) (parts : List Inputs) (place : ℕ) : Type 0 where
  pub are_parts : AreSelectedParts cmp v (map picked_in parts)
  pub within : place < length parts

-- from one place on, below another, are selected parts
pub record AreRangeAt (cmp : KeyOrder) (v : State) (parts : List Inputs) (from to : ℕ) : Type 0
  where
    pub are_parts : AreSelectedParts cmp v (map picked_in parts)
    pub ordered : from ≤ to
    pub within : to ≤ length parts

-- the number after which the outputs are numbered that follow these answers
abbrev pub last_after : ℕ → List Answer → ℕ
last_after last [] = last
last_after last (a ∷ answers) = last_after (next_last last a) answers

-- what is kept of parts with these answers
pub record IsWhole (v : State) (answers : List Answer) (w : WrittenParts) : Type 0 where
  pub outputs : w.outputs.items ≡ table_sizes (tables_of answers)
  pub edits : w.edits.items ≡ edits_of answers
  pub last : w.last ≡ last_after (manifest_of v) answers

-- the part after these links was refused so, or the device failed, when just their tables were
-- written
pub record IsNextRefused {F : Type 0} (g : Ghosts F) (first now : F) (cmp : KeyOrder)
    (short_keys : ShortKeys) (v : State) (s : Settings) (parts : List PickedInputs)
    (links : List GroupedAnswer) (e : Fault) : Type 0 where
  pub p : PickedInputs
  pub next : slice_get parts (length links) ≡ Some p
  pub at : F
  pub made : HasMade g first (map Done (table_calls (groups_in links))) at
  pub refused : (files : Files) → Tells (g.tells at) files →
      UnlessMemory e (IsStopped (g.failed first) (g.failed now) e
      ⊎ IsRefusedFor cmp short_keys files v s (last_after (manifest_of v) (answers_in links)) p e)

-- The first of these parts were compacted, and their tables written, up to a call that failed or to
-- a refusal. At Ok all were.
pub record ArePartsWritten {F : Type 0} (g : Ghosts F) (cmp : KeyOrder) (short_keys : ShortKeys)
    (v : State) (s : Settings) (parts : List PickedInputs) (old new : F)
    (result : Result WrittenParts Fault) : Type 0 where
  pub links : List GroupedAnswer
  pub chain : ArePartLinks g old [] cmp short_keys v s (manifest_of v) parts links
  pub runs : MakesCalls (table_calls (groups_in links)) (g.calls old) (g.calls new) (g.tells old)
      (g.tells new) result
  pub whole : IfOk result (λ w. (length links ≡ length parts) × IsWhole v (answers_in links) w)
  pub why : IfErr result (λ e. UnlessMemory e (IsStopped (g.failed old) (g.failed new) e)
      ⊎ IsNextRefused g old new cmp short_keys v s parts links e)

-- the first parts, below this place, were compacted, and their tables written
pub record AreWrittenBefore {F : Type 0} (g : Ghosts F) (first : F) (cmp : KeyOrder)
    (short_keys : ShortKeys) (v : State) (s : Settings) (parts : List PickedInputs) (at : F)
    (place : ℕ) (w : WrittenParts) : Type 0 where
  pub within : place ≤ length parts
  pub links : List GroupedAnswer
  pub count : length links ≡ place
  pub chain : ArePartLinks g first [] cmp short_keys v s (manifest_of v) parts links
  pub runs : MakesCalls {T = Unit {0}} {E = Fault} (table_calls (groups_in links)) (g.calls first)
      (g.calls at) (g.tells first) (g.tells at) (Ok tt)
  pub whole : IsWhole v (answers_in links) w
  pub device : ReportsDevice {X = Unit {0}} g first at (Ok tt)

-- If the parts before a range were written, so were then those of it, up to a call that failed or
-- to a refusal.
abbrev pub IsRangeWritten : {F X : Type 0} → Ghosts F → KeyOrder → ShortKeys → State → Settings →
    List PickedInputs → ℕ → ℕ → WrittenParts → WrittenParts → F → F → Result X Fault → Type 0
IsRangeWritten {F = F} g cmp short_keys v s parts from to before after old new result =
    (first : F) → AreWrittenBefore g first cmp short_keys v s parts old from before →
    (OnOk result (AreWrittenBefore g first cmp short_keys v s parts new to after))
    × IfErr result (λ e. ArePartsWritten g cmp short_keys v s parts first new (Err e))

-- tables of parts were written, and then it was refused
pub record IsEndWithin {F X : Type 0} (g : Ghosts F) (cmp : KeyOrder) (short_keys : ShortKeys)
    (v : State) (parts : List PickedInputs) (s : Settings) (old new : F) (result : Result X Fault)
    : Type 0 where
  pub e : Fault
  pub is : IsErrAnd result (λ f. f ≡ e)
  pub written : ArePartsWritten g cmp short_keys v s parts old new (Err e)

-- tables of all parts were written, and then there was no memory for the manifest, or the edits
-- read as none
pub record IsEndUnready {F X : Type 0} (g : Ghosts F) (cmp : KeyOrder) (short_keys : ShortKeys)
    (v : State) (parts : List PickedInputs) (s : Settings) (old new : F) (result : Result X Fault)
    : Type 0 where
  pub w : WrittenParts
  pub written : ArePartsWritten g cmp short_keys v s parts old new (Ok w)
  pub why : IsErrAnd result (λ e. UnlessMemory e (IsEditRefused w.edits.items e))

-- tables of all parts were written, and then the manifest, as an installation does it
pub record IsEndInstalled {F : Type 0} (g : Ghosts F) (name : List ℕ) (cmp : KeyOrder)
    (short_keys : ShortKeys) (v : State) (opened : ℕ) (parts : List PickedInputs) (s : Settings)
    (old new : F) (result : Result CompactionStep Fault) : Type 0 where
  pub w : WrittenParts
  pub at : F
  pub written : ArePartsWritten g cmp short_keys v s parts old at (Ok w)
  pub edit : Edit
  pub read : IsEdit w.edits.items edit
  pub again : IsEdit (edit_bytes edit) edit
  pub installs : IsGroupedInstallation g (asked_of name cmp v opened (manifest_of v)
      (groups_in written.links) (edit_bytes edit)) old new result
  pub runs : MakesCalls (manifest_calls (manifest_of v)
      (manifest_bytes name cmp v (edit_bytes edit)) ++ current_calls (manifest_of v))
      (g.calls at) (g.calls new) (g.tells at) (g.tells new) result
  pub step : IfOk result (λ step. step_in step ≡ whole_step v (answers_in written.links) edit)

abbrev pub IsPartsEnd : {F : Type 0} → Ghosts F → List ℕ → KeyOrder → ShortKeys → State → ℕ →
    List PickedInputs → Settings → F → F → Result CompactionStep Fault → Type 0
IsPartsEnd g name cmp short_keys v opened parts s old new result =
    IsEndWithin g cmp short_keys v parts s old new result
    ⊎ (IsEndUnready g cmp short_keys v parts s old new result
    ⊎ IsEndInstalled g name cmp short_keys v opened parts s old new result)
