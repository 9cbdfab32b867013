-- What the end of the compaction of all parts tells.
use Rattle.std.proofs.Common.{Bool, Err, IfErr, IfOk, IsErrAnd, List, Ok, OnOk, Result, Some, [], ap, codes, inl, inr, length, refl, slice_get, subst, sym, ℕ, ◌+◌, ◌<◌, ◌≤◌, ◌^◌, ◌∙◌, ◌∷◌, ◌≡◌, ◌⊎◌}
use Rattle.std.proofs.lemmas.List.{length-map}
use Rattle.std.specs.Cmp.{IsTotalOrder}
use Rattle.std.specs.Prelude.{unwrap_or}
use Rattle.std.specs.declared.cmp.Ordering.{Ordering}
use Rattle.table.specs.ReadBackLaw.{ReadBackLaw}
use Rattle.edit.proofs.Edits.{not_both}
use Rattle.edit.proofs.Refusals.{unless_from}
use Rattle.edit.specs.Answers.{UnlessMemory, fault, ◌>>=◌}
use Rattle.edit.specs.Comparator.{IsExact, ShortKeys}
use Rattle.edit.specs.Edit.{Edit, IsEdit, IsEditRefused, edit_bytes}
use Rattle.edit.specs.Version.{IsState, State}
use Rattle.edit.specs.fault.Fault.{Fault}
use Rattle.edit.specs.fault.FaultName.TheVariants.{Device, Numbers}
use Rattle.pick.specs.PickedInputs.{PickedInputs}
use Rattle.folder.specs.CallSequence.{MakesCalls}
use Rattle.folder.specs.Calls.{Call, Files, Step, Tells, ToldFiles as Told}
use Rattle.folder.specs.Manifest.{order_name}
use Rattle.folder.specs.Names.{current_text}
use Rattle.folder.specs.OpenAnswer.{FolderAnswers, IsOkOnlyIfCurrent, IsStopped}
use Rattle.folder.specs.ReadsAs.{ReadsAs}
use Rattle.folder.specs.declared.folder.Folder.{Ghosts}
use Rattle.folder.specs.declared.order.Order.{Order}
use Rattle.install.proofs.Moments.{made_by}
use Rattle.install.specs.FolderChange.{change_of}
use Rattle.install.specs.GroupedInstallation.{tables_of_groups}
use Rattle.install.specs.Install.{IsEditedBy, SurvivesCrash, install_calls, manifest_bytes, next_with, table_calls, version_with}
use Rattle.keep.specs.Tables.{NumberedContents}
use Rattle.keep.specs.TestResult.{test_result}
use Rattle.compact.specs.OneThread.{Answer}
use Rattle.compact.specs.PassedRequest.{PassedLaw}
use Rattle.compact.specs.declared.settings.Settings.{Settings}
use Rattle.checks.proofs.LawfulLemmas.{sound_lawful}
use Rattle.checks.specs.LawfulTables.{IsLawfulTables}
use Rattle.store.proofs.Flow.{first_passed, first_refused, no_value}
use Rattle.store.proofs.InstallPart.{refused_on, survives_on}
use Rattle.store.proofs.PartFiles.{ArePlaced}
use Rattle.store.proofs.PlacedInputs.{not_missing, same_compaction, tables_pass}
use Rattle.store.proofs.RunPart.{handed_calls, stopped_as}
use Rattle.store.proofs.StepPart.{current_named}
use Rattle.store.specs.FolderRequest.{compaction_from, manifest_of}
use Rattle.store.specs.InputsCompaction.{IsPickedAnswer}
use Rattle.store.specs.OrderView.{order_by}
use Rattle.store.specs.Step.{StepView, step_in, with_inputs}
use Rattle.store.specs.declared.compaction_step.CompactionStep.{CompactionStep}
use Rattle.levels.proofs.Chains.{AreAnswered, WholeRow, all_answered, next_refused, whole_row}
use Rattle.install.proofs.Outputs.{AreApart}
use Rattle.levels.proofs.PartsBase.{slice_in}
use Rattle.levels.proofs.SelectedParts.{AreAmong, among, among_low, among_placed}
use Rattle.levels.proofs.Rows.{known_edited, known_read}
use Rattle.levels.proofs.TablesStand.{read_after, version_stays}
use Rattle.levels.specs.LevelLeft.{IsLevelInstalled, IsWholeStopped}
use Rattle.levels.specs.LevelTaken.{IsLevelLeft}
use Rattle.levels.specs.PartsEnd.{ArePartsWritten, IsEndInstalled, IsEndUnready, IsNextRefused, IsPartsEnd, IsRefusedFor, last_after}
use Rattle.levels.specs.WholeAnswer.{AreSelected, Choosing, IsVersionWhole, IsWholeCompacted, IsWholeStep, edits_of, part_result, parts_result, tables_of, whole_step}
use Rattle.levels.specs.WholeRuns.{ArePartLinks, GroupedAnswer, IsWholeRun, answers_in, groups_in}
use Rattle.levels.specs.declared.part_writer.WrittenParts.{WrittenParts}
use Rattle.levels.specs.declared.selection.Selection.{Selection}

abbrev refusal : Fault → Result (PickedInputs × Answer) Fault
refusal e = Err e

-- calls that were all made, under a refusal
pub ended_calls : {T U : Type 0} (P : Fault → Type 0) (calls : List Call) (before after : List Step) (old new : Told) (x : T) (q : Result U Fault) → IsErrAnd q P → MakesCalls {E = Fault} calls before after old new (Ok x) → MakesCalls calls before after old new q
ended_calls P calls before after old new x (Ok y) h k = absurd h
ended_calls {T = T} P calls before after old new x (Err e) h k =
    record { steps = k.steps; made = made_by {T = T} {E = Fault} calls k.steps (Ok x) k.made; appended = k.appended; change = k.change }

refused_as : {T : Type 0} (q : Result T Fault) (P : Fault → Type 0) → IsErrAnd q P → (e : Fault) × (q ≡ Err e) × P e
refused_as (Ok x) P h = absurd h
refused_as (Err e) P h = (e, refl, h)

same_length : (links : List GroupedAnswer) → length (answers_in links) ≡ length links
same_length links = length-map links (λ (l : GroupedAnswer). l.answer)

-- ---- which calls

-- calls that were all made, whatever the answer is
pub all_made : {T U : Type 0} {calls : List Call} {before after : List Step} {old new : Told} (x : T) (y : U) → MakesCalls {E = Fault} calls before after old new (Ok x) → MakesCalls {E = Fault} calls before after old new (Ok y)
all_made x y k = record { steps = k.steps; made = k.made; appended = k.appended; change = k.change }

module _ {F : Type 0} (g : Ghosts F) (name : List ℕ) (cmp : List ℕ → List ℕ → Ordering) (short_keys : ShortKeys) (v : State) (opened : ℕ) (parts : List PickedInputs) (s : Settings) (old new : F) (result : Result CompactionStep Fault) where
  pub end_runs : (AreChosen : Choosing) → AreChosen (Ok parts) → IsPartsEnd g name cmp short_keys v opened parts s old new result → IsWholeRun g name cmp short_keys v AreChosen s old new result
  end_runs AreChosen chosen (inl w) =
      inr (record {
        parts = parts;
        are_parts = chosen;
        links = w.written.links;
        chain = w.written.chain;
        written = inl (handed_calls (table_calls (groups_in w.written.links)) (g.calls old) (g.calls new) (g.tells old) (g.tells new) (Err w.e) result w.e refl w.is w.written.runs, no_value result (λ f. f ≡ w.e) w.is);
      })
  end_runs AreChosen chosen (inr (inl u)) =
      inr (record {
        parts = parts;
        are_parts = chosen;
        links = u.written.links;
        chain = u.written.chain;
        written = inl (
          ended_calls (λ e. UnlessMemory e (IsEditRefused u.w.edits.items e)) (table_calls (groups_in u.written.links)) (g.calls old) (g.calls new) (g.tells old) (g.tells new) u.w result u.why u.written.runs,
          no_value result (λ e. UnlessMemory e (IsEditRefused u.w.edits.items e)) u.why,
        );
      })
  end_runs AreChosen chosen (inr (inr i)) =
      inr (record {
        parts = parts;
        are_parts = chosen;
        links = i.written.links;
        chain = i.written.chain;
        written = inr (
          i.written.whole.0,
          record {
            edit = i.edit;
            read = subst (λ (b : List ℕ). IsEdit b i.edit) i.written.whole.1.edits i.read;
            again = i.again;
            at = i.at;
            written = all_made i.w tt i.written.runs;
            runs = i.runs;
            changed = i.installs.run.left;
            step = i.step;
            refused = stopped_as (g.failed old) (g.failed new) result i.installs.run.refused;
          },
        );
      })

  pub end_other : IsPartsEnd g name cmp short_keys v opened parts s old new result → IsOkOnlyIfCurrent (g.tells old) opened result
  end_other (inl w) files told other = no_value result (λ f. f ≡ w.e) w.is
  end_other (inr (inl u)) files told other = no_value result (λ e. UnlessMemory e (IsEditRefused u.w.edits.items e)) u.why
  end_other (inr (inr i)) files told other = no_value result _ (i.installs.run.other_current files told other)

-- ---- what is left, and what is answered

module _ (cmp : List ℕ → List ℕ → Ordering) (total : IsTotalOrder cmp) (exact : IsExact cmp) (short_keys : ShortKeys) (reads_back : ReadBackLaw cmp short_keys) (passes : PassedLaw cmp)
    {F : Type 0} (g : Ghosts F) (order : Order) (name : List ℕ) (old new : F) (files : Files) (told : Tells (g.tells old) files)
    (v : State) (opened : ℕ) (current : files (codes "CURRENT") ≡ Some (current_text opened)) (loaded : List (ℕ × List ℕ)) (tables : List NumberedContents) (reads : ReadsAs cmp order v loaded files) (sound : IsLawfulTables cmp v loaded (Ok tables)) (state : IsState v.pointers v.files)
    (log : unwrap_or v.log_number 0 < 2 ^ 64) (previous : unwrap_or v.previous_log 0 < 2 ^ 64)
    (s : Settings) (selection : Selection) (level : ℕ) (parts : List PickedInputs) (chosen : AreSelected selection cmp v level (Ok parts)) (result : Result CompactionStep Fault) where
  are : AreAmong cmp v level parts
  are = among cmp v level selection parts chosen

  five : level ≤ 5
  five = among_low cmp v level parts are

  abbrev RowOf : List GroupedAnswer → Type 0
  RowOf links = WholeRow cmp total exact short_keys reads_back passes g order old files told v loaded tables reads sound state log previous s level five parts are links

  row_of : {r : Result WrittenParts Fault} {at : F} (w : ArePartsWritten g cmp short_keys v s parts old at r) (l : GroupedAnswer) (links : List GroupedAnswer) → w.links ≡ l ∷ links → RowOf (l ∷ links)
  row_of w l links is =
      let chain = subst (ArePartLinks g old [] cmp short_keys v s (manifest_of v) parts) is w.chain in
      whole_row cmp total exact short_keys reads_back passes g order old files told v loaded tables reads sound state log previous s level five parts are l links chain

  -- what is known of the links
  record Linked (links : List GroupedAnswer) : Type 0 where
    names : AreApart cmp v (tables_of_groups (groups_in links)) []
    answered : AreAnswered cmp short_keys v loaded s (manifest_of v) parts (answers_in links)

  linked : {r : Result WrittenParts Fault} {at : F} (w : ArePartsWritten g cmp short_keys v s parts old at r) (links : List GroupedAnswer) → w.links ≡ links → Linked links
  linked w [] is = record { names = tt; answered = tt }
  linked w (l ∷ links) is = let row = row_of w l links is in record { names = row.names; answered = row.answered }

  -- if all are linked, there is a link
  no_links : (links : List GroupedAnswer) → length links ≡ length parts → links ≡ [] → ⊥
  no_links links count none = are.some (empty parts (sym count ∙ ap length none))
    where
      empty : (ps : List PickedInputs) → length ps ≡ 0 → ps ≡ []
      empty [] e = refl
      empty (p ∷ ps) e = absurd (cc e)

  some_answer : (x : GroupedAnswer) (ls : List GroupedAnswer) → answers_in (x ∷ ls) ≡ [] → ⊥
  some_answer x ls e = cc e

  -- ---- what is left

  stopped : {T : Type 0} (groups : List (List (ℕ × List ℕ))) (e : Fault) → AreApart cmp v (tables_of_groups groups) [] → MakesCalls {T = T} {E = Fault} (table_calls groups) (g.calls old) (g.calls new) (g.tells old) (g.tells new) (Err e)
      → IsErrAnd result (λ f. f ≡ e) → IsWholeStopped (order_by order cmp short_keys) (version_with v loaded) (change_of g old new) result
  stopped {T = T} groups e names runs is = record {
    survives = survives_on cmp order v v loaded loaded (g.calls old) (g.calls new) (g.tells old) (g.tells old) (g.tells new) (Err e) result
        (λ P x. refused_on {T = T} (Err e) result e P is x) (λ fs t. t) (version_stays cmp order v loaded groups names (g.calls old) (g.calls new) (g.tells old) (g.tells new) e runs);
    refused = no_value result (λ f. f ≡ e) is;
  }

  device_named : {T : Type 0} (before now : ℕ) (r : Result T Fault) → IfErr r (λ e. UnlessMemory e (IsStopped before now e)) → IfErr r (λ e. UnlessMemory e (e ≡ fault Device))
  device_named before now (Ok x) h = tt
  device_named before now (Err e) h = unless_from e (IsStopped before now e) (e ≡ fault Device) (λ x. x.0) h

  named_on : {T : Type 0} (groups : List (List (ℕ × List ℕ))) (manifest : List ℕ) (r : Result T Fault) → MakesCalls (install_calls (manifest_of v) groups manifest) (g.calls old) (g.calls new) (g.tells old) (g.tells new) r → OnOk r (g.tells new (codes "CURRENT") (Some (current_text (manifest_of v))))
  named_on groups manifest (Ok x) runs = current_named (manifest_of v) groups manifest (g.calls old) (g.calls new) (g.tells old) (g.tells new) (Ok x) x files refl runs told
  named_on groups manifest (Err e) runs = tt

  installed : (i : IsEndInstalled g name cmp short_keys v opened parts s old new result) → order_name order ≡ name → (links : List GroupedAnswer) → i.written.links ≡ links
      → IsLevelInstalled selection (order_by order cmp short_keys) (version_with v loaded) level s (change_of g old new) result
  installed i is [] none = absurd (no_links i.written.links i.written.whole.0 none)
  installed i is (l ∷ links) those =
      let row = row_of i.written l links those in
      let all = l ∷ links in
      let read : IsEdit (edits_of (answers_in all)) i.edit = subst (λ (ls : List GroupedAnswer). IsEdit (edits_of (answers_in ls)) i.edit) those (subst (λ (b : List ℕ). IsEdit b i.edit) i.written.whole.1.edits i.read) in
      let edited = known_edited cmp total exact short_keys reads_back passes v loaded tables s level five log previous (answers_in all) (last_after (manifest_of v) (answers_in all)) row.rest row.known (λ e. some_answer l links e) (sound_lawful cmp v loaded tables sound) row.free row.some (edit_bytes i.edit) i.edit read i.again in
      let count : length (answers_in all) ≡ length parts = same_length all ∙ ap length (sym those) ∙ i.written.whole.0 in
      let promised = subst (λ (ls : List GroupedAnswer). IsEditedBy cmp v (manifest_of v) (tables_of_groups (groups_in ls)) (edit_bytes i.edit) edited.next
      → SurvivesCrash cmp order (version_with v loaded) (next_with cmp edited.next (tables_of_groups (groups_in ls)) loaded) (change_of g old new) result) those
      (i.installs.survives order edited.next loaded is) in
      record {
        step = whole_step v (answers_in all) i.edit;
        compacted = record {
          tables = tables;
          lawful = sound;
          outputs = tables_of (answers_in all);
          answered = inr (parts, answers_in all, i.edit, chosen, all_answered cmp short_keys v loaded s (manifest_of v) parts (answers_in all) count row.answered, read, refl, refl);
          edited = edited;
        };
        installed = record {
          survives = subst (λ (ts : List (ℕ × List ℕ)). IsEditedBy cmp v (manifest_of v) ts (edit_bytes i.edit) edited.next → SurvivesCrash cmp order (version_with v loaded) (next_with cmp edited.next ts loaded) (change_of g old new) result) row.joined promised edited.edited;
          named = named_on (groups_in i.written.links) (manifest_bytes name cmp v (edit_bytes i.edit)) result i.installs.run.runs;
          is_step = subst (λ (ls : List GroupedAnswer). IfOk result (λ (step : CompactionStep). step_in step ≡ whole_step v (answers_in ls) i.edit)) those i.step;
          refused = device_named (g.failed old) (g.failed new) result (i.installs.run.same_current files told current);
        };
      }

  pub end_left : order_name order ≡ name → IsPartsEnd g name cmp short_keys v opened parts s old new result
      → IsLevelLeft selection (order_by order cmp short_keys) (version_with v loaded) level s (change_of g old new) result
  end_left is (inl w) = inr (inl (stopped {T = WrittenParts} (groups_in w.written.links) w.e (linked w.written w.written.links refl).names w.written.runs w.is))
  end_left is (inr (inl u)) =
      let e = refused_as result (λ f. UnlessMemory f (IsEditRefused u.w.edits.items f)) u.why in
      inr (inl (stopped {T = WrittenParts} (groups_in u.written.links) e.0 (linked u.written u.written.links refl).names
      (ended_calls {U = WrittenParts} (λ f. f ≡ e.0) (table_calls (groups_in u.written.links)) (g.calls old) (g.calls new) (g.tells old) (g.tells new) u.w (Err e.0) refl u.written.runs)
      (is_err result e.0 e.1)))
    where
      is_err : (r : Result CompactionStep Fault) (e : Fault) → r ≡ Err e → IsErrAnd r (λ f. f ≡ e)
      is_err r e h = subst (λ (x : Result CompactionStep Fault). IsErrAnd x (λ f. f ≡ e)) (sym h) refl
  end_left is (inr (inr i)) = inr (inr (installed i is i.written.links refl))

  -- ---- what is answered

  abbrev AreTheseChosen : Choosing
  AreTheseChosen = AreSelected selection cmp v level

  -- the answers of all parts, or their refusal
  whole_of : (r : Result (List Answer) Fault) → parts_result cmp short_keys v loaded s (manifest_of v) parts ≡ r → IsVersionWhole cmp short_keys files v AreTheseChosen s r
  whole_of r is = (Ok loaded, (reads.loaded, (Ok tables, (sound, (Ok parts, (chosen, sym is))))))

  abbrev IsAnswer : Result StepView Fault → Type 0
  IsAnswer = IsWholeCompacted cmp short_keys files v AreTheseChosen s

  refused_answer : (r : Result CompactionStep Fault) (e : Fault) → r ≡ Err e → UnlessMemory e (IsStopped (g.failed old) (g.failed new) e ⊎ IsAnswer (Err e)) → FolderAnswers step_in (g.failed old) (g.failed new) r IsAnswer
  refused_answer r e is h = subst (λ (x : Result CompactionStep Fault). FolderAnswers step_in (g.failed old) (g.failed new) x IsAnswer) (sym is) h

  -- the refusal of one part
  abbrev with_part : PickedInputs → Result Answer Fault → Result (PickedInputs × Answer) Fault
  with_part p r = with_inputs p r

  no_pair : (x : PickedInputs × Answer) (e : Fault) → Ok x ≡ refusal e → ⊥
  no_pair x e h = cc h

  same_pair : (d e : Fault) → refusal d ≡ refusal e → d ≡ e
  same_pair d e h = cc h

  from_with : (p : PickedInputs) (r : Result Answer Fault) (e : Fault) → refusal e ≡ with_part p r → r ≡ Err e
  from_with p (Ok a) e h = absurd (no_pair (p, a) e (sym h))
  from_with p (Err d) e h = ap (λ (x : Fault). Err x) (sym (same_pair e d h))

  part_refused : (p : PickedInputs) (placed : ArePlaced v p) (last : ℕ) (now : Files) → ReadsAs cmp order v loaded now → (e : Fault) → IsRefusedFor cmp short_keys now v s last p e → part_result cmp short_keys v loaded s last p ≡ Err e
  part_refused p placed last now still e (inl none) =
      ap (λ (b : Bool). test_result b Numbers >>= λ _. compaction_from (Some (last + 1)) cmp short_keys v loaded p s) none.0 ∙ ap (λ (x : Fault). Err x) (sym none.1)
  part_refused p placed last now still e (inr some) =
      ap (λ (b : Bool). test_result b Numbers >>= λ _. compaction_from (Some (last + 1)) cmp short_keys v loaded p s) some.0 ∙ by some.1
    where
      by : IsPickedAnswer (Some (last + 1)) cmp short_keys now v s p (Err e) → compaction_from (Some (last + 1)) cmp short_keys v loaded p s ≡ Err e
      by (Err d, (h, is)) = absurd (not_missing cmp total now v loaded tables still.loaded sound p placed d h)
      by (Ok own, (h, (Err d, (k, is)))) = absurd (tables_pass cmp total now v loaded tables still.loaded sound p placed own h d k)
      by (Ok own, (h, (Ok found, (k, is)))) =
          sym (same_compaction cmp total now v loaded tables still.loaded sound p placed own h (Some (last + 1)) short_keys s) ∙ from_with p (compaction_from (Some (last + 1)) cmp short_keys v own p s) e is

  next_part : (r : Result WrittenParts Fault) (at : F) (w : ArePartsWritten g cmp short_keys v s parts old at r) (e : Fault) → IsNextRefused g old new cmp short_keys v s parts w.links e
      → UnlessMemory e (IsStopped (g.failed old) (g.failed new) e ⊎ IsAnswer (Err e))
  next_part r at w e n =
      let l = linked w w.links refl in
      let placed = among_placed cmp v level total parts are n.p (slice_in parts (length w.links) n.p n.next) in
      let now = read_after cmp order v loaded (groups_in w.links) l.names files (g.tells old) (g.tells n.at) told reads n.made.change in
      let last = last_after (manifest_of v) (answers_in w.links) in
      unless_from e (IsStopped (g.failed old) (g.failed new) e ⊎ IsRefusedFor cmp short_keys now.0 v s last n.p e) (IsStopped (g.failed old) (g.failed new) e ⊎ IsAnswer (Err e)) (λ h. elim h [
        | inl stop ↦ inl stop
        | inr why ↦ inr (first_refused (IsVersionWhole cmp short_keys files v AreTheseChosen s) (IsWholeStep v) e (whole_of (Err e)
            (next_refused cmp short_keys v loaded s (manifest_of v) parts (answers_in w.links) n.p e l.answered (ap (slice_get parts) (same_length w.links) ∙ n.next) (part_refused n.p placed last now.0 now.2 e why))))
      ]) (n.refused now.0 now.1)

  unready : (u : IsEndUnready g cmp short_keys v parts s old new result) (links : List GroupedAnswer) → u.written.links ≡ links → (e : Fault) → IsEditRefused u.w.edits.items e → ⊥
  unready u [] none e h = no_links u.written.links u.written.whole.0 none
  unready u (l ∷ links) those e h =
      let row = row_of u.written l links those in
      let all = l ∷ links in
      let read = known_read cmp total exact short_keys reads_back passes v loaded tables s level five log previous (answers_in all) (last_after (manifest_of v) (answers_in all)) row.rest row.known (λ x. some_answer l links x) in
      let bytes : u.w.edits.items ≡ edits_of (answers_in all) = u.written.whole.1.edits ∙ ap (λ (ls : List GroupedAnswer). edits_of (answers_in ls)) those in
      not_both u.w.edits.items e read.0 h (subst (λ (b : List ℕ). IsEdit b read.0) (sym bytes) read.1)

  step_answer : (edit : Edit) (answers : List Answer) → parts_result cmp short_keys v loaded s (manifest_of v) parts ≡ Ok answers → IsEdit (edits_of answers) edit → (r : Result CompactionStep Fault) → IfOk r (λ step. step_in step ≡ whole_step v answers edit)
      → IfErr r (λ e. UnlessMemory e (IsStopped (g.failed old) (g.failed new) e)) → FolderAnswers step_in (g.failed old) (g.failed new) r IsAnswer
  step_answer edit answers all read (Ok x) is why =
      first_passed (IsVersionWhole cmp short_keys files v AreTheseChosen s) (IsWholeStep v) answers (Ok (step_in x)) (whole_of (Ok answers) all) (edit, read, ap (λ (y : StepView). Ok y) is)
  step_answer edit answers all read (Err e) is why = unless_from e (IsStopped (g.failed old) (g.failed new) e) (IsStopped (g.failed old) (g.failed new) e ⊎ IsAnswer (Err e)) (λ h. inl h) why

  pub end_answer : IsPartsEnd g name cmp short_keys v opened parts s old new result → FolderAnswers step_in (g.failed old) (g.failed new) result IsAnswer
  end_answer (inl w) =
      let e = refused_as result (λ f. f ≡ w.e) w.is in
      refused_answer result w.e (e.1 ∙ ap (λ (x : Fault). Err x) e.2) (elim w.written.why [
        | inl stop ↦ unless_from w.e (IsStopped (g.failed old) (g.failed new) w.e) (IsStopped (g.failed old) (g.failed new) w.e ⊎ IsAnswer (Err w.e)) (λ h. inl h) stop
        | inr n ↦ next_part (Err w.e) new w.written w.e n
      ])
  end_answer (inr (inl u)) =
      let e = refused_as result (λ f. UnlessMemory f (IsEditRefused u.w.edits.items f)) u.why in
      refused_answer result e.0 e.1 (unless_from e.0 (IsEditRefused u.w.edits.items e.0) (IsStopped (g.failed old) (g.failed new) e.0 ⊎ IsAnswer (Err e.0)) (λ h. absurd (unready u u.written.links refl e.0 h)) e.2)
  end_answer (inr (inr i)) =
      let l = linked i.written i.written.links refl in
      let read = subst (λ (b : List ℕ). IsEdit b i.edit) i.written.whole.1.edits i.read in
      step_answer i.edit (answers_in i.written.links) (all_answered cmp short_keys v loaded s (manifest_of v) parts (answers_in i.written.links) (same_length i.written.links ∙ i.written.whole.0) l.answered) read result i.step (i.installs.run.same_current files told current)
