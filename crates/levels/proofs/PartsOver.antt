-- The end of the compaction of all parts, from its steps.
use Rattle.std.proofs.Common.{◌≡◌, ◌≢◌, ℕ, ◌<◌, ◌≤◌, List, [], ◌∷◌, Result, Ok, Err, IfErr, IfOk, IsErrAnd, OnOk, refl, sym, ap, subst, ◌∙◌, inl, inr}
use Rattle.std.specs.List.{filter}
use Rattle.std.specs.Cmp.{IsTotalOrder}
use Rattle.std.specs.declared.cmp.Ordering.{Ordering}
use Rattle.edit.specs.Answers.{UnlessMemory, fault}
use Rattle.edit.specs.fault.Fault.{Fault}
use Rattle.edit.specs.fault.FaultName.TheVariants.{Device, NoInput}
use Rattle.edit.specs.Comparator.{ShortKeys}
use Rattle.edit.specs.Edit.{IsEdit, IsEditRefused, edit_bytes}
use Rattle.edit.specs.Version.{State}
use Rattle.folder.specs.declared.folder.Folder.{Ghosts}
use Rattle.install.specs.Install.{manifest_bytes}
use Rattle.install.proofs.Grouped.{groups_installed}
use Rattle.pick.specs.PickedInputs.{PickedInputs}
use Rattle.compact.specs.declared.settings.Settings.{Settings}
use Rattle.store.specs.FolderRequest.{manifest_of}
use Rattle.store.specs.Step.{step_by, step_in}
use Rattle.store.specs.declared.compaction_step.CompactionStep.{CompactionStep}
use Rattle.store.specs.InputsCompaction.{ArePartsFound}
use Rattle.store.proofs.NoDevice.{orderly_other}
use Rattle.store.proofs.PartRefusals.{parts_other}
use Rattle.levels.specs.PartsEnd.{ArePartsWritten, IsPartsEnd}
use Rattle.levels.specs.WholeAnswer.{AreLevelParts, ArePartsFitting, AreSelected, fits, some_parts}
use Rattle.levels.specs.declared.selection.Selection.{Selection}
use Rattle.levels.specs.declared.selection.Selection.TheVariants.{Fitting, Whole}
use Rattle.levels.specs.WholeRuns.{groups_in}
use Rattle.levels.specs.declared.part_writer.WrittenParts.{WrittenParts}
use Rattle.install.specs.FolderChange.{change_of}
use Rattle.store.proofs.InstallPart.{still}
use Rattle.store.specs.Compaction.{IsUnchanged}
use Rattle.store.specs.NamedEdits.{IsNaming}
use Rattle.store.specs.declared.named_edits.WrittenTables.{WrittenTables}
use Rattle.levels.proofs.PartsBase.{refused as refusal}

-- ---- no refusal is Device

same_refusal : (e d : Fault) → refusal e ≡ refusal d → e ≡ d
same_refusal e d h = cc h

some_other : (parts : List PickedInputs) (e : Fault) → refusal e ≡ some_parts parts → e.name ≢ Device
some_other [] e h = λ same. let is = same_refusal e (fault NoInput) h in let both : NoInput ≡ Device = sym (ap (λ (f : Fault). f.name) is) ∙ same in cc both
some_other (p ∷ parts) e h = absurd (cc h)

no_refusal : (parts : List PickedInputs) (e : Fault) → refusal e ≡ Ok parts → ⊥
no_refusal parts e h = cc h

module _ (cmp : List ℕ → List ℕ → Ordering) (v : State) (level : ℕ) (e : Fault) where
  level_other : AreLevelParts cmp v level (Err e) → e.name ≢ Device
  level_other (Err d, (h, is)) = subst (λ (f : Fault). f.name ≢ Device) (sym (same_refusal e d is)) (parts_other cmp v level d h)
  level_other (Ok parts, (h, is)) = some_other parts e is

  found_other : (d : Fault) → ArePartsFound cmp v level (Err d) → d.name ≢ Device
  found_other d (Err f, (h, is)) = subst (λ (x : Fault). x.name ≢ Device) (sym (same_refusal d f is)) (orderly_other cmp v f h)
  found_other d (Ok passed, (h, k)) = parts_other cmp v level d k

  fitting_other : (memory : ℕ) → ArePartsFitting memory cmp v level (Err e) → e.name ≢ Device
  fitting_other memory (Err d, (h, is)) = subst (λ (f : Fault). f.name ≢ Device) (sym (same_refusal e d is)) (found_other d h)
  fitting_other memory (Ok parts, (h, is)) = absurd (no_refusal (filter (fits memory) parts) e is)

  pub selected_other : (selection : Selection) → AreSelected selection cmp v level (Err e) → e.name ≢ Device
  selected_other Whole h = level_other h
  selected_other (Fitting memory) h = fitting_other memory h.0

-- ---- the end

module _ {F : Type 0} (g : Ghosts F) (name : List ℕ) (cmp : List ℕ → List ℕ → Ordering) (short_keys : ShortKeys) (v : State) (opened : ℕ) (parts : List PickedInputs) (s : Settings) (old : F) where
  -- some parts were written
  pub end_within : (new : F) (first : Result WrittenParts Fault) (e : Fault) (r : Result CompactionStep Fault) → first ≡ Err e → IsErrAnd r (λ f. f ≡ e) → ArePartsWritten g cmp short_keys v s parts old new first → IsPartsEnd g name cmp short_keys v opened parts s old new r
  end_within new first e r was is h = inl (record { e = e; is = is; written = subst (ArePartsWritten g cmp short_keys v s parts old new) was h })

  module _ (at : F) (first : Result WrittenParts Fault) (w : WrittenParts) (was : first ≡ Ok w) (h : ArePartsWritten g cmp short_keys v s parts old at first) where
    abbrev all : ArePartsWritten g cmp short_keys v s parts old at (Ok w)
    all = subst (ArePartsWritten g cmp short_keys v s parts old at) was h

    -- they are so still, if no call that writes was made since
    since : {X : Type 0} (new : F) (r : Result X Fault) → IsUnchanged (change_of g at new) r → ArePartsWritten g cmp short_keys v s parts old new (Ok w)
    since new r u = record {
      links = all.links;
      chain = all.chain;
      runs = record { steps = all.runs.steps; made = all.runs.made; appended = u.calls ∙ all.runs.appended; change = λ f tells. let h = all.runs.change f tells in (h.0, h.1, still (g.tells at) (g.tells new) u.same h.0.files h.2) };
      whole = all.whole;
      why = tt;
    }

    module _ (total : IsTotalOrder cmp) (later : g.failed old ≤ g.failed at) (at_once : g.failed old < g.failed at → ⊥) (new : F) (tables : WrittenTables) (outputs : tables.outputs.items ≡ w.outputs.items) (edits : tables.edits.items ≡ w.edits.items) where
      unnamed : (r : Result CompactionStep Fault) → OnOk r ⊥ → IfErr r (λ e. UnlessMemory e (IsEditRefused tables.edits.items e)) → IsErrAnd r (λ e. UnlessMemory e (IsEditRefused w.edits.items e))
      unnamed (Ok x) refused why = absurd refused
      unnamed (Err e) refused why = subst (λ (b : List ℕ). UnlessMemory e (IsEditRefused b e)) edits why

      -- what named them ended so
      pub end_named : (r : Result CompactionStep Fault) → IsNaming g name cmp v opened tables at new r → IsPartsEnd g name cmp short_keys v opened parts s old new r
      end_named r (inl u) = inr (inl (record { w = w; written = since new r u.nothing; why = unnamed r u.nothing.refused u.why }))
      end_named r (inr n) = inr (inr (record {
        w = w;
        at = at;
        written = all;
        edit = n.edit;
        read = subst (λ (b : List ℕ). IsEdit b n.edit) edits n.read;
        again = n.again;
        runs = n.calls.run.runs;
        installs =
            groups_installed name cmp v opened (manifest_of v) (groups_in all.links) (edit_bytes n.edit) (manifest_bytes name cmp v (edit_bytes n.edit)) n.small total refl n.state n.snapshot
            old at new w r all.runs (λ lt. absurd (at_once lt)) later n.calls;
        step = subst (λ (o : List (ℕ × ℕ)). IfOk r (λ step. step_in step ≡ step_by v o n.edit)) (outputs ∙ all.whole.1.outputs) n.step;
      }))
