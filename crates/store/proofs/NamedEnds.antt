-- What the naming of written tables leaves of a folder, from its steps.
use Rattle.std.proofs.Common.{◌≡◌, ◌<◌, ◌^◌, ℕ, List, Result, Ok, Err, IfOk, IsErrAnd, refl, sym, ap, subst, ◌∙◌, inl, inr}
use Rattle.folder.specs.Answers.{UnlessMemory}
use Rattle.folder.specs.fault.Fault.{Fault}
use Rattle.folder.specs.Comparator.{KeyOrder}
use Rattle.folder.specs.Edit.{IsEdit, IsEditRefused, edit_bytes}
use Rattle.folder.specs.Version.{State}
use Rattle.folder.specs.Calls.{Call}
use Rattle.folder.specs.declared.folder.Folder.{Ghosts}
use Rattle.folder.proofs.CountLemmas.{stops_ok, stops_on}
use Rattle.install.specs.Install.{current_calls, manifest_bytes, manifest_calls}
use Rattle.install.specs.InstallCalls.{IsInstallCalls}
use Rattle.store.specs.FolderRequest.{manifest_of}
use Rattle.store.specs.ManifestReady.{IsManifestReady}
use Rattle.store.specs.NamedEdits.{IsNaming}
use Rattle.store.specs.Step.{step_in}
use Rattle.store.specs.declared.compaction_step.CompactionStep.{CompactionStep}
use Rattle.store.specs.declared.named_edits.WrittenTables.{WrittenTables}
use Rattle.store.specs.declared.ready_manifest.ReadyManifest.{ReadyManifest}
use Rattle.store.proofs.InstallPart.{refused_ok}
use Rattle.store.proofs.PlannedPart.{unchanged}

-- ---- the same calls, under another answer

calls_err : {F X Y : Type 0} {g : Ghosts F} (one two : List Call) (opened : ℕ) (old new : F) (e : Fault) → IsInstallCalls {X = X} g one two opened old new (Err e) → IsInstallCalls {X = Y} g one two opened old new (Err e)
calls_err {X = X} {Y = Y} {g = g} one two opened old new e h =
    let run = h.run in
    record {
      run = record {
        runs = record { steps = run.runs.steps; made = run.runs.made; appended = run.runs.appended; change = run.runs.change };
        left = run.left;
        refused = run.refused;
        same_current = run.same_current;
        other_current = run.other_current;
        device = record { device = run.device.device; at_once = stops_on {X = Y} {Z = X} (g.failed old) (g.failed new) (Err e) (Err e) e refl refl run.device.at_once; later = run.device.later };
      };
      again = tt;
    }

calls_ok : {F X Y : Type 0} {g : Ghosts F} (one two : List Call) (opened : ℕ) (old new : F) (x : X) (y : Y) → IsInstallCalls g one two opened old new (Ok x) → IsInstallCalls g one two opened old new (Ok y)
calls_ok {X = X} {Y = Y} {g = g} one two opened old new x y h =
    let run = h.run in
    record {
      run = record {
        runs = record { steps = run.runs.steps; made = run.runs.made; appended = run.runs.appended; change = run.runs.change };
        left = tt;
        refused = tt;
        same_current = λ files told is. tt;
        other_current = λ files told other. run.other_current files told other;
        device = record { device = tt; at_once = stops_ok {X = Y} {Z = X} (g.failed old) (g.failed new) x (Ok x) (Ok y) refl run.device.at_once; later = run.device.later };
      };
      again = h.again;
    }

pub handed_install : {F X Y : Type 0} {g : Ghosts F} (one two : List Call) (opened : ℕ) (old new : F) (r : Result X Fault) (q : Result Y Fault) (e : Fault) → r ≡ Err e → IsErrAnd q (λ f. f ≡ e) → IsInstallCalls g one two opened old new r → IsInstallCalls g one two opened old new q
handed_install one two opened old new r (Ok y) e was is h = absurd is
handed_install {X = X} {Y = Y} {g = g} one two opened old new r (Err f) e was is h =
    subst (λ (d : Fault). IsInstallCalls {X = Y} g one two opened old new (Err d)) (sym is) (calls_err {X = X} {Y = Y} {g = g} one two opened old new e (subst (λ (x : Result X Fault). IsInstallCalls g one two opened old new x) was h))

pub done_install : {F X Y : Type 0} {g : Ghosts F} (one two : List Call) (opened : ℕ) (old new : F) (r : Result X Fault) (x : X) (y : Y) → r ≡ Ok x → IsInstallCalls g one two opened old new r → IsInstallCalls {X = Y} g one two opened old new (Ok y)
done_install {X = X} {g = g} one two opened old new r x y was h = calls_ok {g = g} one two opened old new x y (subst (λ (z : Result X Fault). IsInstallCalls g one two opened old new z) was h)

-- ---- the ends of the naming

module _ {F : Type 0} (g : Ghosts F) (name : List ℕ) (cmp : KeyOrder) (v : State) (opened : ℕ) (w : WrittenTables) (old : F) where
  pub unnamed : (r : Result CompactionStep Fault) (e : Fault) → IsErrAnd r (λ f. f ≡ e) → UnlessMemory e (IsEditRefused w.edits.items e) → IsNaming g name cmp v opened w old old r
  unnamed (Ok x) e h why = absurd h
  unnamed (Err f) e h why = inl (record {
    nothing = unchanged (g.calls old) (g.tells old) (Err f) (λ (x : Fault). x ≡ e) h;
    why = subst (λ (d : Fault). UnlessMemory d (IsEditRefused w.edits.items d)) (sym h) why;
  })

  module _ (new : F) (m : ReadyManifest) (ready : IsManifestReady name cmp v w.edits.items m) (number : ℕ) (numbered : number ≡ manifest_of v) (small : number < 2 ^ 64) where
    abbrev AreCalls : {X : Type 0} → Result X Fault → Type 0
    AreCalls q = IsInstallCalls g (manifest_calls number m.bytes.items) (current_calls number) opened old new q

    -- the same calls, of the manifest that has the edit
    calls_of : {X : Type 0} (q : Result X Fault) → AreCalls q
        → IsInstallCalls g (manifest_calls (manifest_of v) (manifest_bytes name cmp v (edit_bytes ready.edit))) (current_calls (manifest_of v)) opened old new q
    calls_of q calls =
        subst (λ (n : ℕ). IsInstallCalls g (manifest_calls n (manifest_bytes name cmp v (edit_bytes ready.edit))) (current_calls n) opened old new q) numbered
        (subst (λ (b : List ℕ). IsInstallCalls g (manifest_calls number b) (current_calls number) opened old new q) (ready.manifest ∙ ap (manifest_bytes name cmp v) ready.bytes) calls)

    abbrev IsStep : CompactionStep → Type 0
    IsStep step = step_in step ≡ record { outputs = w.outputs.items; deleted = ready.edit.deleted; manifest = manifest_of v; edit = edit_bytes ready.edit }

    named : (r : Result CompactionStep Fault) → IsInstallCalls g (manifest_calls (manifest_of v) (manifest_bytes name cmp v (edit_bytes ready.edit))) (current_calls (manifest_of v)) opened old new r → IfOk r IsStep → IsNaming g name cmp v opened w old new r
    named r calls step = inr (record {
      edit = ready.edit;
      read = ready.read;
      again = subst (λ (b : List ℕ). IsEdit b ready.edit) ready.bytes ready.again;
      snapshot = ready.snapshot;
      state = ready.state;
      small = subst (λ (n : ℕ). n < 2 ^ 64) numbered small;
      calls = calls;
      step = step;
    })

    pub naming_refused : {X : Type 0} (q : Result X Fault) (r : Result CompactionStep Fault) (e : Fault) → q ≡ Err e → IsErrAnd r (λ f. f ≡ e) → AreCalls q → IsNaming g name cmp v opened w old new r
    naming_refused q r e was h calls =
        named r (handed_install (manifest_calls (manifest_of v) (manifest_bytes name cmp v (edit_bytes ready.edit))) (current_calls (manifest_of v)) opened old new q r e was h (calls_of q calls)) (refused_ok r e IsStep h)

    pub naming_done : {X : Type 0} (q : Result X Fault) (x : X) (step : CompactionStep) → q ≡ Ok x → AreCalls q
        → step.outputs.items ≡ w.outputs.items → step.deleted.keys ≡ m.deleted.keys → step.manifest ≡ number → step.edit.items ≡ m.edit.items → IsNaming g name cmp v opened w old new (Ok step)
    naming_done q x step was calls outputs deleted manifest edit =
        named (Ok step) (done_install (manifest_calls (manifest_of v) (manifest_bytes name cmp v (edit_bytes ready.edit))) (current_calls (manifest_of v)) opened old new q x step was (calls_of q calls))
        (let two = deleted ∙ ready.deleted in
        let three = manifest ∙ numbered in
        let four = edit ∙ ready.bytes in
        rw (outputs, two, three, four) refl)
