-- An installation whose tables are written in groups, from the run of the groups and that of what follows them.
use Rattle.std.proofs.Common.{◌≡◌, ◌<◌, ◌^◌, ℕ, ◌≤◌, List, [], ◌∷◌, ◌++◌, append_assoc, Result, Ok, Err, IfErr, IsErrAnd, refl, sym, ap, subst, ◌∙◌}
use Rattle.std.proofs.lemmas.List.{append-nil}
use Rattle.std.specs.Cmp.{IsTotalOrder}
use Rattle.std.specs.declared.cmp.Ordering.{Ordering}
use Rattle.edit.specs.Answers.{UnlessMemory, fault}
use Rattle.edit.specs.fault.Fault.{Fault}
use Rattle.edit.specs.fault.FaultName.TheVariants.{Changed, Memory}
use Rattle.edit.specs.Edit.{IsEdit, edit_bytes}
use Rattle.edit.specs.Version.{IsState, State}
use Rattle.edit.specs.VersionOrder.{snapshot_of}
use Rattle.folder.specs.Calls.{Step}
use Rattle.folder.specs.CallSequence.{MakesCalls}
use Rattle.folder.specs.OpenAnswer.{IsStopped, StopsAtDevice}
use Rattle.folder.specs.Reports.{ReportsDevice}
use Rattle.folder.specs.declared.folder.Folder.{Ghosts}
use Rattle.folder.specs.declared.order.Order.{Order}
use Rattle.folder.proofs.ReportLemmas.{reports_then}
use Rattle.folder.proofs.RunLemmas.{runs_stopped, runs_then}
use Rattle.install.specs.Install.{SurvivesCrash, calls_before_rename, current_calls, install_calls, manifest_bytes, manifest_calls, next_version_tables, table_calls, version_with}
use Rattle.install.specs.GroupedInstallation.{IsGroupedInstallation, asked_of, tables_of_groups}
use Rattle.install.specs.InstallCalls.{IsInstallCalls, IsInstallRun}
use Rattle.install.proofs.Before.{stays_before}
use Rattle.install.proofs.Current.{groups_leave, told_current}
use Rattle.install.proofs.InstallRuns.{install_none, install_stopped, left_since, refused_always_since, refused_since, stopped_since}
use Rattle.install.proofs.Installed.{survives, undone}
use Rattle.install.proofs.Parts.{runs_same, runs_whole}
use Rattle.install.proofs.Changes.{change_by}

-- ---- the whole

module _ {D : Type 0} {g : Ghosts D} (name : List ℕ) (cmp : List ℕ → List ℕ → Ordering) (v : State) (opened number : ℕ) (groups : List (List (ℕ × List ℕ))) (edit manifest : List ℕ) where
  -- memory ran out before the first call
  pub none_installed : {X : Type 0} (a : D) (e : Fault) (r : Result X Fault) → e ≡ fault Memory → IsErrAnd r (λ f. f ≡ e) → IsGroupedInstallation g (asked_of name cmp v opened number groups edit) a a r
  none_installed a e r is h =
      record {
        run = (install_none (calls_before_rename number groups (manifest_bytes name cmp v edit)) (current_calls number) opened a e r is h).run;
        survives = λ order next tables named by. undone (λ f. f ≡ e) cmp order v next tables (next_version_tables cmp next (tables_of_groups groups) tables) (g.calls a) (g.tells a) r h;
        before = λ order next tables named by. unchanged order tables r h;
      }
    where
      unchanged : {X : Type 0} (order : Order) (tables : List (ℕ × List ℕ)) (r : Result X Fault) → IsErrAnd r (λ f. f ≡ e) → IfErr r (λ f. f ≡ fault Changed → SurvivesCrash cmp order (version_with v tables) (version_with v tables) (change_by (g.calls a) (g.calls a) (g.tells a) (g.tells a)) r)
      unchanged order tables (Ok x) h = absurd h
      unchanged {X = X} order tables (Err f) h = λ changed. undone {T = X} (λ x. x ≡ e) cmp order v v tables tables (g.calls a) (g.tells a) (Err f) h

  module _ (small : number < 2 ^ 64) (total : IsTotalOrder cmp) (is : manifest ≡ manifest_bytes name cmp v edit) (state : IsState v.pointers v.files) (back : IsEdit (edit_bytes (snapshot_of name cmp v)) (snapshot_of name cmp v)) where
    -- all calls before the rename, and those after it
    whole_installed : {X : Type 0} (a b : D) (r : Result X Fault) → IsInstallRun g (calls_before_rename number groups (manifest_bytes name cmp v edit)) (current_calls number) opened a b r → IsGroupedInstallation g (asked_of name cmp v opened number groups edit) a b r
    whole_installed a b r run = record {
      run = run;
      survives = λ order next tables named by. survives cmp order v next tables groups number edit small total state name named by back (g.calls a) (g.calls b) (g.tells a) (g.tells b) r run.runs;
      before = λ order next tables named by.
          stays_before cmp order v next tables groups number edit (manifest_bytes name cmp v edit) small by (install_calls number groups (manifest_bytes name cmp v edit)) (g.calls a) (g.calls b) (g.tells a) (g.tells b) r run.runs run.left;
    }

    -- one of the groups failed, and `?` hands it on
    pub groups_stopped : {X Y : Type 0} (a b : D) (e : Fault) (r : Result X Fault) → IsErrAnd r (λ f. f ≡ e)
        → MakesCalls {T = Y} (table_calls groups) (g.calls a) (g.calls b) (g.tells a) (g.tells b) (Err e) → UnlessMemory e (IsStopped (g.failed a) (g.failed b) e) → StopsAtDevice {X = Y} (g.failed a) (g.failed b) (Err e) → g.failed a ≤ g.failed b
        → IsGroupedInstallation g (asked_of name cmp v opened number groups edit) a b r
    groups_stopped {Y = Y} a b e r h runs refused at_once later =
        let rest = manifest_calls number (manifest_bytes name cmp v edit) in
        whole_installed a b r (install_stopped (table_calls groups ++ rest) (current_calls number) opened {Y = Y} a b e r h (runs_stopped {T = Y} {U = Y} (table_calls groups) rest (g.calls a) (g.calls b) (g.tells a) (g.tells b) e e runs) refused at_once later).run

    -- all groups were written
    pub groups_installed : {X Y : Type 0} (a b d : D) (y : Y) (r : Result X Fault)
        → MakesCalls {E = Fault} (table_calls groups) (g.calls a) (g.calls b) (g.tells a) (g.tells b) (Ok y) → StopsAtDevice (g.failed a) (g.failed b) (Ok y) → g.failed a ≤ g.failed b
        → IsInstallCalls g (manifest_calls number manifest) (current_calls number) opened b d r → IsGroupedInstallation g (asked_of name cmp v opened number groups edit) a d r
    groups_installed {X = X} {Y = Y} a b d y r runs at_once later rest =
        let front = table_calls groups in
        let first = manifest_calls number (manifest_bytes name cmp v edit) in
        let last = current_calls number in
        let run = subst (λ (m : List ℕ). IsInstallRun {X = X} g (manifest_calls number m) last opened b d r) is rest.run in
        let whole = runs_whole front (g.calls a) (g.calls b) (g.tells a) (g.tells b) y runs in
        let one : ReportsDevice {X = Y} g a b (Ok y) = record { device = tt; at_once = at_once; later = later } in
        let current = told_current front (groups_leave groups) (g.calls a) (g.calls b) (g.tells a) (g.tells b) whole in
        whole_installed a d r (record {
          runs = runs_same (front ++ (first ++ last)) ((front ++ first) ++ last) (g.calls a) (g.calls d) (g.tells a) (g.tells d) r (sym (append_assoc front first last))
              (runs_then front (first ++ last) (g.calls a) (g.calls b) (g.calls d) (g.tells a) (g.tells b) (g.tells d) tt r whole run.runs);
          left = left_since front first (g.calls a) (g.calls b) (g.calls d) r (whole.appended ∙ ap (λ (s : List Step). g.calls a ++ s) whole.made) run.left;
          refused = refused_since (g.failed a) (g.failed b) (g.failed d) r later run.device.later run.refused;
          same_current = λ files tell same. let now = current files tell in stopped_since (g.failed a) (g.failed b) (g.failed d) r later run.device.later (run.same_current now.0 now.1 (now.2 ∙ same));
          other_current = λ files tell other. let now = current files tell in refused_always_since (g.failed a) (g.failed b) (g.failed d) r later run.device.later (run.other_current now.0 now.1 (λ same. other (sym now.2 ∙ same)));
          device = reports_then refl one run.device;
        })

-- one group
pub joined_one : (tables : List (ℕ × List ℕ)) → tables_of_groups (tables ∷ []) ≡ tables
joined_one tables = append-nil tables
