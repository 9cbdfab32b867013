-- Functions that make calls on a folder, one after the other.
use Rattle.std.proofs.Common.{◌≡◌, ◌≢◌, ℕ, ◌≤◌, List, ◌++◌, Option, Result, Ok, Err, IfErr, IsErrAnd, refl, sym, ap, subst, ◌∙◌}
use Rattle.folder.proofs.Refusals.{unless_from}
use Rattle.folder.specs.Answers.{UnlessMemory, fault}
use Rattle.folder.specs.fault.Fault.{Fault}
use Rattle.folder.specs.fault.FaultName.TheVariants as name
use Rattle.folder.proofs.CountLemmas.{count_device, stops_ok}
use Rattle.folder.proofs.OpeningLemmas.{failed_since}
use Rattle.folder.proofs.ReportLemmas.{reports_failed, reports_handed, reports_steady, reports_then}
use Rattle.folder.proofs.RunLemmas.{runs_none, runs_stopped, runs_then}
use Rattle.folder.specs.CallSequence.{MakesCalls}
use Rattle.folder.specs.Calls.{Call, Step}
use Rattle.folder.specs.Folder.{failures_after, fault_name}
use Rattle.folder.specs.OpenAnswer.{IsStopped}
use Rattle.folder.specs.declared.folder.Folder.{Ghosts}
use Rattle.folder.specs.declared.folder.FolderFault.{FolderFault}
use Rattle.folder.specs.declared.folder.FolderFault.TheVariants.{Device, Memory}
use Rattle.store.specs.CallsAnswer.{IsCallsAnswer}

memory_other : (e : Fault) → e ≡ fault name.Memory → e.name ≢ name.Device
memory_other e is same = let both : name.Memory ≡ name.Device = sym (ap (λ (f : Fault). f.name) is) ∙ same in cc both

-- a folder's fault that `?` hands on
stopped_by : {X T : Type 0} (before now : ℕ) (first : Result T FolderFault) (e : FolderFault) (r : Result X Fault) → first ≡ Err e → now ≡ failures_after before first → IsErrAnd r (λ f. f ≡ fault (fault_name e))
    → IfErr r (λ f. UnlessMemory f (IsStopped before now f))
stopped_by before now first e (Ok x) was is h = absurd h
stopped_by before now first Device (Err f) was is h = subst (λ (x : Fault). UnlessMemory x (IsStopped before now x)) (sym h) (refl, count_device before now first is was)
stopped_by before now first Memory (Err f) was is h = subst (λ (x : Fault). UnlessMemory x (IsStopped before now x)) (sym h) tt

refused_handed : {X : Type 0} (before now : ℕ) (e : Fault) (r : Result X Fault) → UnlessMemory e (IsStopped before now e) → IsErrAnd r (λ f. f ≡ e) → IfErr r (λ f. UnlessMemory f (IsStopped before now f))
refused_handed before now e (Ok x) given h = absurd h
refused_handed before now e (Err f) given h = subst (λ (x : Fault). UnlessMemory x (IsStopped before now x)) (sym h) given

refused_since : {X : Type 0} (before middle now : ℕ) (r : Result X Fault) → before ≤ middle → middle ≤ now → IfErr r (λ f. UnlessMemory f (IsStopped middle now f)) → IfErr r (λ f. UnlessMemory f (IsStopped before now f))
refused_since before middle now (Ok x) one two given = tt
refused_since before middle now (Err f) one two given = unless_from f (IsStopped middle now f) (IsStopped before now f) (λ s. (s.0, failed_since before middle now one two s.1)) given

runs_handed : {X T E : Type 0} (P : Fault → Type 0) (calls more : List Call) (before after : List Step) (old new : List ℕ → Option (List ℕ) → Type 0) (first : Result T E) (e : E) (r : Result X Fault) → first ≡ Err e → IsErrAnd r P
    → MakesCalls calls before after old new first → MakesCalls (calls ++ more) before after old new r
runs_handed P calls more before after old new first e (Ok x) was h k = absurd h
runs_handed {T = T} P calls more before after old new first e (Err f) was h k =
    runs_stopped {T = T} calls more before after old new e f (subst (λ (q : Result T _). MakesCalls calls before after old new q) was k)

runs_passed : {X T E : Type 0} (calls : List Call) (before after : List Step) (old new : List ℕ → Option (List ℕ) → Type 0) (first : Result T E) (x : T) (y : X) → first ≡ Ok x
    → MakesCalls calls before after old new first → MakesCalls {E = Fault} calls before after old new (Ok y)
runs_passed {T = T} {E = E} calls before after old new first x y was k =
    let same : MakesCalls {E = E} calls before after old new (Ok x) = subst (λ (q : Result T E). MakesCalls calls before after old new q) was k in
    record { steps = same.steps; made = same.made; appended = same.appended; change = same.change }

runs_nowhere : {X : Type 0} (calls : List Call) (before : List Step) (tells : List ℕ → Option (List ℕ) → Type 0) (e : Fault) (r : Result X Fault) → IsErrAnd r (λ f. f ≡ e) → MakesCalls calls before before tells tells r
runs_nowhere calls before tells e (Ok x) h = absurd h
runs_nowhere calls before tells e (Err f) h = runs_none calls before tells f

memory_named : {X : Type 0} (e : Fault) (r : Result X Fault) → IsErrAnd r (λ f. f ≡ e) → e ≡ fault name.Memory → IfErr r (λ f. f.name ≢ name.Device)
memory_named e (Ok x) h is = absurd h
memory_named e (Err f) h is = memory_other f (h ∙ is)

memory_refused : {X : Type 0} (before now : ℕ) (e : Fault) (r : Result X Fault) → IsErrAnd r (λ f. f ≡ e) → e ≡ fault name.Memory → IfErr r (λ f. UnlessMemory f (IsStopped before now f))
memory_refused before now e (Ok x) h is = absurd h
memory_refused before now e (Err f) h is = subst (λ (x : Fault). UnlessMemory x (IsStopped before now x)) (sym (h ∙ is)) tt

module _ {D : Type 0} {g : Ghosts D} where
  -- memory runs out before the first call
  pub run_none : {X : Type 0} (calls : List Call) (a : D) (e : Fault) (r : Result X Fault) → e ≡ fault name.Memory → IsErrAnd r (λ f. f ≡ e) → IsCallsAnswer g calls a a r
  run_none calls a e r is h = record {
    runs = runs_nowhere calls (g.calls a) (g.tells a) e r h;
    refused = memory_refused (g.failed a) (g.failed a) e r h is;
    device = reports_steady r refl (memory_named e r h is);
  }

  -- calls of the folder that failed
  pub run_failed : {X T : Type 0} (calls more : List Call) (a b : D) (first : Result T FolderFault) (e : FolderFault) (r : Result X Fault) → first ≡ Err e → IsErrAnd r (λ f. f ≡ fault (fault_name e))
      → g.failed b ≡ failures_after (g.failed a) first → MakesCalls calls (g.calls a) (g.calls b) (g.tells a) (g.tells b) first → IsCallsAnswer g (calls ++ more) a b r
  run_failed calls more a b first e r was h count k = record {
    runs = runs_handed (λ f. f ≡ fault (fault_name e)) calls more (g.calls a) (g.calls b) (g.tells a) (g.tells b) first e r was h k;
    refused = stopped_by (g.failed a) (g.failed b) first e r was count h;
    device = reports_failed r was count h;
  }

  -- calls of the folder that were all done
  pub run_done : {X T : Type 0} (calls : List Call) (a b : D) (first : Result T FolderFault) (x : T) (y : X) → first ≡ Ok x
      → g.failed b ≡ failures_after (g.failed a) first → MakesCalls calls (g.calls a) (g.calls b) (g.tells a) (g.tells b) first → IsCallsAnswer g calls a b (Ok y)
  run_done {T = T} calls a b first x y was count k =
      let same : g.failed b ≡ g.failed a = count ∙ ap (failures_after {T = T} (g.failed a)) was in
      record {
        runs = runs_passed calls (g.calls a) (g.calls b) (g.tells a) (g.tells b) first x y was k;
        refused = tt;
        device = reports_steady (Ok y) same tt;
      }

  -- what a function was refused as is handed on
  pub run_handed : {X Y : Type 0} (calls more : List Call) (a b : D) (first : Result Y Fault) (e : Fault) (r : Result X Fault) → first ≡ Err e → IsErrAnd r (λ f. f ≡ e) → IsCallsAnswer g calls a b first → IsCallsAnswer g (calls ++ more) a b r
  run_handed {Y = Y} calls more a b first e r was h k = record {
    runs = runs_handed (λ f. f ≡ e) calls more (g.calls a) (g.calls b) (g.tells a) (g.tells b) first e r was h k.runs;
    refused = refused_handed (g.failed a) (g.failed b) e r (subst (λ (q : Result Y Fault). IfErr q (λ f. UnlessMemory f (IsStopped (g.failed a) (g.failed b) f))) was k.refused) h;
    device = reports_handed r was k.device h;
  }

  -- one function after another that answered Ok
  pub run_then : {X Y : Type 0} (calls more : List Call) (a b c : D) (first : Result Y Fault) (x : Y) (r : Result X Fault) → first ≡ Ok x → IsCallsAnswer g calls a b first → IsCallsAnswer g more b c r → IsCallsAnswer g (calls ++ more) a c r
  run_then {Y = Y} calls more a b c first x r was one two = record {
    runs = runs_then {E = Fault} calls more (g.calls a) (g.calls b) (g.calls c) (g.tells a) (g.tells b) (g.tells c) x r (subst (λ (q : Result Y Fault). MakesCalls calls (g.calls a) (g.calls b) (g.tells a) (g.tells b) q) was one.runs) two.runs;
    refused = refused_since (g.failed a) (g.failed b) (g.failed c) r one.device.later two.device.later two.refused;
    device = reports_then was one.device two.device;
  }

  pub run_same : {X : Type 0} (calls others : List Call) (a b : D) (r : Result X Fault) → calls ≡ others → IsCallsAnswer g calls a b r → IsCallsAnswer g others a b r
  run_same calls others a b r same h = subst (λ (c : List Call). IsCallsAnswer g c a b r) same h

  pub run_ok : {X Y : Type 0} (calls : List Call) (a b : D) (first : Result Y Fault) (x : Y) (y : X) → first ≡ Ok x → IsCallsAnswer g calls a b first → IsCallsAnswer g calls a b (Ok y)
  run_ok {Y = Y} calls a b first x y was h =
      let k : IsCallsAnswer g calls a b (Ok x) = subst (λ (q : Result Y Fault). IsCallsAnswer g calls a b q) was h in
      record {
        runs = record { steps = k.runs.steps; made = k.runs.made; appended = k.runs.appended; change = k.runs.change };
        refused = tt;
        device = record { device = tt; at_once = stops_ok (g.failed a) (g.failed b) x first (Ok y) was h.device.at_once; later = h.device.later };
      }

-- all of the calls were made
abbrev pub IsWholeRun : {D : Type 0} → Ghosts D → List Call → D → D → Type 0
IsWholeRun g calls a b = IsCallsAnswer {X = Unit {0}} g calls a b (Ok tt)
