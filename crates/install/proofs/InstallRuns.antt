-- The calls of an installation, of which CURRENT is read again in the middle.
use Rattle.std.proofs.Common.{◌≡◌, ◌≢◌, ◌⊎◌, ◌≤◌, ℕ, List, ◌++◌, append_assoc, codes, map, Some, Result, Ok, Err, IsErrAnd, IfErr, [], ◌∷◌, refl, sym, ap, ap₂, subst, ◌∙◌, inl, inr, arith}
use Rattle.std.proofs.lemmas.List.{map-append}
use Rattle.edit.proofs.Refusals.{unless_from}
use Rattle.edit.specs.Answers.{UnlessMemory, fault}
use Rattle.edit.specs.fault.Fault.{Fault}
use Rattle.edit.specs.fault.FaultName.TheVariants as name
use Rattle.folder.specs.Calls.{Call, Done, Files, Step, Tells}
use Rattle.folder.specs.CallSequence.{MakesCalls}
use Rattle.folder.specs.Names.{current_text}
use Rattle.folder.specs.OpenAnswer.{IsStopped, StopsAtDevice}
use Rattle.folder.specs.Readings.{Reading}
use Rattle.folder.specs.Reports.{OnlyReads, ReportsDevice}
use Rattle.folder.specs.declared.folder.Folder.{Ghosts}
use Rattle.folder.proofs.OpeningLemmas.{failed_since}
use Rattle.folder.proofs.ReportLemmas.{reports_handed, reports_then, stopped_device}
use Rattle.folder.proofs.RunLemmas.{runs_none, runs_then}
use Rattle.install.specs.CurrentAnswer.{IsCurrentAnswer}
use Rattle.install.specs.Install.{IsStoppedOrChanged}
use Rattle.install.specs.InstallCalls.{IsInstallCalls}
use Rattle.install.proofs.Current.{TellsCurrent, runs_read, same_refused}
use Rattle.install.proofs.Parts.{hands_behind, hands_stopped, runs_whole}

-- a refusal of the device isn't Changed
not_changed : (before now : ℕ) (e : Fault) → UnlessMemory e (IsStopped before now e) → e ≢ fault name.Changed
not_changed before now e h is =
    let stopped : IsStopped before now (fault name.Changed) = subst (λ (f : Fault). UnlessMemory f (IsStopped before now f)) is h in
    let both : name.Changed ≡ name.Device = ap (λ (f : Fault). f.name) stopped.0 in
    cc both

pub refused_since : {X : Type 0} (before middle now : ℕ) (r : Result X Fault) → before ≤ middle → middle ≤ now → IfErr r (λ e. UnlessMemory e (IsStoppedOrChanged middle now e)) → IfErr r (λ e. UnlessMemory e (IsStoppedOrChanged before now e))
refused_since before middle now (Ok x) one two given = tt
refused_since before middle now (Err e) one two given = unless_from e (IsStoppedOrChanged middle now e) (IsStoppedOrChanged before now e) (λ g. elim g [ inl s ↦ inl (s.0, failed_since before middle now one two s.1) | inr changed ↦ inr changed ]) given

pub refused_always_since : {X : Type 0} (before middle now : ℕ) (r : Result X Fault) → before ≤ middle → middle ≤ now → IsErrAnd r (λ e. UnlessMemory e (IsStoppedOrChanged middle now e)) → IsErrAnd r (λ e. UnlessMemory e (IsStoppedOrChanged before now e))
refused_always_since before middle now (Ok x) one two given = absurd given
refused_always_since {X = X} before middle now (Err e) one two given = refused_since {X = X} before middle now (Err e) one two given

made_since : (front first : List Call) (before middle now : List Step) → middle ≡ before ++ map Done front → now ≡ middle ++ map Done first → now ≡ before ++ map Done (front ++ first)
made_since front first before middle now is given =
    given ∙ (ap (λ (s : List Step). s ++ map Done first) is ∙ (append_assoc before (map Done front) (map Done first) ∙ ap (λ (s : List Step). before ++ s) (sym (map-append Done front first))))

pub left_since : {X : Type 0} (front first : List Call) (before middle now : List Step) (r : Result X Fault) → middle ≡ before ++ map Done front → IfErr r (λ e. e ≡ fault name.Changed → now ≡ middle ++ map Done first) → IfErr r (λ e. e ≡ fault name.Changed → now ≡ before ++ map Done (front ++ first))
left_since front first before middle now (Ok x) is given = tt
left_since front first before middle now (Err e) is given = λ changed. made_since front first before middle now is (given changed)

weaker : (before now : ℕ) (e : Fault) → UnlessMemory e (IsStopped before now e) → UnlessMemory e (IsStoppedOrChanged before now e)
weaker before now e h = unless_from e (IsStopped before now e) (IsStoppedOrChanged before now e) (λ s. inl s) h

pub stopped_since : {X : Type 0} (before middle now : ℕ) (r : Result X Fault) → before ≤ middle → middle ≤ now → IfErr r (λ e. UnlessMemory e (IsStopped middle now e)) → IfErr r (λ e. UnlessMemory e (IsStopped before now e))
stopped_since before middle now (Ok x) one two given = tt
stopped_since before middle now (Err e) one two given = unless_from e (IsStopped middle now e) (IsStopped before now e) (λ s. (s.0, failed_since before middle now one two s.1)) given

-- CURRENT was read, when these calls were made
abbrev pub IsRead : ℕ → List Reading → List Reading → List Step → Type 0
IsRead opened before now made = now ≡ before ++ (made, codes "CURRENT", Some (current_text opened)) ∷ []

-- no other file was read before or after it
read_between : (opened : ℕ) (start before now end : List Reading) (calls made : List Step) → before ≡ start → calls ≡ made → IsRead opened before now calls → end ≡ now → IsRead opened start end made
read_between opened start before now end calls made none same read more =
    more ∙ (read ∙ ap₂ (λ (l : List Reading) (s : List Step). l ++ (s, codes "CURRENT", Some (current_text opened)) ∷ []) none same)

module _ {D : Type 0} {g : Ghosts D} (first last : List Call) (opened : ℕ) where
  -- one of the first calls failed, or memory ran out
  pub install_stopped : {X Y : Type 0} (a b : D) (e : Fault) (r : Result X Fault) → IsErrAnd r (λ f. f ≡ e)
      → MakesCalls {T = Y} {E = Fault} first (g.calls a) (g.calls b) (g.tells a) (g.tells b) (Err e)
      → UnlessMemory e (IsStopped (g.failed a) (g.failed b) e) → StopsAtDevice {X = Y} (g.failed a) (g.failed b) (Err e) → g.failed a ≤ g.failed b
      → IsInstallCalls g first last opened a b r
  install_stopped a b e (Ok x) h runs refused at_once later = absurd h
  install_stopped {Y = Y} a b e (Err f) h runs refused at_once later =
      let stopped = subst (λ (x : Fault). UnlessMemory x (IsStopped (g.failed a) (g.failed b) x)) (sym h) refused in
      let part : ReportsDevice {X = Y} g a b (Err e) = record { device = stopped_device {X = Y} (g.failed a) (g.failed b) (Err e) refused; at_once = at_once; later = later } in
      record {
        run = record {
          runs = hands_stopped (λ x. x ≡ e) first last (g.calls a) (g.calls b) (g.tells a) (g.tells b) e (Err f) h runs;
          left = λ is. absurd (not_changed (g.failed a) (g.failed b) f stopped is);
          refused = weaker (g.failed a) (g.failed b) f stopped;
          same_current = λ files tell is. stopped;
          other_current = λ files tell other. weaker (g.failed a) (g.failed b) f stopped;
          device = reports_handed (Err f) refl part h;
        };
        again = tt;
      }

  -- CURRENT couldn't be read, or isn't as it was
  pub install_refused : {X Y : Type 0} (a b d : D) (y : Y) (e : Fault) (r : Result X Fault) → IsErrAnd r (λ f. f ≡ e)
      → MakesCalls {E = Fault} first (g.calls a) (g.calls b) (g.tells a) (g.tells b) (Ok y) → StopsAtDevice (g.failed a) (g.failed b) (Ok y) → g.failed a ≤ g.failed b → TellsCurrent (g.tells a) (g.tells b)
      → OnlyReads g b d → ReportsDevice {X = Unit {0}} g b d (Err e) → UnlessMemory e (IsStopped (g.failed b) (g.failed d) e ⊎ IsCurrentAnswer {T = Unit {0}} (g.tells b) opened (Err e))
      → IsInstallCalls g first last opened a d r
  install_refused a b d y e (Ok x) h runs at_once later current reads two answer = absurd h
  install_refused {Y = Y} a b d y e (Err f) h runs at_once later current reads two answer =
      let whole = runs_whole first (g.calls a) (g.calls b) (g.tells a) (g.tells b) y runs in
      let one : ReportsDevice {X = Y} g a b (Ok y) = record { device = tt; at_once = at_once; later = later } in
      let given = unless_from e (IsStopped (g.failed b) (g.failed d) e ⊎ IsCurrentAnswer {T = Unit {0}} (g.tells b) opened (Err e)) (IsStoppedOrChanged (g.failed a) (g.failed d) e)
      (λ x. elim x [
        | inl s ↦ inl (s.0, failed_since (g.failed a) (g.failed b) (g.failed d) later two.later s.1)
        | inr changed ↦ inr changed.3
      ]) answer in
      let refused = subst (λ (x : Fault). UnlessMemory x (IsStoppedOrChanged (g.failed a) (g.failed d) x)) (sym h) given in
      record {
        run = record {
          runs = hands_behind (λ x. x ≡ e) first last (g.calls a) (g.calls d) (g.tells a) (g.tells d) (Err f) h (runs_read first (g.calls a) (g.calls b) (g.calls d) (g.tells a) (g.tells b) (g.tells d) (Ok tt) reads.same reads.calls whole);
          left = λ is. reads.calls ∙ (whole.appended ∙ ap (λ (s : List Step). g.calls a ++ s) whole.made);
          refused = refused;
          same_current = λ files tell is.
              let now = current files tell in
              subst (λ (x : Fault). UnlessMemory x (IsStopped (g.failed a) (g.failed d) x)) (sym h)
              (same_refused {T = Unit {0}} (g.tells b) opened (g.failed a) (g.failed b) (g.failed d) later two.later now.0 now.1 (now.2 ∙ is) (Ok tt) e answer);
          other_current = λ files tell other. refused;
          device = reports_then refl one (reports_handed (Err f) refl two h);
        };
        again = tt;
      }

  named_by : {X : Type 0} (a b : D) (r : Result X Fault) → MakesCalls (first ++ last) (g.calls a) (g.calls b) (g.tells a) (g.tells b) r → IfErr r (λ e. UnlessMemory e (IsStopped (g.failed a) (g.failed b) e))
      → ((files : Files) → Tells (g.tells a) files → files (codes "CURRENT") ≡ Some (current_text opened)) → ReportsDevice g a b r → IsRead opened (g.readings a) (g.readings b) (g.calls a ++ map Done first)
      → IsInstallCalls g first last opened a b r
  named_by a b (Ok x) runs stopped is device again =
      record { run = record { runs = runs; left = tt; refused = tt; same_current = λ files tell same. tt; other_current = λ files tell other. other (is files tell); device = device }; again = again }
  named_by a b (Err f) runs stopped is device again = record {
    run = record {
      runs = runs;
      left = λ e. absurd (not_changed (g.failed a) (g.failed b) f stopped e);
      refused = weaker (g.failed a) (g.failed b) f stopped;
      same_current = λ files tell same. stopped;
      other_current = λ files tell other. absurd (other (is files tell));
      device = device;
    };
    again = tt;
  }

  -- CURRENT is as it was, so the last calls were made
  pub install_named : {X Y Z : Type 0} (a b d n : D) (y : Y) (z : Z) (r : Result X Fault)
      → MakesCalls {E = Fault} first (g.calls a) (g.calls b) (g.tells a) (g.tells b) (Ok y) → StopsAtDevice (g.failed a) (g.failed b) (Ok y) → g.failed a ≤ g.failed b → TellsCurrent (g.tells a) (g.tells b)
      → OnlyReads g b d → ReportsDevice g b d (Ok z) → g.tells b (codes "CURRENT") (Some (current_text opened))
      → g.readings b ≡ g.readings a → IsRead opened (g.readings b) (g.readings d) (g.calls b) → g.readings n ≡ g.readings d
      → MakesCalls last (g.calls d) (g.calls n) (g.tells d) (g.tells n) r → IfErr r (λ e. UnlessMemory e (IsStopped (g.failed d) (g.failed n) e)) → StopsAtDevice (g.failed d) (g.failed n) r → g.failed d ≤ g.failed n
      → IsInstallCalls g first last opened a n r
  install_named {Y = Y} {Z = Z} a b d n y z r runs at_once later current reads two answer before read after more refused at_once' later' =
      let whole = runs_whole first (g.calls a) (g.calls b) (g.tells a) (g.tells b) y runs in
      let one : ReportsDevice {X = Y} g a b (Ok y) = record { device = tt; at_once = at_once; later = later } in
      let both : ReportsDevice {X = Z} g a d (Ok z) = reports_then refl one two in
      let three : ReportsDevice g d n r = record { device = stopped_device (g.failed d) (g.failed n) r refused; at_once = at_once'; later = later' } in
      named_by a n r
      (runs_then first last (g.calls a) (g.calls d) (g.calls n) (g.tells a) (g.tells d) (g.tells n) tt r (runs_read first (g.calls a) (g.calls b) (g.calls d) (g.tells a) (g.tells b) (g.tells d) (Ok tt) reads.same reads.calls whole) more)
      (stopped_since (g.failed a) (g.failed d) (g.failed n) r both.later later' refused)
      (λ files tell. let now = current files tell in sym now.2 ∙ (now.1 (codes "CURRENT") (Some (current_text opened))).0 answer)
      (reports_then refl both three)
      (read_between opened (g.readings a) (g.readings b) (g.readings d) (g.readings n) (g.calls b) (g.calls a ++ map Done first) before (whole.appended ∙ ap (λ (s : List Step). g.calls a ++ s) whole.made) read after)

-- nothing was done, since memory ran out
pub install_none : {D X : Type 0} {g : Ghosts D} (first last : List Call) (opened : ℕ) (a : D) (e : Fault) (r : Result X Fault) → e ≡ fault name.Memory → IsErrAnd r (λ f. f ≡ e) → IsInstallCalls g first last opened a a r
install_none {g = g} first last opened a e r is h =
    install_stopped first last opened {Y = Unit {0}} a a e r h (runs_none {T = Unit {0}} first (g.calls a) (g.tells a) e)
    (subst (λ (f : Fault). UnlessMemory f (IsStopped (g.failed a) (g.failed a) f)) (sym is) tt) (λ rose. absurd (omega (arith, rose))) (omega arith)
