-- What the installation of outcomes that were taken in leaves of a folder, from its steps.
use Rattle.std.proofs.Common.{◌≡◌, ◌⊎◌, ℕ, List, [], ◌∷◌, Result, Ok, Err, IfErr, IfOk, IsErrAnd, refl, sym, ap, subst, ◌∙◌, inl, inr}
use Rattle.std.specs.Cmp.{IsTotalOrder}
use Rattle.edit.proofs.Edits.{not_both}
use Rattle.edit.proofs.Refusals.{unless_from}
use Rattle.edit.specs.Answers.{UnlessMemory, fault}
use Rattle.edit.specs.fault.Fault.{Fault}
use Rattle.edit.specs.fault.FaultName.TheVariants.{Apply}
use Rattle.edit.specs.Comparator.{KeyOrder}
use Rattle.edit.specs.Edit.{IsEdit, IsEditRefused, edit_bytes}
use Rattle.edit.specs.Version.{State}
use Rattle.folder.specs.Calls.{Files, Tells, ToldFiles}
use Rattle.folder.specs.CallSequence.{MakesCalls}
use Rattle.folder.specs.ReadsAs.{ReadsAs}
use Rattle.folder.specs.Reports.{OnlyReads, ReportsDevice}
use Rattle.folder.specs.declared.folder.Folder.{Ghosts}
use Rattle.folder.specs.declared.order.Order.{Order}
use Rattle.install.specs.FolderChange.{change_of}
use Rattle.install.specs.Install.{IsEditedBy, SurvivesCrash, manifest_bytes, next_version_tables, next_with, table_calls, version_with}
use Rattle.install.proofs.Grouped.{groups_installed}
use Rattle.compact.specs.GroupedAnswer.{table_sizes}
use Rattle.store.specs.FolderRequest.{manifest_of}
use Rattle.store.specs.NamedEdits.{AreNamed, IsNaming}
use Rattle.store.specs.Step.{step_by, step_in}
use Rattle.store.specs.declared.compaction_step.CompactionStep.{CompactionStep}
use Rattle.adoption.specs.TakenIn.{AreInstalledTogether, AreTaken, IsTakenInstalled, IsTakingStopped, version_in}
use Rattle.adoption.specs.TakenOutcomes.{AreTakenInTurn, Given, IsLawfulAfter, IsLawfulSoFar, edits_in, given_tables, groups_of}
use Rattle.adoption.specs.Adoption.{IsLastTested}
use Rattle.adoption.specs.declared.comparison.Comparison.{Comparison}
use Rattle.adoption.specs.declared.comparison.Comparison.TheVariants.{LeftOut, With}
use Rattle.adoption.proofs.TakenTables.{TablesAfter, loaded_in_turn}
use Rattle.folder.specs.OpenAnswer.{FolderAnswers, IsStopped}
use Rattle.adoption.specs.declared.taken_outcomes.TakenOutcomes.{TakenOutcomes}
use Rattle.adoption.proofs.TakenEnds.{nothing_since, read_now, taken_still, version_tables}
use Rattle.adoption.proofs.TakenTurns.{edited_in_turn, groups_joined, one_edit_of}

-- ---- the end

module _ {F : Type 0} (g : Ghosts F) (name : List ℕ) (cmp : KeyOrder) (total : IsTotalOrder cmp) (t : TakenOutcomes) (start old new : F) (some : t.written.edits.items ≡ [] → ⊥) where
  abbrev first : State
  first = t.opened.now.version

  abbrev v : State
  v = version_in t

  abbrev AreWritten : List Given → Type 0
  AreWritten outcomes = MakesCalls {T = Unit {0}} {E = Fault} (table_calls (groups_of outcomes)) (g.calls start) (g.calls old) (g.tells start) (g.tells old) (Ok tt)

  abbrev AreLawful : List Given → Type 0
  AreLawful outcomes = (files : Files) (order : Order) (loaded : List (ℕ × List ℕ)) → Tells (g.tells start) files → ReadsAs cmp order first loaded files → IsLawfulAfter cmp first loaded t.comparison outcomes v

  -- the edits read as an edit
  unready : (outcomes : List Given) → AreTakenInTurn cmp first outcomes v → t.written.edits.items ≡ edits_in outcomes → (e : Fault) → IsEditRefused t.written.edits.items e → ⊥
  unready [] turn is e h = some is
  unready (o ∷ before) turn is e h =
      let one = one_edit_of cmp first v o before turn in
      not_both t.written.edits.items e one.edit h (subst (λ (b : List ℕ). IsEdit b one.edit) (sym is) one.read)

  installed : (outcomes : List Given) → AreTakenInTurn cmp first outcomes v → t.written.outputs.items ≡ table_sizes (given_tables outcomes) → t.written.edits.items ≡ edits_in outcomes → AreWritten outcomes → ReportsDevice {X = Unit {0}} g start old (Ok tt) → AreLawful outcomes → (r : Result CompactionStep Fault)
      → AreNamed g name cmp first t.opened.now.manifest t.written old new r → AreInstalledTogether g name cmp t.comparison first v t.opened.now.manifest start new r
  installed [] turn outputs is written device lawful r n = absurd (some is)
  installed (o ∷ before) turn outputs is written device lawful r n =
      let outcomes = o ∷ before in
      let read = subst (λ (b : List ℕ). IsEdit b n.edit) is n.read in
      let edited = edited_in_turn cmp first v outcomes (one_edit_of cmp first v o before turn) n.edit (edit_bytes n.edit) read n.again in
      let all = groups_installed name cmp first t.opened.now.manifest (manifest_of first) (groups_of outcomes) (edit_bytes n.edit) (manifest_bytes name cmp first (edit_bytes n.edit)) n.small total refl n.state n.snapshot start old new tt r written device.at_once device.later n.calls in
      record {
        outcomes = outcomes;
        in_turn = turn;
        edit = n.edit;
        read = read;
        edited = edited;
        run = all.run;
        survives = λ order loaded named.
            subst (λ (ts : List (ℕ × List ℕ)). IsEditedBy cmp first (manifest_of first) ts (edit_bytes n.edit) v → SurvivesCrash cmp order (version_with first loaded) (next_with cmp v ts loaded) (change_of g start new) r) (groups_joined outcomes)
            (all.survives order v loaded named) edited;
        before = λ order loaded named. all.before order v loaded named (subst (λ (ts : List (ℕ × List ℕ)). IsEditedBy cmp first (manifest_of first) ts (edit_bytes n.edit) v) (sym (groups_joined outcomes)) edited);
        lawful = λ files order loaded told reads. lawful files order loaded told reads;
        step = subst (λ (outs : List (ℕ × ℕ)). IfOk r (λ step. step_in step ≡ step_by first outs n.edit)) outputs n.step;
      }

  pub installed_end : (r : Result CompactionStep Fault) (taken : AreTaken g cmp first t.comparison start old v t.written) → AreLawful taken.outcomes → IsNaming g name cmp first t.opened.now.manifest t.written old new r
      → (IsTakingStopped g cmp first start new r × IfErr r (λ e. UnlessMemory e ⊥)) ⊎ AreInstalledTogether g name cmp t.comparison first v t.opened.now.manifest start new r
  installed_end (Ok step) taken lawful (inl u) = absurd u.nothing.refused
  installed_end (Err e) taken lawful (inl u) =
      inl (
        nothing_since g cmp first t.comparison start old v t.written taken new e u.nothing,
        unless_from e (IsEditRefused t.written.edits.items e) ⊥ (unready taken.outcomes taken.in_turn taken.edits_are e) u.why,
      )
  installed_end r taken lawful (inr n) = inr (installed taken.outcomes taken.in_turn taken.outputs_are taken.edits_are taken.runs taken.device lawful r n)

-- ---- with the test of the last version

-- the version that outcomes leave is lawful: as they were taken in, or by its test
last_lawful : (cmp : KeyOrder) (first v : State) (comparison : Comparison) (tells : ToldFiles) → ((files : Files) → Tells tells files → IsLastTested cmp files v comparison (Ok tt)) → (outcomes : List Given) → AreTakenInTurn cmp first outcomes v → (outcomes ≡ [] → ⊥)
    → (order : Order) (loaded : List (ℕ × List ℕ)) → IsLawfulSoFar cmp first loaded comparison outcomes v → TablesAfter cmp order first loaded (given_tables outcomes) tells → IsLawfulAfter cmp first loaded comparison outcomes v
last_lawful cmp first v comparison tells tested [] turn some order loaded here after = absurd (some refl)
last_lawful cmp first v (With s) tells tested (o ∷ before) turn some order loaded here after = here
last_lawful cmp first v LeftOut tells tested (o ∷ before) turn some order loaded here after =
    let one = one_edit_of cmp first v o before turn in
    let held = next_version_tables cmp v (given_tables (o ∷ before)) loaded in
    let found = version_tables cmp v after.now held (loaded_in_turn cmp first v (o ∷ before) one after.now loaded after.reads.loaded after.found) (tested after.now after.told) in
    record { tables_next = found.0; lawful = found.1; gets = tt }

module _ {F : Type 0} (g : Ghosts F) (name : List ℕ) (cmp : KeyOrder) (t : TakenOutcomes) (start old : F) where
  -- the last version was refused
  pub last_refused : (new : F) (q : Result (Unit {0}) Fault) (r : Result CompactionStep Fault) (e : Fault) → q ≡ Err e → IsErrAnd r (λ f. f ≡ e) → OnlyReads g old new
      → ((files : Files) → Tells (g.tells old) files → FolderAnswers (λ u. u) (g.failed old) (g.failed new) q (IsLastTested cmp files (version_in t) t.comparison)) → IsTakenInstalled g name cmp start old new t r
  last_refused new q (Ok step) e was h reads answer = absurd h
  last_refused new q (Err f) e was h reads answer =
      λ taken. inr (inl (
        nothing_since g cmp t.opened.now.version t.comparison start old (version_in t) t.written taken new f (record { calls = reads.calls; same = reads.same; refused = tt }),
        λ files told. subst (λ (d : Fault). UnlessMemory d (IsStopped (g.failed old) (g.failed new) d ⊎ IsLastTested cmp files (version_in t) t.comparison (Err d))) (sym h)
            (subst (λ (x : Result (Unit {0}) Fault). FolderAnswers (λ u. u) (g.failed old) (g.failed new) x (IsLastTested cmp files (version_in t) t.comparison)) was (answer files told)),
      ))

  -- it was not, and the manifest was made
  pub last_passed : (total : IsTotalOrder cmp) (mid new : F) (some : t.written.edits.items ≡ [] → ⊥) (r : Result CompactionStep Fault) → OnlyReads g old mid → ReportsDevice {X = Unit {0}} g old mid (Ok tt) → ((files : Files) → Tells (g.tells old) files → IsLastTested cmp files (version_in t) t.comparison (Ok tt))
      → IsNaming g name cmp t.opened.now.version t.opened.now.manifest t.written mid new r → IsTakenInstalled g name cmp start old new t r
  last_passed total mid new some r reads device tested h taken =
      let first = t.opened.now.version in
      let v = version_in t in
      let since = taken_still g cmp first t.comparison start old mid v t.written taken reads device in
      elim (installed_end g name cmp total t start mid new some r since (λ files order loaded told read.
      last_lawful cmp first v t.comparison (g.tells old) tested taken.outcomes taken.in_turn (λ is. some (taken.edits_are ∙ ap edits_in is)) order loaded (taken.lawful files order loaded told read)
      (read_now g cmp first t.comparison start old v t.written taken files order loaded told read)) h) [
        | inl stopped ↦ inr (inl (stopped.0, λ files told. why_none r files stopped.1))
        | inr made ↦ inr (inr made)
      ]
    where
      why_none : (q : Result CompactionStep Fault) (files : Files) → IfErr q (λ e. UnlessMemory e ⊥) → IfErr q (λ e. UnlessMemory e (IsStopped (g.failed old) (g.failed new) e ⊎ IsLastTested cmp files (version_in t) t.comparison (Err e)))
      why_none (Ok step) files h = tt
      why_none (Err e) files h = unless_from e ⊥ (IsStopped (g.failed old) (g.failed new) e ⊎ IsLastTested cmp files (version_in t) t.comparison (Err e)) (λ none. absurd none) h

-- no outcome was taken
pub none_end : {F : Type 0} (g : Ghosts F) (name : List ℕ) (cmp : KeyOrder) (t : TakenOutcomes) (start old : F) (r : Result CompactionStep Fault) → t.written.edits.items ≡ [] → IsErrAnd r (λ e. e ≡ fault Apply) → IsTakenInstalled g name cmp start old old t r
none_end g name cmp t start old r none is taken = inl (none, record { same = λ n held. ((λ x. x), (λ x. x)); calls = refl }, is)
