-- What taking an outcome in leaves of a folder, from its steps.
use Rattle.std.proofs.Common.{◌≡◌, ◌⊎◌, ℕ, Bool, true, false, List, [], ◌∷◌, ◌++◌, map, Some, Result, Ok, Err, refl, sym, ap, subst, ◌∙◌, inl, inr, arith}
use Rattle.std.specs.List.{AllZip}
use Rattle.std.specs.Cmp.{IsTotalOrder}
use Rattle.std.proofs.lemmas.List.{append-nil, map-append}
use Rattle.folder.specs.Reports.{OnlyReads, ReportsDevice}
use Rattle.keep.specs.Readable.{readable_of}
use Rattle.keep.specs.declared.snapshots.Snapshots.{Snapshots}
use Rattle.checks.specs.TestedTables.{IsTested}
use Rattle.checks.specs.declared.version_totals.VersionTotals.{VersionTotals}
use Rattle.store.proofs.Flow.{no_refusal}
use Rattle.adoption.specs.Adoption.{IsFirstTested}
use Rattle.adoption.specs.TakenOutcomes.{IsLawfulSoFar}
use Rattle.adoption.proofs.KeptReads.{IsKeptVersion, left_version}
use Rattle.adoption.proofs.LaidTables.{one_loaded}
use Rattle.edit.proofs.Refusals.{unless}
use Rattle.edit.specs.Answers.{UnlessMemory, fault, ◌>>=◌}
use Rattle.edit.specs.fault.Fault.{Fault}
use Rattle.edit.specs.fault.FaultName.TheVariants.{Apply}
use Rattle.edit.specs.Comparator.{IsExact, KeyOrder}
use Rattle.edit.specs.Version.{State}
use Rattle.folder.specs.Calls.{Call, Done, Files, Step, Tells, ToldFiles}
use Rattle.folder.specs.CallSequence.{MakesCalls, TellsThrough}
use Rattle.folder.specs.Levels.{file_numbers}
use Rattle.folder.specs.LoadedTables.{IsTableOf}
use Rattle.folder.specs.Names.{table_name}
use Rattle.folder.specs.OpenAnswer.{IsStopped}
use Rattle.folder.specs.ReadsAs.{IsFileIn, IsOneOf, ReadsAs}
use Rattle.folder.specs.declared.folder.Folder.{Ghosts}
use Rattle.folder.specs.declared.order.Order.{Order}
use Rattle.folder.proofs.ReportLemmas.{reports_after, reports_then}
use Rattle.folder.proofs.RunLemmas.{runs_then}
use Rattle.install.specs.Install.{next_version_tables, numbers_of, table_bytes_of, table_calls}
use Rattle.keep.specs.Tables.{NumberedContents}
use Rattle.keep.specs.TestResult.{test_result}
use Rattle.checks.specs.LawfulTables.{IsLawfulTables}
use Rattle.store.proofs.InstallPart.{still}
use Rattle.install.specs.FolderChange.{change_of}
use Rattle.compact.specs.GroupedAnswer.{table_sizes}
use Rattle.store.specs.Compaction.{IsUnchanged}
use Rattle.store.specs.Outcome.{IsTestAnswer}
use Rattle.store.specs.declared.named_edits.WrittenTables.{WrittenTables}
use Rattle.levels.proofs.Ends.{ended_calls}
use Rattle.levels.proofs.LaidTables.{laid_twice}
use Rattle.levels.proofs.TablesStand.{version_stays}
use Rattle.adoption.specs.Adoption.{Adoption, IsGiven}
use Rattle.adoption.specs.AdoptedOutcome.{IsAdopted}
use Rattle.adoption.specs.TakenIn.{AreTaken, IsTakingEnd, IsTakingStopped, version_in}
use Rattle.adoption.specs.TakenOutcomes.{AreTakenInTurn, Given, IsGivenNext, IsLawfulAfter, given_tables, groups_of, has_opened_inputs}
use Rattle.adoption.specs.TakingSteps.{AreTestedOutputs, IsTakingOf}
use Rattle.adoption.specs.declared.comparison.Comparison.{Comparison}
use Rattle.adoption.specs.declared.comparison.Comparison.TheVariants.{LeftOut, With}
use Rattle.adoption.specs.declared.taken_outcomes.TakenOutcome.{TakenOutcome}
use Rattle.adoption.specs.declared.taken_outcomes.TakenOutcomes.{TakenOutcomes}
use Rattle.adoption.proofs.AdoptionSteps.{given_held}
use Rattle.adoption.proofs.EditedVersion.{output_above, there}
use Rattle.adoption.proofs.TakenTables.{TablesAfter, loaded_in_turn, names_apart, tables_after}
use Rattle.adoption.proofs.TakenTurns.{AreOneEdit, groups_joined, one_edit_of}

-- ---- the version after one more

module _ (cmp : KeyOrder) (total : IsTotalOrder cmp) (exact : IsExact cmp) (first v : State) (snapshots : Snapshots) {F : Type 0} (g : Ghosts F) (a : Adoption) (tables : List (ℕ × List ℕ)) (old : F)
    (outputs : AreTestedOutputs g cmp (With snapshots) (a, tables) old) where
  left : (w : State) → IsAdopted cmp w (a, tables) → (now : Files) → Tells (g.tells old) now → (held : List (ℕ × List ℕ)) → AllZip (IsTableOf (IsFileIn now)) (file_numbers cmp w) held → (found : List NumberedContents) → IsLawfulTables cmp w held (Ok found)
      → IsKeptVersion cmp w held a tables (readable_of snapshots a.last)
  left w ad now told held read found sound = left_version cmp total exact w a tables ad now held found read sound snapshots (outputs now told)

  -- the first outcome
  alone : (ad : IsAdopted cmp first (a, tables)) (now : Files) → Tells (g.tells old) now → (order : Order) (loaded : List (ℕ × List ℕ)) → ReadsAs cmp order first loaded now → (found : List NumberedContents) → IsLawfulTables cmp first loaded (Ok found)
      → IsLawfulAfter cmp first loaded (With snapshots) ((a, tables) ∷ []) a.next
  alone ad now told order loaded reads found sound =
      let t = left first ad now told loaded reads.loaded found sound in
      record { tables_next = t.tables_next; lawful = t.lawful; gets = λ others is user at readable. t.gets others is user at readable.0 }

  -- a later one
  module _ (o : Given) (before : List Given) (turn : AreTakenInTurn cmp first (o ∷ before) v) (ad : IsAdopted cmp v (a, tables)) where
    one : AreOneEdit cmp first (o ∷ before) v
    one = one_edit_of cmp first v o before turn

    abbrev outs : List (ℕ × List ℕ)
    outs = given_tables (o ∷ before)

    laid : (loaded : List (ℕ × List ℕ)) → next_version_tables cmp a.next tables (next_version_tables cmp v outs loaded) ≡ next_version_tables cmp a.next (outs ++ tables) loaded
    laid loaded =
        laid_twice cmp v a.next outs tables loaded (there cmp v a tables ad)
        (λ n own old. let lt = output_above cmp v a tables ad n own in let x = one.numbers n old in omega (arith, lt, x.1))

    more : (now : Files) → Tells (g.tells old) now → (order : Order) (loaded : List (ℕ × List ℕ)) → ReadsAs cmp order first loaded now → ((n : ℕ) → IsOneOf (numbers_of outs) n → now (table_name n) ≡ Some (table_bytes_of (outs ++ loaded) n))
        → IsLawfulAfter cmp first loaded (With snapshots) (o ∷ before) v → IsLawfulAfter cmp first loaded (With snapshots) ((a, tables) ∷ (o ∷ before)) a.next
    more now told order loaded reads found here =
        let held = next_version_tables cmp v outs loaded in
        let t = left v ad now told held (loaded_in_turn cmp first v (o ∷ before) one now loaded reads.loaded found) here.tables_next here.lawful in
        record {
          tables_next = t.tables_next;
          lawful = subst (λ (ts : List (ℕ × List ℕ)). IsLawfulTables cmp a.next ts (Ok t.tables_next)) (laid loaded) t.lawful;
          gets = λ others is user at readable. t.gets here.tables_next here.lawful user at readable.0 ∙ here.gets others is user at readable.1;
        }

-- if outputs are compared, what one more outcome leaves is lawful
lawful_more : (cmp : KeyOrder) → IsTotalOrder cmp → IsExact cmp → (first v : State) (comparison : Comparison) {F : Type 0} (g : Ghosts F) (a : Adoption) (tables : List (ℕ × List ℕ)) (old : F) → AreTestedOutputs g cmp comparison (a, tables) old
    → (outcomes : List Given) → AreTakenInTurn cmp first outcomes v → IsAdopted cmp v (a, tables) → (order : Order) (loaded : List (ℕ × List ℕ)) → IsLawfulSoFar cmp first loaded comparison outcomes v → TablesAfter cmp order first loaded (given_tables outcomes) (g.tells old)
    → IsLawfulSoFar cmp first loaded comparison ((a, tables) ∷ outcomes) a.next
lawful_more cmp total exact first v LeftOut g a tables old outputs outcomes turn ad order loaded here after = tt
lawful_more cmp total exact first v (With s) g a tables old outputs [] is ad order loaded here after =
    alone cmp total exact first v s g a tables old outputs (subst (λ (w : State). IsAdopted cmp w (a, tables)) is ad) after.now after.told order loaded after.reads here.0 here.1
lawful_more cmp total exact first v (With s) g a tables old outputs (o ∷ before) turn ad order loaded here after =
    more cmp total exact first v s g a tables old outputs o before turn ad after.now after.told order loaded after.reads after.found here

-- ---- the calls

calls_more : (before : List Given) (o : Given) → table_calls (groups_of (o ∷ before)) ≡ table_calls (groups_of before) ++ table_calls (o.1 ∷ [])
calls_more before o = map-append _ (groups_of before) (o.1 ∷ [])

sizes_more : (before : List Given) (o : Given) → table_sizes (given_tables (o ∷ before)) ≡ table_sizes (given_tables before) ++ table_sizes o.1
sizes_more before o = map-append _ (given_tables before) o.1

module _ {F : Type 0} (g : Ghosts F) (cmp : KeyOrder) (first : State) (comparison : Comparison) (start old : F) (v : State) (written : WrittenTables) (t : AreTaken g cmp first comparison start old v written) where
  -- what was told when just their tables had been written
  told_after : TellsThrough (map Done (table_calls (groups_of t.outcomes))) (g.tells start) (g.tells old)
  told_after = subst (λ (s : List Step). TellsThrough s (g.tells start) (g.tells old)) t.runs.made t.runs.change

  pub read_now : (files : Files) (order : Order) (loaded : List (ℕ × List ℕ)) → Tells (g.tells start) files → ReadsAs cmp order first loaded files → TablesAfter cmp order first loaded (given_tables t.outcomes) (g.tells old)
  read_now files order loaded told reads =
      subst (λ (ts : List (ℕ × List ℕ)). TablesAfter cmp order first loaded ts (g.tells old)) (groups_joined t.outcomes)
      (tables_after cmp order first loaded (groups_of t.outcomes) (names_apart cmp order first v t.outcomes t.in_turn) files (g.tells start) (g.tells old) told reads told_after)

  stopped : {X : Type 0} (outcomes : List Given) (w : State) (turn : AreTakenInTurn cmp first outcomes w) (new : F) (e : Fault) → MakesCalls {T = X} (table_calls (groups_of outcomes)) (g.calls start) (g.calls new) (g.tells start) (g.tells new) (Err e)
      → IsTakingStopped {T = X} g cmp first start new (Err e)
  stopped {X = X} outcomes w turn new e runs = record {
    outcomes = outcomes;
    v = w;
    in_turn = turn;
    runs = runs;
    survives = λ order loaded. version_stays cmp order first loaded (groups_of outcomes) (names_apart cmp order first w outcomes turn) (g.calls start) (g.calls new) (g.tells start) (g.tells new) e runs;
    refused = tt;
  }

  -- nothing was written since
  pub nothing_since : {X : Type 0} (new : F) (e : Fault) → IsUnchanged {T = X} (change_of g old new) (Err e) → IsTakingStopped {T = X} g cmp first start new (Err e)
  nothing_since {X = X} new e none =
      stopped t.outcomes v t.in_turn new e
      (ended_calls {T = Unit {0}} {U = X} (λ f. f ≡ e) (table_calls (groups_of t.outcomes)) (g.calls start) (g.calls new) (g.tells start) (g.tells new) tt (Err e) refl
      (record { steps = t.runs.steps; made = t.runs.made; appended = none.calls ∙ t.runs.appended; change = λ s told. let last = t.runs.change s told in (last.0, last.1, still (g.tells old) (g.tells new) none.same last.0.files last.2) }))

  module _ (a : Adoption) (tables : List (ℕ × List ℕ)) (ad : IsAdopted cmp v (a, tables)) (opened : has_opened_inputs first (a, tables) ≡ true) (new : F) where
    abbrev all : List Given
    all = (a, tables) ∷ t.outcomes

    turn : AreTakenInTurn cmp first all a.next
    turn = (v, t.in_turn, ad, opened, refl)

    all_runs : {Y : Type 0} (q : Result Y Fault) → MakesCalls (table_calls (tables ∷ [])) (g.calls old) (g.calls new) (g.tells old) (g.tells new) q → MakesCalls (table_calls (groups_of all)) (g.calls start) (g.calls new) (g.tells start) (g.tells new) q
    all_runs q runs =
        subst (λ (c : List Call). MakesCalls c (g.calls start) (g.calls new) (g.tells start) (g.tells new) q) (sym (calls_more t.outcomes (a, tables)))
        (runs_then (table_calls (groups_of t.outcomes)) (table_calls (tables ∷ [])) (g.calls start) (g.calls old) (g.calls new) (g.tells start) (g.tells old) (g.tells new) tt q t.runs runs)

    -- its tables were written up to a call that failed
    pub written_stopped : {X : Type 0} (e : Fault) → MakesCalls {T = X} (table_calls (tables ∷ [])) (g.calls old) (g.calls new) (g.tells old) (g.tells new) (Err e) → IsTakingStopped {T = X} g cmp first start new (Err e)
    written_stopped {X = X} e runs = stopped all a.next turn new e (all_runs {Y = X} (Err e) runs)

    -- they all were
    module _ (total : IsTotalOrder cmp) (exact : IsExact cmp) (outputs : AreTestedOutputs g cmp comparison (a, tables) old) where
      lawful_with : (files : Files) (order : Order) (loaded : List (ℕ × List ℕ)) → Tells (g.tells start) files → ReadsAs cmp order first loaded files → IsLawfulSoFar cmp first loaded comparison all a.next
      lawful_with files order loaded told reads =
          lawful_more cmp total exact first v comparison g a tables old outputs t.outcomes t.in_turn ad order loaded (t.lawful files order loaded told reads) (read_now files order loaded told reads)

      pub taken_more : {X : Type 0} (x : X) (w : State) (after : WrittenTables) → w ≡ a.next → after.outputs.items ≡ written.outputs.items ++ table_sizes tables → after.edits.items ≡ written.edits.items ++ a.edit
          → MakesCalls {E = Fault} (table_calls (tables ∷ [])) (g.calls old) (g.calls new) (g.tells old) (g.tells new) (Ok x) → ReportsDevice g old new (Ok x) → AreTaken g cmp first comparison start new w after
      taken_more {X = X} x w after is sizes same runs device = subst (λ (s : State). AreTaken g cmp first comparison start new s after) (sym is) (record {
        outcomes = all;
        in_turn = turn;
        outputs_are = sizes ∙ ap (λ (o : List (ℕ × ℕ)). o ++ table_sizes tables) t.outputs_are ∙ sym (sizes_more t.outcomes (a, tables));
        edits_are = same ∙ ap (λ (b : List ℕ). b ++ a.edit) t.edits_are;
        runs = let all_made = all_runs {Y = X} (Ok x) runs in record { steps = all_made.steps; made = all_made.made; appended = all_made.appended; change = all_made.change };
        device = let both = reports_then {first = Ok tt} refl t.device device in reports_after {first = Ok x} (Ok tt) refl both tt;
        lawful = lawful_with;
      })

-- ---- the end of a call

module _ {F : Type 0} (g : Ghosts F) (cmp : KeyOrder) (old new : F) (t : TakenOutcomes) where
  pub end_before : (start : F) (e : Fault) → IsUnchanged {T = TakenOutcome} (change_of g old new) (Err e) → IsTakingEnd g cmp start old new t (Err e)
  end_before start e none = λ taken. nothing_since g cmp t.opened.now.version t.comparison start old (version_in t) t.written taken new e none

  pub end_of : (total : IsTotalOrder cmp) (exact : IsExact cmp) (a : Adoption) (tables : List (ℕ × List ℕ)) → IsAdopted cmp (version_in t) (a, tables) → has_opened_inputs t.opened.now.version (a, tables) ≡ true
      → (start : F) (r : Result TakenOutcome Fault) → ReportsDevice g old new r → IsTakingOf g cmp (a, tables) old new t r → IsTakingEnd g cmp start old new t r
  end_of total exact a tables ad opened start (Ok x) device (inl none) = absurd none.refused
  end_of total exact a tables ad opened start (Ok x) device (inr (outputs, written)) =
      λ taken. (
        written.taken.opened,
        written.taken.compared,
        taken_more g cmp t.opened.now.version t.comparison start old (version_in t) t.written taken a tables ad opened new total exact outputs x (version_in x.taken) x.taken.written written.taken.version written.taken.outputs written.taken.edits written.runs device,
      )
  end_of total exact a tables ad opened start (Err e) device (inl none) = end_before start e none
  end_of total exact a tables ad opened start (Err e) device (inr (outputs, written)) =
      λ taken. written_stopped g cmp t.opened.now.version t.comparison start old (version_in t) t.written taken a tables ad opened new e written.runs

-- ---- the begin

-- the tables with which the version that was tested is lawful
tested_tables : (cmp : KeyOrder) (v : State) (files : Files) (loaded : List (ℕ × List ℕ)) (t : VersionTotals) → AllZip (IsTableOf (IsFileIn files)) (file_numbers cmp v) loaded → IsTested (IsFileIn files) cmp v (Ok t) → (tables : List NumberedContents) × IsLawfulTables cmp v loaded (Ok tables)
tested_tables cmp v files loaded t read (Err f, h) = absurd (no_refusal t f h.1)
tested_tables cmp v files loaded t read (Ok found, (h, (Err f, k))) = absurd (no_refusal t f k.1)
tested_tables cmp v files loaded t read (Ok found, (h, (Ok ts, k))) = (ts, subst (λ (l : List (ℕ × List ℕ)). IsLawfulTables cmp v l (Ok ts)) (one_loaded files (file_numbers cmp v) found loaded h read) k.0)

pub version_tables : (cmp : KeyOrder) (v : State) (files : Files) (loaded : List (ℕ × List ℕ)) → AllZip (IsTableOf (IsFileIn files)) (file_numbers cmp v) loaded → IsTestAnswer (Some 0) files cmp v (Ok tt) → (tables : List NumberedContents) × IsLawfulTables cmp v loaded (Ok tables)
version_tables cmp v files loaded read (Err f, h) = absurd (no_refusal tt f h.1)
version_tables cmp v files loaded read (Ok t, (h, is)) = tested_tables cmp v files loaded t read h

-- no outcome yet
first_lawful : (cmp : KeyOrder) (first : State) (comparison : Comparison) (files : Files) (loaded : List (ℕ × List ℕ)) → AllZip (IsTableOf (IsFileIn files)) (file_numbers cmp first) loaded → IsFirstTested cmp files first comparison (Ok tt) → IsLawfulSoFar cmp first loaded comparison [] first
first_lawful cmp first (With s) files loaded read h = version_tables cmp first files loaded read h
first_lawful cmp first LeftOut files loaded read h = tt

pub taken_none : {F : Type 0} (g : Ghosts F) (cmp : KeyOrder) (first : State) (comparison : Comparison) (old new : F) → OnlyReads g old new → ReportsDevice {X = Unit {0}} g old new (Ok tt) → ((files : Files) → Tells (g.tells old) files → IsFirstTested cmp files first comparison (Ok tt))
    → (w : WrittenTables) → w.outputs.items ≡ [] → w.edits.items ≡ [] → AreTaken g cmp first comparison old new first w
taken_none g cmp first comparison old new reads device tested w outputs edits = record {
  outcomes = [];
  in_turn = refl;
  outputs_are = outputs;
  edits_are = edits;
  runs = record { steps = []; made = refl; appended = reads.calls ∙ sym (append-nil (g.calls old)); change = λ s told. (s, refl, still (g.tells old) (g.tells new) reads.same s.files told) };
  device = device;
  lawful = λ files order loaded told read. first_lawful cmp first comparison files loaded read.loaded (tested files told);
}

-- and the same after more was read
abbrev pub taken_still : {F : Type 0} (g : Ghosts F) (cmp : KeyOrder) (first : State) (comparison : Comparison) (start old new : F) (v : State) (w : WrittenTables) → AreTaken g cmp first comparison start old v w → OnlyReads g old new → ReportsDevice {X = Unit {0}} g old new (Ok tt)
    → AreTaken g cmp first comparison start new v w
taken_still g cmp first comparison start old new v w t reads device = record {
  outcomes = t.outcomes;
  in_turn = t.in_turn;
  outputs_are = t.outputs_are;
  edits_are = t.edits_are;
  runs = record { steps = t.runs.steps; made = t.runs.made; appended = reads.calls ∙ t.runs.appended; change = λ s told. let last = t.runs.change s told in (last.0, last.1, still (g.tells old) (g.tells new) reads.same last.0.files last.2) };
  device = reports_then {first = Ok tt} refl t.device device;
  lawful = t.lawful;
}

-- ---- the outcome that a folder holds

pub next_held : (cmp : KeyOrder) (first v : State) (tells : ToldFiles) (files : Files) (r : Result Given Fault) → Tells tells files → IsGivenNext cmp tells first v r → IsGivenNext cmp (IsFileIn files) first v r
next_held cmp first v tells files r h (Err e, (given, is)) = (Err e, (given_held cmp v tells files (Err e) h given, is))
next_held cmp first v tells files r h (Ok o, (given, is)) = (Ok o, (given_held cmp v tells files (Ok o) h given, is))

-- the outcome if it has just files of the first version as inputs, else Apply
abbrev given_if : Given → Bool → Result Given Fault
given_if given b = test_result b Apply >>= λ _. Ok given

pub next_given : (cmp : KeyOrder) (tells : ToldFiles) (first v : State) (given : Given) → IsGiven cmp tells v (Ok given) → has_opened_inputs first given ≡ true → IsGivenNext cmp tells first v (Ok given)
next_given cmp tells first v given h opened = (Ok given, (h, ap (λ (b : Bool). given_if given b) (sym opened)))

pub next_unopened : (cmp : KeyOrder) (tells : ToldFiles) (first v : State) (given : Given) (before now : ℕ) (e : Fault) → e ≡ fault Apply → IsGiven cmp tells v (Ok given) → has_opened_inputs first given ≡ false → UnlessMemory e (IsStopped before now e ⊎ IsGivenNext cmp tells first v (Err e))
next_unopened cmp tells first v given before now e is h other =
    subst (λ (f : Fault). UnlessMemory f (IsStopped before now f ⊎ IsGivenNext cmp tells first v (Err f))) (sym is)
    (unless (fault Apply) (IsStopped before now (fault Apply) ⊎ IsGivenNext cmp tells first v (Err (fault Apply))) (inr (Ok given, (h, ap (λ (b : Bool). given_if given b) (sym other)))))
