-- What a scan answers, by the tables that a folder holds.
use Rattle.std.proofs.Common.{◌≡◌, ◌≢◌, ℕ, ◌≤◌, Bool, true, false, List, [], map, get_or, Option, Some, None, Result, Ok, Err, IfErr, IsErrAnd, refl, sym, ap, subst, ◌∙◌, inl, inr}
use Rattle.std.specs.Prelude.{◌⊎◌, filter}
use Rattle.std.specs.List.{All}
use Rattle.std.specs.Cmp.{IsTotalOrder}
use Rattle.std.specs.declared.cmp.Ordering.{Ordering}
use Rattle.std.proofs.lemmas.List.Elements.{All-contains, Contains-get_or}
use Rattle.table.proofs.Refusals.{unless_device, unless_from}
use Rattle.table.proofs.Binds.{failed}
use Rattle.table.specs.Answers.{FailsOrMemory, UnlessMemory, fault}
use Rattle.table.specs.fault.Fault.{Fault}
use Rattle.table.specs.fault.FaultName.TheVariants.{Device, Memory}
use Rattle.block.specs.EncodedEntry.{Entry}
use Rattle.merge.specs.MergedLists.{sorted_entries}
use Rattle.reads.specs.Ranges.{KeyRange}
use Rattle.folder.specs.Version.{State}
use Rattle.folder.specs.meta.FileMeta.{FileMeta}
use Rattle.folder.proofs.LoadingLemmas.{loaded_before}
use Rattle.folder.proofs.OpeningLemmas.{failed_since}
use Rattle.folder.specs.Calls.{Files, Tells}
use Rattle.folder.specs.Levels.{file_numbers}
use Rattle.folder.specs.LoadedTables.{IsLoaded}
use Rattle.folder.specs.OpenAnswer.{IsStopped}
use Rattle.folder.specs.ReadsAs.{IsFileIn}
use Rattle.reads.specs.StatedFiles.{IsStatedFile}
use Rattle.reads.specs.TableOrder.{AreStandingFiles}
use Rattle.reads.specs.Tables.{NumberedContents}
use Rattle.reads.proofs.Members.{from_filter}
use Rattle.checks.specs.TableReadings.{tables_reading}
use Rattle.checks.specs.GroupTest.{AreTablesIn}
use Rattle.checks.specs.HeldTables.{AreFound}
use Rattle.checks.specs.LawfulTables.{IsLawfulTables}
use Rattle.checks.specs.NeededFiles.{is_file_needed}
use Rattle.checks.specs.TestedTables.{IsTested}
use Rattle.checks.specs.declared.version_totals.VersionTotals.{VersionTotals}
use Rattle.checks.proofs.FileTables.{all_found, found_lists, numbers_in}
use Rattle.checks.proofs.FolderTests.{loaded_in}
use Rattle.checks.proofs.FoundTables.{found_at, found_tables}
use Rattle.checks.proofs.LawfulLemmas.{sound_checked, sound_lawful}
use Rattle.checks.proofs.NeededLemmas.{needed_entries}
use Rattle.checks.proofs.TableRefusals.{no_device}
use Rattle.scan.specs.Row.{Row}
use Rattle.scan.specs.Rows.{AreRows}
use Rattle.scan.specs.ChosenRows.{chosen_range, chosen_sequence, rows_within}
use Rattle.scan.specs.EntryRows.{file_rows, rows_after, sorted_rows}
use Rattle.scan.specs.RowParts.{AreScanned, IsRowPart}
use Rattle.scan.specs.ToldRows.{IsScan, counts_by, telling_by}
use Rattle.scan.specs.declared.row_choice.RowChoice.{RowChoice}
use Rattle.scan.proofs.Told.{within_none, within_parts}

-- ---- the tables that a range needs

-- what is stated of all is stated of some
some_stated : (P : FileMeta → Type 0) (p : FileMeta → Bool) (files : List FileMeta) → All P files → All P (filter p files)
some_stated P p files all k d lt =
    let f : FileMeta = get_or (filter p files) k d in
    All-contains P files f all (from_filter p files f (Contains-get_or (filter p files) k d lt)).0

-- the entries of tables
abbrev pub entries_each : List NumberedContents → List (List Entry)
entries_each tables = map (λ (t : NumberedContents). t.contents.entries) tables

module _ (cmp : List ℕ → List ℕ → Ordering) (total : IsTotalOrder cmp) (files : Files) (next : Option ℕ) (standing : List FileMeta) (tables : List NumberedContents) (are : AreTablesIn cmp files next standing tables) (range : KeyRange) where
  abbrev needed : List FileMeta
  needed = filter (is_file_needed cmp range) standing

  stated : All (IsStatedFile cmp tables next) needed
  stated = some_stated (IsStatedFile cmp tables next) (is_file_needed cmp range) standing are.stated

  -- tables that were found have the rows of the files
  pub found_rows : (found : List NumberedContents) → AreFound cmp files (numbers_in needed) found → (at : ℕ) → sorted_rows cmp range at (entries_each found) ≡ file_rows cmp tables standing at range
  found_rows found there at =
      ap (λ (ls : List (List Entry)). sorted_rows cmp range at ls) (sym (found_lists cmp files next tables are.read needed found there stated))
      ∙ ap (λ (es : List Entry). rows_after at None (sorted_entries cmp es)) (needed_entries cmp total range next tables standing are.stated)

  -- they are found
  pub never_unfound : ((found : List NumberedContents) → AreFound cmp files (numbers_in needed) found → ⊥) → ⊥
  never_unfound none = let all = all_found cmp files next tables are.read needed stated in none all.0 all.1

-- ---- a lawful version

-- the tables with which the version is lawful, as the folder holds them
pub tables_in : (cmp : List ℕ → List ℕ → Ordering) (told : List ℕ → Option (List ℕ) → Type 0) (files : Files) (v : State) (standing : List FileMeta) (loaded : List (ℕ × List ℕ)) (tables : List NumberedContents)
    → AreStandingFiles cmp v standing → Tells told files → IsLoaded told (file_numbers cmp v) (Ok loaded) → IsLawfulTables cmp v loaded (Ok tables) → AreTablesIn cmp files v.next_file standing tables
tables_in cmp told files v standing loaded tables stand all there sound = record {
  read = found_at cmp files (file_numbers cmp v) tables (found_tables cmp files (file_numbers cmp v) loaded tables (loaded_in told files (file_numbers cmp v) (Ok loaded) all there) (sound_checked cmp v loaded tables sound));
  stated = ((stand.lawful tables).0 (sound_lawful cmp v loaded tables sound)).0;
}

module _ {T : Type 0} (tells : T → Row → Bool → T → Type 0) (cmp : List ℕ → List ℕ → Ordering) (v : State) (tables : List NumberedContents) (choice : RowChoice) (old new : T) (before now : ℕ) (rows : List Row)
    (are : AreRows cmp v tables (chosen_range choice) (chosen_sequence v choice.at) rows) where
  abbrev IsOwn : Result (Unit {0}) Fault → Type 0
  IsOwn r = IsScan cmp v tables choice (telling_by tells old new) (counts_by before now) r

  ended : (untold : List Row) (left : Option ℕ) (goes : Bool) → IsRowPart (telling_by tells old new) rows choice.limit untold left goes → (rows_within left untold ≡ []) ⊎ (goes ≡ false) → IsOwn (Ok tt)
  ended untold left goes p end = record {
    rows = rows;
    are = are;
    told = p.told;
    untold = rows_within left untold;
    parts = within_parts rows p.told untold choice.limit left p.parts p.counted;
    goes = goes;
    taken = p.taken;
    answer = (refl, end);
  }

  none_left : (left : Option ℕ) (untold : List Row) → left ≡ Some 0 → rows_within left untold ≡ []
  none_left left untold h = ap (λ (o : Option ℕ). rows_within o untold) h

  pub scan_of : (r : Result (Unit {0}) Fault) → AreScanned tells rows old choice.limit new r → IfErr r (λ e. UnlessMemory e (IsStopped before now e)) → IsOwn r
  scan_of (Ok none) (inl enough) stopped = ended enough.untold enough.left enough.goes enough.part (elim enough.ended [
    | inl stop ↦ inr stop
    | inr zero ↦ inl (none_left enough.left enough.untold zero)
  ])
  scan_of (Ok none) (inr all) stopped = ended [] all.0 true all.1 (inl (within_none all.0))
  scan_of (Err e) begun stopped = record {
    rows = rows;
    are = are;
    told = begun.part.told;
    untold = rows_within begun.left begun.untold;
    parts = within_parts rows begun.part.told begun.untold choice.limit begun.left begun.part.parts begun.part.counted;
    goes = true;
    taken = begun.part.taken;
    answer = unless_from e (IsStopped before now e) (IsStopped before now e ⊎ ((Err e ≡ Ok tt) × ((rows_within begun.left begun.untold ≡ []) ⊎ (true ≡ false)))) (λ s. inl s) stopped;
  }

-- ---- refusals

-- Memory alone
pub memory_stopped : {X : Type 0} (before now : ℕ) (r : Result X Fault) → IfErr r (λ e. e ≡ fault Memory) → IfErr r (λ e. UnlessMemory e (IsStopped before now e))
memory_stopped before now (Ok x) h = tt
memory_stopped before now (Err e) h = subst (λ (f : Fault). UnlessMemory f (IsStopped before now f)) (sym h) tt

pub memory_handed : {X : Type 0} (before now : ℕ) (r : Result X Fault) (e : Fault) → IsErrAnd r (λ f. f ≡ e) → e ≡ fault Memory → IfErr r (λ e. UnlessMemory e (IsStopped before now e))
memory_handed before now (Ok x) e is h = absurd is
memory_handed before now (Err f) e is h = subst (λ (d : Fault). UnlessMemory d (IsStopped before now d)) (sym (is ∙ h)) tt

-- a refusal that `?` hands on, if more calls came before it
pub stopped_handed : {X : Type 0} (before middle now : ℕ) (r : Result X Fault) (e : Fault) → IsErrAnd r (λ f. f ≡ e) → before ≤ middle → middle ≤ now → UnlessMemory e (IsStopped middle now e) → IfErr r (λ e. UnlessMemory e (IsStopped before now e))
stopped_handed before middle now (Ok x) e is one two h = absurd is
stopped_handed before middle now (Err f) e is one two h =
    subst (λ (d : Fault). UnlessMemory d (IsStopped before now d)) (sym is)
    (unless_from e (IsStopped middle now e) (IsStopped before now e) (λ s. (s.0, failed_since before middle now one two s.1)) h)

-- ---- a version that is tested first

-- the count of failures was the same before
pub scan_since : {T : Type 0} (tells : T → Row → Bool → T → Type 0) (cmp : List ℕ → List ℕ → Ordering) (v : State) (tables : List NumberedContents) (choice : RowChoice) (old new : T) (before middle now : ℕ) (r : Result (Unit {0}) Fault) → middle ≡ before
    → IsScan cmp v tables choice (telling_by tells old new) (counts_by middle now) r → IsScan cmp v tables choice (telling_by tells old new) (counts_by before now) r
scan_since tells cmp v tables choice old new before middle now r same h = subst (λ (n : ℕ). IsScan cmp v tables choice (telling_by tells old new) (counts_by n now) r) same h

-- the tables with which the version is lawful
pub record LawfulTables (cmp : List ℕ → List ℕ → Ordering) (files : Files) (v : State) : Type 0 where
  pub loaded : List (ℕ × List ℕ)
  pub tables : List NumberedContents
  pub there : IsLoaded (IsFileIn files) (file_numbers cmp v) (Ok loaded)
  pub lawful : IsLawfulTables cmp v loaded (Ok tables)

no_refusal : {Y : Type 0} (y : Y) (e : Fault) → Ok y ≡ failed e → ⊥
no_refusal y e h = cc

pub lawful_tables : (cmp : List ℕ → List ℕ → Ordering) (files : Files) (v : State) (tested : VersionTotals) → IsTested (IsFileIn files) cmp v (Ok tested) → LawfulTables cmp files v
lawful_tables cmp files v tested (Ok loaded, (there, (Ok tables, h))) = record { loaded = loaded; tables = tables; there = there; lawful = h.0 }
lawful_tables cmp files v tested (Ok loaded, (there, (Err e, h))) = absurd (no_refusal tested e h.1)
lawful_tables cmp files v tested (Err e, h) = absurd (no_refusal tested e h.1)

-- the same files, as a folder tells them
pub loaded_told : (told : List ℕ → Option (List ℕ) → Type 0) (files : Files) (numbers : List ℕ) (r : Result (List (ℕ × List ℕ)) Fault) → Tells told files → IsLoaded (IsFileIn files) numbers r → IsLoaded told numbers r
loaded_told told files numbers r all h = loaded_before told (IsFileIn files) numbers r all h

-- ---- a table's refusal isn't Device

pub other_refusal : {X : Type 0} (cmp : List ℕ → List ℕ → Ordering) (loaded : List (ℕ × List ℕ)) (r : Result X Fault) (e : Fault) → IsErrAnd r (λ f. f ≡ e) → FailsOrMemory e (tables_reading cmp loaded) → IfErr r (λ f. f.name ≢ Device)
other_refusal cmp loaded (Ok x) e is given = absurd is
other_refusal cmp loaded (Err f) e is given = λ same.
    let named : e.name ≡ Device = sym (ap (λ (d : Fault). d.name) is) ∙ same in
    no_device cmp loaded e (unless_device e (tables_reading cmp loaded ≡ Err e) named given) named

-- what only the device or memory refuse, after a call that refuses so too
pub stopped_or : {X : Type 0} (before middle now : ℕ) (r : Result X Fault) (e : Fault) → IsErrAnd r (λ f. f ≡ e) → before ≤ middle → middle ≤ now → UnlessMemory e (IsStopped middle now e ⊎ ⊥) → IfErr r (λ e. UnlessMemory e (IsStopped before now e))
stopped_or before middle now r e is one two given =
    stopped_handed before middle now r e is one two (unless_from e (IsStopped middle now e ⊎ ⊥) (IsStopped middle now e) (λ g. elim g [ inl stopped ↦ stopped | inr none ↦ absurd none ]) given)

-- what holds of a refusal holds of what `?` hands on
pub handed_err : {X : Type 0} (r : Result X Fault) (e : Fault) (P : Fault → Type 0) → IsErrAnd r (λ f. f ≡ e) → P e → IsErrAnd r P
handed_err (Ok x) e P is h = absurd is
handed_err (Err f) e P is h = subst P (sym is) h
