-- The edit's bytes read as it, and reads survive.
use Rattle.std.proofs.Common.{◌≡◌, ℕ, ◌+◌, ◌-◌, ◌<◌, ◌≤◌, ◌^◌, true, List, [], ◌∷◌, length, map, Some, Ok, sym, ap, subst, ◌∙◌, arith}
use Rattle.std.specs.Prelude.{Contains, nat_lt, nat_le}
use Rattle.std.specs.List.{All, AllByRecursion, list_all}
use Rattle.std.specs.List.Sorted.{IsStrictlySortedBy}
use Rattle.std.specs.Cmp.{IsTotalOrder}
use Rattle.std.specs.declared.cmp.Ordering.{Ordering}
use Rattle.std.proofs.lemmas.Bool.Decides.{nat_tests}
use Rattle.std.proofs.lemmas.Cmp.{nat_cmp_total, on_total, then_total}
use Rattle.std.proofs.lemmas.List.Elements.{All-contains}
use Rattle.std.proofs.lemmas.List.{length-map}
use Rattle.ikey.specs.Answers.{◌>>=◌}
use Rattle.ikey.specs.fault.FaultName.TheVariants.{NoInput, Level, Options, Snapshot, SnapshotList}
use Rattle.ikey.specs.Comparator.{ShortKeys, IsExact}
use Rattle.ikey.specs.Key.{IsInternalKey}
use Rattle.table.specs.EncodedEntry.{Entry}
use Rattle.table.specs.ReadBackLaw.{ReadBackLaw}
use Rattle.table.specs.EntryTests.{is_some_list}
use Rattle.table.specs.TestResult.{test_result}
use Rattle.table.proofs.EntryTests.{passed}
use Rattle.edit.specs.Edit.{Edit, IsEdit, deleted_cmp}
use Rattle.edit.specs.Field.{Field, DeleteFile, AddFile, IsField}
use Rattle.edit.specs.Version.{State, applied}
use Rattle.edit.specs.declared.meta.DeletedFile.{DeletedFile}
use Rattle.edit.specs.declared.meta.FileMeta.{FileMeta}
use Rattle.edit.specs.declared.meta.NewFile.{NewFile}
use Rattle.edit.proofs.Edits.{one_edit}
use Rattle.edit.proofs.Inserted.{sorted_all}
use Rattle.edit.proofs.Written.{fields_lawful, reads_back}
use Rattle.pick.specs.PickedInputs.{IsPicked}
use Rattle.pick.proofs.Lists.{and_first}
use Rattle.reads.specs.Lawful.{IsLawful}
use Rattle.reads.specs.Tables.{NumberedContents}
use Rattle.reads.proofs.FallingEntries.{each_of}
use Rattle.reads.proofs.Members.{later_in, first_in, from_map}
use Rattle.compact.specs.OutputTables.{Output}
use Rattle.compact.specs.Request.{RequestView, has_levels, has_options, has_snapshots, is_snapshot_list, named_by, request_test}
use Rattle.compact.specs.EditOf.{deletion_of, deletions_of, edit_of, new_file, new_files}
use Rattle.compact.specs.OneThread.{Answer, one_thread}
use Rattle.compact.specs.EditAfter.{version_after}
use Rattle.compact.specs.RequestOverVersion.{IsOver, AreWritten, HoldOutputs}
use Rattle.compact.specs.SurvivingReads.{ClosedReadsSurvive, KeepsReads, LeavesClosedReads, LeavesReads, ReadsSurvive}
use Rattle.compact.proofs.AppliedEdit.{edited, from_deletions, numbered_to}
use Rattle.compact.proofs.SafeInputs.{AreSafe, closed_safe, picked_safe}
use Rattle.compact.proofs.PickedChoice.{picked_over}
use Rattle.compact.proofs.VersionInputs.{below_first}
use Rattle.compact.proofs.LawfulAfter.{has_ends, reads_as_before}
use Rattle.compact.proofs.Outputs.{hold_outputs, stepped}

all_mapped : {X : Type 0} (P : Field → Type 0) (field : X → Field) (xs : List X) → ((x : X) → Contains xs x → P (field x)) → AllByRecursion P (map field xs)
all_mapped P field [] h = tt
all_mapped P field (x ∷ xs) h = (h x (first_in x xs), all_mapped P field xs (λ y at. h y (later_in x xs y at)))

none_sorted : IsStrictlySortedBy deleted_cmp []
unfolding IsStrictlySortedBy
none_sorted = tt

deleted_total : IsTotalOrder deleted_cmp
deleted_total = then_total (on_total (λ (f : DeletedFile). f.level) nat_cmp_total) (on_total (λ (f : DeletedFile). f.number) nat_cmp_total)

low_told : (m n : ℕ) → nat_le m n ≡ true → m ≤ n
low_told m n h = grind (arith, nat_tests)

below_told : (m n : ℕ) → nat_lt m n ≡ true → m < n
below_told m n h = grind (arith, nat_tests)

-- what the tests of a request tell
record IsTested (r : RequestView) : Type 0 where
  level : r.picked.level ≤ 5
  last_sequence : r.last_sequence < 2 ^ 56 - 1

tested : (cmp : List ℕ → List ℕ → Ordering) (r : RequestView) → request_test cmp r ≡ Ok tt → IsTested r
tested cmp r h =
    let some = is_some_list r.picked.files in
    let levels = has_levels r.picked in
    let options = has_options cmp r in
    let snapshots = has_snapshots r in
    let list = is_snapshot_list r.snapshots r.last_sequence in
    let first = stepped (test_result some NoInput) (λ _. test_result levels Level >>= λ _. test_result options Options >>= λ _. test_result snapshots Snapshot >>= λ _. test_result list SnapshotList) tt h in
    let second = stepped (test_result levels Level) (λ _. test_result options Options >>= λ _. test_result snapshots Snapshot >>= λ _. test_result list SnapshotList) tt first.goes_on in
    let third = stepped (test_result options Options) (λ _. test_result snapshots Snapshot >>= λ _. test_result list SnapshotList) tt second.goes_on in
    let fourth = stepped (test_result snapshots Snapshot) (λ _. test_result list SnapshotList) tt third.goes_on in
    record {
      level = low_told r.picked.level 5 (and_first (nat_le r.picked.level 5) (list_all _ r.picked.files) (passed levels Level second.value second.is));
      last_sequence = below_told r.last_sequence (2 ^ 56 - 1) (and_first (nat_lt r.last_sequence (2 ^ 56 - 1)) (list_all _ (named_by r.snapshots)) (passed snapshots Snapshot fourth.value fourth.is));
    }

module _ (cmp : List ℕ → List ℕ → Ordering) (total : IsTotalOrder cmp) (exact : IsExact cmp) (short_keys : ShortKeys)
    (v : State) (tables : List NumberedContents) (r : RequestView) (answer : Answer)
    (lawful : IsLawful cmp v tables) (low : All (λ (f : NewFile). f.level ≤ 6) v.files) (safe : AreSafe cmp v tables r.picked) (over : IsOver v tables r)
    (held : HoldOutputs cmp short_keys tables r answer) where
  abbrev edit : Edit
  edit = edit_of r (new_files r held.outputs)

  is_tested : IsTested r
  is_tested = tested cmp r held.tested

  first_low : r.first_number < 2 ^ 64
  first_low = let few = held.few in omega (arith, few)

  deletions : AllByRecursion IsField (map DeleteFile (deletions_of r.picked.files))
  deletions = all_mapped IsField DeleteFile (deletions_of r.picked.files) each
    where
      each : (d : DeletedFile) → Contains (deletions_of r.picked.files) d → IsField (DeleteFile d)
      each d at =
          let i = from_deletions cmp total v tables r.picked lawful safe.placed d at in
          let f = safe.placed i.0 i.1 in
          let six : f.file.level ≤ 6 = All-contains (λ (x : NewFile). x.level ≤ 6) v.files f.file low f.there in
          let levels : f.file.level ≡ d.level = f.stands ∙ ap (λ (x : DeletedFile). x.level) i.2 in
          let lt = below_first cmp v tables lawful r.first_number over.numbers f.file f.there in
          let numbers : f.file.meta.number ≡ d.number = ap (λ (m : FileMeta). m.number) f.is ∙ ap (λ (x : DeletedFile). x.number) i.2 in
          let limit = first_low in
          (omega (arith, six, levels), omega (arith, lt, numbers, limit))

  additions : AllByRecursion IsField (map AddFile (new_files r held.outputs))
  additions = all_mapped IsField AddFile (new_files r held.outputs) (λ f at. let x = from_map (new_file (r.picked.level + 1)) held.outputs f at in subst (λ (g : NewFile). IsField (AddFile g)) x.is (each x.source x.there))
    where
      each : (q : Output) → Contains held.outputs q → IsField (AddFile (new_file (r.picked.level + 1) q))
      each q at =
          let w = All-contains (λ (x : Output). AreWritten cmp x.bytes x.entries) held.outputs q held.written at in
          let ends = has_ends q.entries w.some in
          let small = w.small in
          let lt = numbered_to r.first_number held.outputs held.numbered q at in
          let few = held.few in
          let five = is_tested.level in
          let key : (e : Entry) → Contains q.entries e → IsInternalKey e.key = λ e i. each_of (λ (x : Entry). IsInternalKey x.key) q.entries w.keys e i in
          (omega (arith, five), omega (arith, lt, few), omega (arith, small), subst IsInternalKey ends.first_key_is (key ends.first ends.first_there), subst IsInternalKey ends.last_key_is (key ends.last ends.last_there))

  pub edit_is : IsEdit answer.edit edit
  edit_is =
      let five = is_tested.level in
      let low_sequence = is_tested.last_sequence in
      let sorted : IsStrictlySortedBy deleted_cmp (deletions_of r.picked.files) = sorted_all deleted_cmp deleted_total [] (map deletion_of r.picked.files) none_sorted in
      let few : r.first_number + length (new_files r held.outputs) < 2 ^ 64 =
      subst (λ (n : ℕ). r.first_number + n < 2 ^ 64) (sym (length-map held.outputs (new_file (r.picked.level + 1)))) held.few in
      subst (λ (bytes : List ℕ). IsEdit bytes edit) (sym held.answer_edit) (reads_back edit sorted (fields_lawful edit (over.log_number, (over.previous_log, (few, (omega (arith, low_sequence), tt)))) ((omega (arith, five), safe.pointer), tt) deletions additions))

  made : applied v edit ≡ Some (version_after v r held.outputs)
  made = edited cmp total v tables r held.outputs lawful safe.placed over.numbers held.numbered

  pub edit_reads : (e : Edit) × IsEdit answer.edit e
  edit_reads = (edit, edit_is)

  pub survive : (e : Edit) → IsEdit answer.edit e → KeepsReads cmp v tables r answer e
  survive e is =
      let same : edit ≡ e = one_edit answer.edit edit e edit_is is in
      let reads = reads_as_before cmp total exact short_keys v tables r answer lawful safe over held low in
      record {
        after = version_after v r held.outputs;
        is_after = ap (applied v) (sym same) ∙ made;
        lawful_after = reads.lawful;
        gets_after = reads.gets;
      }

-- the edit of picked inputs
pub is_edit : (cmp : List ℕ → List ℕ → Ordering) (total : IsTotalOrder cmp) (exact : IsExact cmp) (short_keys : ShortKeys) (v : State) (tables : List NumberedContents) (level : ℕ) (r : RequestView) (answer : Answer)
    (lawful : IsLawful cmp v tables) (low : All (λ (f : NewFile). f.level ≤ 6) v.files) (picked : IsPicked cmp v level r.picked) (over : IsOver v tables r) (held : HoldOutputs cmp short_keys tables r answer)
    → IsEdit answer.edit (edit_of r (new_files r held.outputs))
is_edit cmp total exact short_keys v tables level r answer lawful low picked over held =
    edit_is cmp total exact short_keys v tables r answer lawful low (picked_safe cmp total v tables level r.picked lawful low picked) over held

module _ (cmp : List ℕ → List ℕ → Ordering) (total : IsTotalOrder cmp) (exact : IsExact cmp) (short_keys : ShortKeys) (reads_back : ReadBackLaw cmp short_keys) (r : RequestView) (answer : Answer) (answers : one_thread cmp short_keys r ≡ Ok answer) where
  safe_reads : (v : State) (tables : List NumberedContents) → IsLawful cmp v tables → All (λ (f : NewFile). f.level ≤ 6) v.files → AreSafe cmp v tables r.picked → IsOver v tables r → (e : Edit) × IsEdit answer.edit e
  safe_reads v tables lawful low safe over = edit_reads cmp total exact short_keys v tables r answer lawful low safe over (hold_outputs cmp total exact short_keys reads_back v tables r answer lawful safe.placed over answers)

  safe_survives : (v : State) (tables : List NumberedContents) (e : Edit) → IsLawful cmp v tables → All (λ (f : NewFile). f.level ≤ 6) v.files → AreSafe cmp v tables r.picked → IsOver v tables r → IsEdit answer.edit e → KeepsReads cmp v tables r answer e
  safe_survives v tables e lawful low safe over is = survive cmp total exact short_keys v tables r answer lawful low safe over (hold_outputs cmp total exact short_keys reads_back v tables r answer lawful safe.placed over answers) e is

  pub closed_leave : LeavesClosedReads cmp r answer
  closed_leave = record {
    reads = λ v tables lawful low inputs over. safe_reads v tables lawful low (closed_safe cmp total v tables r.picked lawful inputs) over;
    survives = λ v tables e lawful low inputs over is. safe_survives v tables e lawful low (closed_safe cmp total v tables r.picked lawful inputs) over is;
  }

pub closed_reads_survive : (cmp : List ℕ → List ℕ → Ordering) → IsTotalOrder cmp → IsExact cmp → (short_keys : ShortKeys) → ReadBackLaw cmp short_keys → ClosedReadsSurvive cmp short_keys
closed_reads_survive cmp total exact short_keys reads_back r answer answers = closed_leave cmp total exact short_keys reads_back r answer answers

-- what survives of closed inputs survives of picked ones, which are closed
pub picked_leave : (cmp : List ℕ → List ℕ → Ordering) (total : IsTotalOrder cmp) (r : RequestView) (answer : Answer) → LeavesClosedReads cmp r answer → LeavesReads cmp r answer
picked_leave cmp total r answer leaves = record {
  reads = λ v tables level lawful low picked over. leaves.reads v tables lawful low (picked_over cmp total v tables level r.picked lawful low picked) over;
  survives = λ v tables level e lawful low picked over is. leaves.survives v tables e lawful low (picked_over cmp total v tables level r.picked lawful low picked) over is;
  of_closed = leaves;
}

pub reads_survive : (cmp : List ℕ → List ℕ → Ordering) → IsTotalOrder cmp → IsExact cmp → (short_keys : ShortKeys) → ReadBackLaw cmp short_keys → ReadsSurvive cmp short_keys
reads_survive cmp total exact short_keys reads_back r answer answers = picked_leave cmp total r answer (closed_reads_survive cmp total exact short_keys reads_back r answer answers)
