-- A host that makes these calls, and one thread.
use Rattle.std.proofs.Common.{◌≡◌, ℕ, suc, Bool, true, false, List, [], ◌∷◌, ◌++◌, map, take, drop, length, Some, Result, Ok, Err, refl, sym, ap, ◌∙◌, append_assoc}
use Rattle.std.specs.Prelude.{nat_eq, nat_le, ◌&&◌, cond, if◌then◌else◌}
use Rattle.std.specs.List.{list_all}
use Rattle.std.specs.declared.cmp.Ordering.{Ordering}
use Rattle.std.proofs.Math.Seq.{drop-append_seam, take-append_seam}
use Rattle.ikey.specs.Answers.{◌>>=◌, fault}
use Rattle.ikey.specs.Comparator.{ShortKeys}
use Rattle.ikey.specs.fault.Fault.{Fault}
use Rattle.ikey.specs.fault.FaultName.TheVariants.{Duplicate, NoInput, Level, Options, Snapshot, SnapshotList}
use Rattle.table.specs.EntryTests.{is_some_list}
use Rattle.table.specs.Options.{are_in_limits}
use Rattle.table.specs.Table.{table}
use Rattle.table.specs.TestResult.{test_result}
use Rattle.reads.specs.EncodedEntry.{Entry}
use Rattle.reads.specs.MergedLists.{merged}
use Rattle.reads.specs.Union.{VersionsRise}
use Rattle.reads.specs.Ranges.{KeyRange}
use Rattle.reads.specs.Boundaries.{IsSplit}
use Rattle.merge.specs.InRange.{entries_in}
use Rattle.keep.specs.Marks.{CompactionContext, largest_rise}
use Rattle.keep.specs.Runs.{DistinctLaw, RangesCompose, Run, are_distinct, joined_run, range_run, ranges_of, run_of, runs_of}
use Rattle.keep.specs.declared.mark.Mark.{Mark}
use Rattle.cut.specs.Outputs.{RangesCutLaw, outputs, outputs_of}
use Rattle.compact.specs.Inputs.{union_reading}
use Rattle.compact.specs.OneThread.{Answer, one_thread, outputs_answer}
use Rattle.compact.specs.OutputTables.{outputs_from}
use Rattle.compact.specs.RangeMerges.{runs_reading}
use Rattle.compact.specs.Request.{RequestView, below_request, has_levels, has_snapshots, is_snapshot_list, request_test}
use Rattle.compact.specs.declared.request_conditions.TheConstants.{MAX_INPUTS}
use Rattle.c_api.specs.Hosts.{HostLaw, host_answer, merges_reading, range_reading, thread_request}
use Rattle.c_api.specs.Merges.{AskedMerge, context_at, inputs_result, request_result, table_at}
use Rattle.c_api.specs.Requests.{files_of, no_table, pointed_test, pointer_of, request_with}
use Rattle.c_api.specs.Runs.{arrays_of, bytes_of, lengths_of, mark_of}
use Rattle.c_api.specs.ToldRuns.{after_entry, entries_told, first_entry, mark_told, run_told}
use Rattle.c_api.specs.declared.input.Input.{Input}
use Rattle.c_api.specs.declared.run_arrays.EntryLengths.{EntryLengths}

-- ---- what is read back

abbrev pub told_lengths : List ℕ → List ℕ → EntryLengths
told_lengths k v = record { key = length k; value = length v }

abbrev told_entry : List ℕ → List ℕ → Entry
told_entry k v = record { key = k; value = v }

entry_back : (k v rest : List ℕ) → first_entry (k ++ (v ++ rest)) (told_lengths k v) ≡ told_entry k v
entry_back k v rest =
    ap (λ (x : List ℕ). told_entry x (take (length v) (drop (length k) (k ++ (v ++ rest))))) (take-append_seam k (v ++ rest))
    ∙ ap (λ (x : List ℕ). told_entry k x) (ap (take (length v)) (drop-append_seam k (v ++ rest)) ∙ take-append_seam v rest)

pub behind_back : (k v rest : List ℕ) → after_entry (k ++ (v ++ rest)) (told_lengths k v) ≡ rest
behind_back k v rest = ap (drop (length v)) (drop-append_seam k (v ++ rest)) ∙ drop-append_seam v rest

entries_back : (es : List Entry) → entries_told (bytes_of es) (map lengths_of es) ≡ es
entries_back [] = refl
entries_back (e ∷ es) =
    let rest : List ℕ = bytes_of es in
    let ls : List EntryLengths = map lengths_of es in
    ap (λ (bs : List ℕ). entries_told bs (lengths_of e ∷ ls)) (append_assoc e.key e.value rest)
    ∙ ap (λ (x : Entry). x ∷ entries_told (after_entry (e.key ++ (e.value ++ rest)) (lengths_of e)) ls) (entry_back e.key e.value rest)
    ∙ ap (λ (bs : List ℕ). e ∷ entries_told bs ls) (behind_back e.key e.value rest)
    ∙ ap (λ (xs : List Entry). e ∷ xs) (entries_back es)

marks_back : (ms : List Mark) → map mark_told (map mark_of ms) ≡ ms
marks_back [] = refl
marks_back (m ∷ ms) = ap (λ (l : List Mark). m ∷ l) (marks_back ms)

-- what is written of a run is read back
pub run_back : (run : Run) → run_told (arrays_of run) ≡ run
run_back run =
    ap (λ (es : List Entry). let r : Run = record { kept = es; marks = map mark_told (map mark_of run.marks) } in r) (entries_back run.kept)
    ∙ ap (λ (ms : List Mark). let r : Run = record { kept = run.kept; marks = ms } in r) (marks_back run.marks)

-- ---- steps

as_many : (tables : List ℕ) (is : List Input) → length (map (table_at tables) is) ≡ length (map no_table (files_of is))
as_many tables [] = refl
as_many tables (i ∷ is) = ap suc (as_many tables is)

-- a refusal of the first of two steps
step_refused : {A B D : Type 0} (u : Result A Fault) (f : A → B) (k : A → Result D Fault) (e : Fault) → (u >>= λ x. Ok (f x)) ≡ Err e → (u >>= k) ≡ Err e
step_refused (Ok x) f k e h = absurd cc
step_refused (Err d) f k e h = cc

abbrev unless_twice : {A : Type 0} → Bool → A → Result A Fault
unless_twice distinct x = cond distinct (Ok x) (Err (fault Duplicate))

step : {A : Type 0} (here rest : Bool) (x : A) (xs : List A)
    → ((unless_twice here x) >>= λ v. (unless_twice rest xs) >>= λ vs. Ok (v ∷ vs)) ≡ unless_twice (here && rest) (x ∷ xs)
step true true x xs = refl
step true false x xs = refl
step false rest x xs = refl

last_step : {A B : Type 0} (distinct : Bool) (x : A) (f : A → B) → ((unless_twice distinct x) >>= λ u. Ok (f u)) ≡ unless_twice distinct (f x)
last_step true x f = refl
last_step false x f = refl

module _ (cmp : List ℕ → List ℕ → Ordering) (b : CompactionContext) where
  abbrev pub by_range : Result (List (List Entry)) Fault → KeyRange → Result Run Fault
  by_range read range = read >>= λ entries. range_run cmp b entries range

  -- the runs of all ranges
  abbrev pub by_ranges : Result (List (List Entry)) Fault → List KeyRange → Result (List Run) Fault
  by_ranges read [] = Ok []
  by_ranges read (range ∷ ranges) = by_range read range >>= λ run. by_ranges read ranges >>= λ runs. Ok (run ∷ runs)

  abbrev parts : List (List Entry) → List KeyRange → List (List Entry)
  parts inputs ranges = map (λ (range : KeyRange). entries_in cmp range (merged cmp inputs)) ranges

  each_merged : (inputs : List (List Entry)) (ranges : List KeyRange) → by_ranges (Ok inputs) ranges ≡ unless_twice (list_all are_distinct (parts inputs ranges)) (map (run_of cmp b) (parts inputs ranges))
  each_merged inputs [] = refl
  each_merged inputs (range ∷ ranges) =
      ap (λ (rest : Result (List Run) Fault). range_run cmp b inputs range >>= λ run. rest >>= λ runs. Ok (run ∷ runs)) (each_merged inputs ranges)
      ∙ step (are_distinct (entries_in cmp range (merged cmp inputs))) (list_all are_distinct (parts inputs ranges)) (run_of cmp b (entries_in cmp range (merged cmp inputs))) (map (run_of cmp b) (parts inputs ranges))

  pub all_merged : RangesCompose cmp → (inputs : List (List Entry)) (boundaries : List (List ℕ)) → IsSplit cmp boundaries → by_ranges (Ok inputs) (ranges_of boundaries) ≡ runs_reading cmp b boundaries inputs
  all_merged compose inputs boundaries split =
      each_merged inputs (ranges_of boundaries)
      ∙ ap (λ (d : Bool). unless_twice d (runs_of cmp b boundaries (merged cmp inputs))) (compose.refused inputs boundaries split)
      ∙ sym (last_step (are_distinct (merged cmp inputs)) (merged cmp inputs) (λ union. runs_of cmp b boundaries union))

  -- the runs of all ranges are those of entries that were read
  pub record ReadRuns (read : Result (List (List Entry)) Fault) (boundaries : List (List ℕ)) (runs : List Run) : Type 0 where
    pub entries : List (List Entry)
    pub is : read ≡ Ok entries
    pub runs_are : by_ranges (Ok entries) (ranges_of boundaries) ≡ Ok runs

  pub read_runs : (read : Result (List (List Entry)) Fault) (boundaries : List (List ℕ)) (runs : List Run) → by_ranges read (ranges_of boundaries) ≡ Ok runs → ReadRuns read boundaries runs
  read_runs (Ok entries) boundaries runs h = record { entries = entries; is = refl; runs_are = h }
  read_runs (Err e) [] runs h = absurd cc
  read_runs (Err e) (k ∷ ks) runs h = absurd cc

  pub refused_runs : {D : Type 0} (k : List Entry → Result D Fault) → RangesCompose cmp → (read : Result (List (List Entry)) Fault) (boundaries : List (List ℕ)) (e : Fault) → IsSplit cmp boundaries
      → by_ranges read (ranges_of boundaries) ≡ Err e → (read >>= λ lists. (union_reading cmp lists >>= k)) ≡ Err e
  refused_runs k compose (Ok entries) boundaries e split h =
      let same : runs_reading cmp b boundaries entries ≡ Err e = sym (all_merged compose entries boundaries split) ∙ h in
      step_refused (union_reading cmp entries) (runs_of cmp b boundaries) k e same
  refused_runs k compose (Err d) [] e split h = cc
  refused_runs k compose (Err d) (x ∷ xs) e split h = cc

-- a union that was read
abbrev if_distinct : Bool → List Entry → Result (List Entry) Fault
if_distinct d mg = if d then Ok mg else Err (fault Duplicate)

pub record United (d : Bool) (mg : List Entry) (f : List Entry → List Run) (k : List Entry → Result Answer Fault) (runs : List Run) : Type 0 where
  pub distinct : d ≡ true
  pub runs_are : f mg ≡ runs
  pub goes_on : (if_distinct d mg >>= k) ≡ k mg

pub united : (d : Bool) (mg : List Entry) (f : List Entry → List Run) (k : List Entry → Result Answer Fault) (runs : List Run) → (if_distinct d mg >>= λ u. Ok (f u)) ≡ Ok runs → United d mg f k runs
united true mg f k runs h = record { distinct = refl; runs_are = cc; goes_on = refl }
united false mg f k runs h = absurd cc

-- the merges of a request
pub merges_are : (cmp : List ℕ → List ℕ → Ordering) (m : AskedMerge) (ranges : List KeyRange) → by_ranges cmp (context_at cmp m) (inputs_result m cmp) ranges ≡ merges_reading cmp m ranges
merges_are cmp m [] = refl
merges_are cmp m (range ∷ ranges) =
    ap (λ (rest : Result (List Run) Fault). range_reading cmp m range >>= λ run. rest >>= λ runs. Ok (run ∷ runs)) (merges_are cmp m ranges)

module _ (cmp : List ℕ → List ℕ → Ordering) (short_keys : ShortKeys) (m : AskedMerge) (key : List ℕ) (first log previous : ℕ) (pointer : pointer_of cmp m.keys m.request.level (files_of m.inputs) ≡ Some key) where
  abbrev asked : RequestView
  asked = request_with cmp m.keys m.request m.snapshots (files_of m.inputs) m.deeper key

  abbrev whole : RequestView
  whole = thread_request cmp m key first log previous

  -- the tests of a request with so many tables
  abbrev test_with : ℕ → Result (Unit {0}) Fault
  test_with n =
      test_result (is_some_list asked.picked.files) NoInput >>= λ _. (test_result (has_levels asked.picked) Level >>= λ _.
      (test_result (are_in_limits asked.options && nat_le (length asked.picked.files) MAX_INPUTS && nat_eq n (length asked.picked.files) && largest_rise cmp asked.picked.grandparents) Options >>= λ _.
      (test_result (has_snapshots asked) Snapshot >>= λ _. test_result (is_snapshot_list asked.snapshots asked.last_sequence) SnapshotList)))

  tests_same : request_test cmp whole ≡ request_test cmp asked
  tests_same = ap test_with (as_many m.tables m.inputs)

  pub result_is : request_test cmp whole ≡ request_result m cmp
  result_is = tests_same ∙ sym (ap (pointed_test cmp m.keys m.request m.snapshots (files_of m.inputs) m.deeper) pointer)

  abbrev ending : List Entry → Result Answer Fault
  ending union = outputs_answer whole (outputs_from (table cmp short_keys whole.options) whole.first_number (outputs cmp (below_request whole) whole.options union))

  abbrev behind : Result (Unit {0}) Fault → Result Answer Fault
  behind t = t >>= λ _. (inputs_result m cmp >>= λ lists. (union_reading cmp lists >>= ending))

  pub host_tested : (e : Fault) → request_result m cmp ≡ Err e → one_thread cmp short_keys whole ≡ Err e
  host_tested e h = ap behind (result_is ∙ h)

  pub host_unread : request_result m cmp ≡ Ok tt → (e : Fault) → inputs_result m cmp ≡ Err e → one_thread cmp short_keys whole ≡ Err e
  host_unread passed e h = ap behind (result_is ∙ passed) ∙ ap (λ (i : Result (List (List Entry)) Fault). i >>= λ lists. (union_reading cmp lists >>= ending)) h

  module _ (passed : request_result m cmp ≡ Ok tt) (boundaries : List (List ℕ)) (split : IsSplit cmp boundaries) where
    pub host_refused : RangesCompose cmp → (e : Fault) → merges_reading cmp m (ranges_of boundaries) ≡ Err e → one_thread cmp short_keys whole ≡ Err e
    host_refused compose e h = ap behind (result_is ∙ passed) ∙ refused_runs cmp (context_at cmp m) ending compose (inputs_result m cmp) boundaries e split (merges_are cmp m (ranges_of boundaries) ∙ h)

    pub host_merged : RangesCompose cmp → DistinctLaw cmp → RangesCutLaw cmp → (runs : List Run) → merges_reading cmp m (ranges_of boundaries) ≡ Ok runs → one_thread cmp short_keys whole ≡ host_answer cmp short_keys whole runs
    host_merged compose distinct cut runs h =
        let r = read_runs cmp (context_at cmp m) (inputs_result m cmp) boundaries runs (merges_are cmp m (ranges_of boundaries) ∙ h) in
        let same : runs_reading cmp (context_at cmp m) boundaries r.entries ≡ Ok runs = sym (all_merged cmp (context_at cmp m) compose r.entries boundaries split) ∙ r.runs_are in
        let mg : List Entry = merged cmp r.entries in
        let b : CompactionContext = context_at cmp m in
        let u = united (are_distinct mg) mg (runs_of cmp b boundaries) ending runs same in
        let rising : VersionsRise cmp mg = ((distinct r.entries mg).1 (refl, u.distinct)).rising in
        let cut_is : outputs_of whole.picked.grandparents whole.options (joined_run runs) ≡ outputs cmp b whole.options mg =
        ap (λ (rs : List Run). outputs_of whole.picked.grandparents whole.options (joined_run rs)) (sym u.runs_are) ∙ cut b whole.options boundaries mg split rising in
        ap behind (result_is ∙ passed)
        ∙ ap (λ (i : Result (List (List Entry)) Fault). i >>= λ lists. (union_reading cmp lists >>= ending)) r.is
        ∙ u.goes_on
        ∙ ap (λ (os : List (List Entry)). outputs_answer whole (outputs_from (table cmp short_keys whole.options) whole.first_number os)) (sym cut_is)

pub host_holds : (cmp : List ℕ → List ℕ → Ordering) (short_keys : ShortKeys) → RangesCompose cmp → DistinctLaw cmp → RangesCutLaw cmp → HostLaw cmp short_keys
host_holds cmp short_keys compose distinct cut = record {
  tested = λ m key first log previous e pointer h. host_tested cmp short_keys m key first log previous pointer e h;
  refused = λ m key first log previous boundaries e pointer passed split h. host_refused cmp short_keys m key first log previous pointer passed boundaries split compose e h;
  merged = λ m key first log previous boundaries runs pointer passed split h. host_merged cmp short_keys m key first log previous pointer passed boundaries split compose distinct cut runs h;
  read_back = run_back;
}
