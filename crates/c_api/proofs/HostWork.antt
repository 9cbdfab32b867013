-- A compaction that a host makes by these calls, and what one thread answers.
use Rattle.std.proofs.Common.{◌≡◌, ◌≢◌, ℕ, suc, ◌+◌, ◌<◌, ◌≤◌, ◌^◌, Bool, true, false, ◌&&◌, List, [], ◌∷◌, ◌++◌, map, take, drop, length, Option, Some, None, Result, Ok, Err, refl, sym, ap, subst, ◌∙◌, inl, inr, arith, ◌-◌}
use Rattle.std.specs.Prelude.{◌⊎◌, Contains, nat_eq, nat_le, nat_lt, if◌then◌else◌, MatchBool}
use Rattle.std.specs.Cmp.{IsTotalOrder}
use Rattle.std.specs.List.{AllByRecursion, filter, list_all}
use Rattle.std.specs.declared.cmp.Ordering.{Ordering}
use Rattle.std.proofs.lemmas.Bool.{and_parts, le-leb, leb-true, lt-ltb, and_from}
use Rattle.std.proofs.lemmas.List.{length-append, length-map, length-drop, drop-append-le, take-append-le}
use Rattle.std.proofs.lemmas.List.Elements.{All-contains}
use Rattle.std.proofs.lemmas.List.Folds.{list_all-map}
use Rattle.std.proofs.lemmas.List.Sums.{sum_by-cons}
use Rattle.std.proofs.lemmas.Simd.{map-map}
use Rattle.std.proofs.Math.Seq.{drop-append_seam, take-append_seam}
use Rattle.coding.specs.Saturated.{saturated}
use Rattle.ikey.specs.Answers.{◌>>=◌, fault}
use Rattle.ikey.specs.Comparator.{IsExact, KeyOrder, ShortKeys}
use Rattle.ikey.specs.Key.{internal_key_reading}
use Rattle.ikey.specs.fault.Fault.{Fault}
use Rattle.ikey.specs.fault.FaultName.TheVariants.{Empty, Level, Numbers as NoNumbers, Options, TooLarge, SplitCount}
use Rattle.table.specs.DataBlocks.{data_blocks}
use Rattle.table.specs.EncodedEntry.{Entry}
use Rattle.table.specs.EntriesFrom.{EntriesRise}
use Rattle.table.specs.EntryTests.{entries_test, is_some_list}
use Rattle.table.specs.Options.{AreInLimits, are_in_limits}
use Rattle.table.specs.Table.{table, within_limit}
use Rattle.table.specs.TestResult.{test_result}
use Rattle.table.specs.declared.options.Options as declared
use Rattle.table.proofs.NamedBlocks.{tests_of}
use Rattle.edit.specs.Edit.{Edit, edit_bytes}
use Rattle.edit.specs.declared.meta.FileMeta.{FileMeta}
use Rattle.edit.specs.declared.meta.NewFile.{NewFile}
use Rattle.pick.specs.Boundaries.{largest_key}
use Rattle.pick.specs.declared.picked_inputs.InputFile.{InputFile}
use Rattle.reads.specs.MergedLists.{entries_of_lists}
use Rattle.reads.specs.Ranges.{KeyRange}
use Rattle.reads.proofs.FallingEntries.{each_of, of_each}
use Rattle.reads.proofs.Members.{first_in, in_flat_map, later_in}
use Rattle.split.specs.Boundaries.{IsSplit}
use Rattle.keep.specs.Runs.{Run, joined_run, ranges_of}
use Rattle.keep.proofs.ComposedRanges.{ranges_compose_law}
use Rattle.keep.proofs.Distinct.{distinct_holds}
use Rattle.cut.specs.Outputs.{outputs_of}
use Rattle.cut.specs.Plan.{OutputView, parts, plan_of, planned_from}
use Rattle.cut.proofs.Apart.{whole_law}
use Rattle.cut.proofs.RepeatedMarks.{of_ranges}
use Rattle.compact.specs.EditOf.{deletions_of, edit_of, new_files}
use Rattle.compact.specs.EditOf.{new_file as output_file}
use Rattle.compact.specs.Inputs.{input_reading, inputs_reading, result_at_input}
use Rattle.compact.specs.OneThread.{Answer, one_thread, outputs_answer}
use Rattle.compact.specs.OutputTables.{Output, data_block_count, numbered_tables, outputs_from}
use Rattle.compact.specs.PassedRequest.{IsPassed}
use Rattle.compact.specs.Request.{RequestView}
use Rattle.compact.proofs.Outputs.{part_rises}
use Rattle.compact.proofs.PassedRequests.{passed_law}
use Rattle.c_api.specs.Boundaries.{AreBoundaries, AreChosen, AskedBoundaries, boundaries_test, count_test}
use Rattle.c_api.specs.Closed.{are_files, new_file}
use Rattle.c_api.specs.Codes.{coded}
use Rattle.c_api.specs.Edits.{edit_reading, edit_with, have_levels, pointed_edit}
use Rattle.c_api.specs.Files.{has_keys, meta_at, is_key_at}
use Rattle.c_api.specs.HostWork.{AreCopied, AreLentOutputs, HostWork, IsOrder, KeepsTo, LentOutput, all_answers, and_next, asked_edit, asked_plan, edit_call, entries_lent, files_told, host_result, is_output_lent, merge_of, merges_call, numbered_from, outputs_call, outputs_over, parts_told, plan_call, request_call, tables_call, CallsLaw}
use Rattle.c_api.specs.Hosts.{merges_reading, range_reading, thread_request}
use Rattle.c_api.specs.Merges.{AskedMerge, are_inputs, grandparents_in, inputs_result, merge_reading, request_result, table_at, AreChecked, merge_answer}
use Rattle.c_api.specs.Orders.{by_order, by_orders}
use Rattle.c_api.specs.Outputs.{output_answer, output_reading}
use Rattle.c_api.specs.Places.{part_at, is_within}
use Rattle.c_api.specs.Plans.{answer_told, is_plan_lent, outputs_told, plan_reading, whole_run}
use Rattle.c_api.specs.Ranges.{is_range, range_in}
use Rattle.c_api.specs.Requests.{files_of, input_file, is_of, metas_of, options_of, pointer_of, request_reading, request_answer}
use Rattle.c_api.specs.Runs.{Arrays, arrays_of}
use Rattle.c_api.specs.Tables.{counts_of, counts_reading, is_input, table_answer}
use Rattle.c_api.specs.ToldRuns.{arrays_at, has_parts, is_run, is_told, run_at, run_told}
use Rattle.c_api.specs.declared.code.TheConstants.{MISUSE}
use Rattle.c_api.specs.declared.edit_calls.Numbers.{Numbers}
use Rattle.c_api.specs.declared.file.File.{File}
use Rattle.c_api.specs.declared.input.Counts.{Counts}
use Rattle.c_api.specs.declared.input.Input.{Input}
use Rattle.c_api.specs.declared.plan_calls.PlannedOutput.{PlannedOutput}
use Rattle.c_api.specs.declared.run_places.RunPlaces.{RunPlaces}
use Rattle.c_api.specs.declared.user_range.UserRange.{UserRange}
use Rattle.c_api.proofs.HeldRuns.{all_told, fit, rise}
use Rattle.c_api.proofs.Hosts.{host_merged, host_refused, host_tested, result_is, run_back, host_unread}
use Rattle.c_api.proofs.Merging.{answered, keys_lent, three_true}
use Rattle.c_api.proofs.SparedFiles.{map_filter}
use Rattle.table.specs.Tallies.{tally_of}
use Rattle.std.specs.Result.{is_ok}
use Rattle.std.proofs.lemmas.Bool.Decides.{nat_tests}
use Rattle.ikey.specs.Bytewise.{bytewise_cmp, bytewise_short_keys}
use Rattle.ikey.specs.Shortlex.{shortlex_cmp, shortlex_short_keys}
use Rattle.table.proofs.EntryTests.{passed}
use Rattle.c_api.specs.declared.place.Place.{Place}
use Rattle.c_api.specs.declared.order.TheConstants.{BYTEWISE}

-- ---- answers

abbrev unit_of : {A : Type 0} → Result A ℕ → Result (Unit {0}) ℕ
unit_of (Ok x) = Ok tt
unit_of (Err n) = Err n

-- a value that isn't used
unused : {A B : Type 0} (r : Result A ℕ) (next : Result B ℕ) → and_next r (λ x. next) ≡ and_next (unit_of r) (λ none. next)
unused (Ok x) next = refl
unused (Err n) next = refl

-- the answer in an order, by its number
pub picked : {A : Type 0} (number : ℕ) (cmp : List ℕ → List ℕ → Ordering) (short_keys : ShortKeys) → IsOrder number cmp short_keys → (f : KeyOrder → ShortKeys → Result A Fault) → by_orders number f ≡ f cmp short_keys
picked number cmp short_keys (inl h) f =
    ap (λ (n : ℕ). by_orders n f) h.0 ∙ ap (λ (c : KeyOrder). f c bytewise_short_keys) (sym h.1) ∙ ap (λ (s : ShortKeys). f cmp s) (sym h.2)
picked number cmp short_keys (inr h) f =
    ap (λ (n : ℕ). by_orders n f) h.0 ∙ ap (λ (c : KeyOrder). f c shortlex_short_keys) (sym h.1) ∙ ap (λ (s : ShortKeys). f cmp s) (sym h.2)

abbrev lent_or_misuse : {A : Type 0} → Bool → Result A Fault → Result A ℕ
lent_or_misuse lent r = if lent then coded r else Err MISUSE

-- an answer that is coded
pub coded_ok : {A : Type 0} (r : Result A Fault) (x : A) → coded r ≡ Ok x → r ≡ Ok x
coded_ok (Ok y) x h = cc
coded_ok (Err e) x h = absurd cc

-- two steps that are coded
then_coded : {A : Type 0} (r : Result A Fault) (rs : Result (List A) Fault) → coded (r >>= λ x. rs >>= λ xs. Ok (x ∷ xs)) ≡ and_next (coded r) (λ x. and_next (coded rs) (λ xs. Ok (x ∷ xs)))
then_coded (Ok x) (Ok xs) = refl
then_coded (Ok x) (Err e) = refl
then_coded (Err e) rs = refl

-- ---- lists

each_told : {X : Type 0} (p : X → Bool) (xs : List X) → list_all p xs ≡ true → AllByRecursion (λ (x : X). p x ≡ true) xs
each_told p [] h = tt
each_told p (x ∷ xs) h = let k = and_parts (p x) (list_all p xs) h in (k.0, each_told p xs k.1)

-- ---- the tests

-- the test of a table, and of those behind it
one_table : (place : ℕ) (r : Result (List Entry) Fault) (f : List Entry → Counts) (others : Result (List Counts) ℕ) (rest : Result (List (List Entry)) Fault) → unit_of others ≡ unit_of (coded rest)
    → unit_of (and_next (coded (r >>= λ es. Ok (f es))) (λ y. and_next others (λ ys. Ok (y ∷ ys)))) ≡ unit_of (coded (result_at_input place r >>= λ es. rest >>= λ rs. Ok (es ∷ rs)))
one_table place (Ok es) f (Ok ys) (Ok rs) h = h
one_table place (Ok es) f (Ok ys) (Err e) h = h
one_table place (Ok es) f (Err n) (Ok rs) h = h
one_table place (Ok es) f (Err n) (Err e) h = h
one_table place (Err d) f others rest h = refl

module _ (cmp : List ℕ → List ℕ → Ordering) (short_keys : ShortKeys) (m : AskedMerge) (own : IsOrder m.request.order cmp short_keys) where
  order_is : {A : Type 0} (f : KeyOrder → Result A Fault) → by_order m.request.order f ≡ f cmp
  order_is f = picked m.request.order cmp short_keys own (λ c s. f c)

  request_is : list_all (has_keys m.keys) (files_of m.inputs) ≡ true → list_all (has_keys m.keys) m.deeper ≡ true → request_answer m.keys m.request m.snapshots (files_of m.inputs) m.deeper ≡ coded (request_result m cmp)
  request_is files deeper =
      let reading : KeyOrder → Result (Unit {0}) Fault = request_reading m.keys m.request m.snapshots (files_of m.inputs) m.deeper in
      ap (λ (b : Bool). lent_or_misuse b (by_order m.request.order reading)) (and_from (list_all (has_keys m.keys) (files_of m.inputs)) (list_all (has_keys m.keys) m.deeper) files deeper)
      ∙ ap (λ (r : Result (Unit {0}) Fault). coded r) (order_is reading)

  abbrev table_call : Input → Result Counts ℕ
  table_call i = table_answer m.request.order m.keys m.tables i

  table_is : (i : Input) → is_input m.keys m.tables i ≡ true → table_call i ≡ coded (counts_reading (meta_at m.keys i.file) (part_at m.tables i.table) cmp)
  table_is i lent =
      let reading : KeyOrder → Result Counts Fault = counts_reading (meta_at m.keys i.file) (part_at m.tables i.table) in
      ap (λ (b : Bool). lent_or_misuse b (by_order m.request.order reading)) lent ∙ ap (λ (r : Result Counts Fault). coded r) (order_is reading)

  -- the tests of the tables, one after the other, are those of one thread
  tables_are : (place : ℕ) (is : List Input) → are_inputs m.keys m.tables is ≡ true
      → unit_of (all_answers table_call is) ≡ unit_of (coded (inputs_reading cmp place (map (input_file m.keys) (files_of is)) (map (table_at m.tables) is)))
  tables_are place [] h = refl
  tables_are place (i ∷ is) h =
      let p = and_parts (is_input m.keys m.tables i) (are_inputs m.keys m.tables is) h in
      ap (λ (r : Result Counts ℕ). unit_of (and_next r (λ y. and_next (all_answers table_call is) (λ ys. Ok (y ∷ ys))))) (table_is i p.0)
      ∙ one_table place (input_reading cmp (meta_at m.keys i.file) (part_at m.tables i.table)) (λ es. counts_of (tally_of es)) (all_answers table_call is)
      (inputs_reading cmp (place + 1) (map (input_file m.keys) (files_of is)) (map (table_at m.tables) is)) (tables_are (place + 1) is p.1)

  -- ---- the merges

  abbrev merge_call : UserRange → Result Run ℕ
  merge_call range = merge_answer (merge_of m range)

  module _ (inputs : are_inputs m.keys m.tables m.inputs ≡ true) (deeper : list_all (has_keys m.keys) m.deeper ≡ true) (passed : request_result m cmp ≡ Ok tt) where
    merge_is : (range : UserRange) → is_range m.keys range ≡ true → merge_call range ≡ coded (range_reading cmp m (range_in m.keys range))
    merge_is range lent =
        ap (λ (b : Bool). lent_or_misuse b (by_order m.request.order (merge_reading (merge_of m range)))) (three_true (are_inputs m.keys m.tables m.inputs) (list_all (has_keys m.keys) m.deeper) (is_range m.keys range) inputs deeper lent)
        ∙ ap (λ (r : Result Run Fault). coded r)
        (order_is (merge_reading (merge_of m range))
        ∙ ap (λ (t : Result (Unit {0}) Fault). t >>= λ none. range_reading cmp m (range_in m.keys range)) passed)

    merges_coded : (ranges : List UserRange) → list_all (is_range m.keys) ranges ≡ true → all_answers merge_call ranges ≡ coded (merges_reading cmp m (map (range_in m.keys) ranges))
    merges_coded [] h = refl
    merges_coded (range ∷ ranges) h =
        let p = and_parts (is_range m.keys range) (list_all (is_range m.keys) ranges) h in
        ap (λ (x : Result Run ℕ). and_next x (λ y. and_next (all_answers merge_call ranges) (λ ys. Ok (y ∷ ys)))) (merge_is range p.0)
        ∙ ap (λ (xs : Result (List Run) ℕ). and_next (coded (range_reading cmp m (range_in m.keys range))) (λ y. and_next xs (λ ys. Ok (y ∷ ys)))) (merges_coded ranges p.1)
        ∙ sym (then_coded (range_reading cmp m (range_in m.keys range)) (merges_reading cmp m (map (range_in m.keys) ranges)))

-- ---- the runs in the host's arrays

both_all : {X : Type 0} (p q : X → Bool) (xs : List X) → list_all p xs ≡ true → list_all q xs ≡ true → list_all (λ (x : X). p x && q x) xs ≡ true
both_all p q [] h k = refl
both_all p q (x ∷ xs) h k =
    let a = and_parts (p x) (list_all p xs) h in
    let b = and_parts (q x) (list_all q xs) k in
    and_from _ _ (and_from (p x) (q x) a.0 b.0) (both_all p q xs a.1 b.1)

runs_lie : (a : Arrays) (ps : List RunPlaces) (runs : List Run) → list_all (has_parts a) ps ≡ true → map (arrays_at a) ps ≡ map arrays_of runs → list_all (λ (run : Run). is_told (arrays_of run)) runs ≡ true → list_all (is_run a) ps ≡ true
runs_lie a ps runs within same told =
    both_all (has_parts a) (λ (p : RunPlaces). is_told (arrays_at a p)) ps within (sym (list_all-map is_told (arrays_at a) ps) ∙ ap (list_all is_told) same ∙ list_all-map is_told arrays_of runs ∙ told)

all_back : (runs : List Run) → map run_told (map arrays_of runs) ≡ runs
all_back [] = refl
all_back (run ∷ runs) = ap (λ (x : Run). x ∷ map run_told (map arrays_of runs)) (run_back run) ∙ ap (λ (xs : List Run). run ∷ xs) (all_back runs)

runs_back : (a : Arrays) (ps : List RunPlaces) (runs : List Run) → map (arrays_at a) ps ≡ map arrays_of runs → map (run_at a) ps ≡ runs
runs_back a ps runs same = sym (map-map run_told (arrays_at a) ps) ∙ ap (map run_told) same ∙ all_back runs

-- ---- planned outputs

limits_hold : (o : declared.Options) → AreInLimits o → are_in_limits o ≡ true
limits_hold o l =
    and_from _ _ (and_from _ _ (and_from _ _ (and_from _ _ (and_from _ _ (le-leb _ _ l.block_size_some) (le-leb _ _ l.block_size_le)) (le-leb _ _ l.interval_some)) (le-leb _ _ l.interval_le)) (le-leb _ _ l.file_size_some)) (le-leb _ _ l.file_size_le)

module _ (table_of : List Entry → List ℕ) (o : declared.Options) where
  length_is : (number : ℕ) (qs : List (List Entry)) → length (outputs_from table_of number qs) ≡ length qs
  length_is number [] = refl
  length_is number (q ∷ qs) = ap suc (length_is (number + 1) qs)

  short_is : (number : ℕ) (qs : List (List Entry)) → list_all (λ (w : Output). nat_le (length w.bytes) (2 ^ 30)) (outputs_from table_of number qs) ≡ list_all (λ q. nat_le (length (table_of q)) (2 ^ 30)) qs
  short_is number [] = refl
  short_is number (q ∷ qs) = ap (λ (b : Bool). nat_le (length (table_of q)) (2 ^ 30) && b) (short_is (number + 1) qs)

  count_is : (number : ℕ) (qs : List (List Entry)) → data_block_count o (outputs_from table_of number qs) ≡ length (parts o qs)
  count_is number [] = refl
  count_is number (q ∷ qs) =
      sum_by-cons (λ (w : Output). length (data_blocks o w.entries)) (record { number = number; entries = q; bytes = table_of q }) (outputs_from table_of (number + 1) qs)
      ∙ ap (λ (n : ℕ). length (data_blocks o q) + n) (count_is (number + 1) qs) ∙ sym (length-append (data_blocks o q) (parts o qs))

  told_length : (first number : ℕ) (qs : List (List Entry)) → length (outputs_told first (planned_from table_of o number qs)) ≡ length qs
  told_length first number [] = refl
  told_length first number (q ∷ qs) = ap suc (told_length (saturated (first + length q)) (number + 1) qs)

  -- the entries that are told are those of the outputs
  told_parts : (first number : ℕ) (qs : List (List Entry)) → parts_told (outputs_told first (planned_from table_of o number qs)) (entries_of_lists qs) ≡ qs
  told_parts first number [] = refl
  told_parts first number (q ∷ qs) =
      let rest : List Entry = entries_of_lists qs in
      let ps : List PlannedOutput = outputs_told (saturated (first + length q)) (planned_from table_of o (number + 1) qs) in
      ap (λ (p : List Entry). p ∷ parts_told ps (drop (length q) (q ++ rest))) (take-append_seam q rest)
      ∙ ap (λ (es : List Entry). q ∷ parts_told ps es) (drop-append_seam q rest)
      ∙ ap (λ (xs : List (List Entry)). q ∷ xs) (told_parts (saturated (first + length q)) (number + 1) qs)

  told_files : (level place first number : ℕ) (qs : List (List Entry)) → files_told level place (outputs_told first (planned_from table_of o number qs)) qs ≡ map (output_file level) (outputs_from table_of place qs)
  told_files level place first number [] = refl
  told_files level place first number (q ∷ qs) =
      ap (λ (fs : List NewFile). output_file level (record { number = place; entries = q; bytes = table_of q }) ∷ fs)
      (told_files level (place + 1) (saturated (first + length q)) (number + 1) qs)

  numbered_is : (number : ℕ) (qs : List (List Entry)) → numbered_from number (map table_of qs) ≡ numbered_tables (outputs_from table_of number qs)
  numbered_is number [] = refl
  numbered_is number (q ∷ qs) = ap (λ (ts : List (ℕ × List ℕ)). (number, table_of q) ∷ ts) (numbered_is (number + 1) qs)

-- ---- the tables

some_list : (q : List Entry) → q ≢ [] → is_some_list q ≡ true
some_list [] some = absurd (some refl)
some_list (e ∷ es) some = refl

output_ok : (cmp : List ℕ → List ℕ → Ordering) (short_keys : ShortKeys) (o : declared.Options) (q : List Entry) → are_in_limits o ≡ true → q ≢ [] → entries_test cmp None q ≡ Ok tt → nat_le (length (table cmp short_keys o q)) (2 ^ 30) ≡ true
    → output_reading o q cmp short_keys ≡ Ok (table cmp short_keys o q)
output_ok cmp short_keys o q limits some tested short =
    let bytes : List ℕ = table cmp short_keys o q in
    ap (λ (b : Bool). test_result b Options >>= λ none. test_result (is_some_list q) Empty >>= λ none. entries_test cmp None q >>= λ none. within_limit bytes) limits
    ∙ ap (λ (b : Bool). test_result b Empty >>= λ none. entries_test cmp None q >>= λ none. within_limit bytes) (some_list q some)
    ∙ ap (λ (t : Result (Unit {0}) Fault). t >>= λ none. within_limit bytes) tested
    ∙ ap (λ (b : Bool). if b then Ok bytes else Err (fault TooLarge)) short

module _ (cmp : List ℕ → List ℕ → Ordering) (short_keys : ShortKeys) (m : AskedMerge) (own : IsOrder m.request.order cmp short_keys) where
  abbrev written : List Entry → List ℕ
  written = table cmp short_keys (options_of m.request)

  abbrev output_call : LentOutput → Result (List ℕ) ℕ
  output_call l = output_answer m.request l.keys l.values l.entries

  outputs_written : (ls : List LentOutput) → list_all is_output_lent ls ≡ true → AllByRecursion (λ (q : List Entry). output_reading (options_of m.request) q cmp short_keys ≡ Ok (written q)) (map entries_lent ls)
      → all_answers output_call ls ≡ Ok (map written (map entries_lent ls))
  outputs_written [] within made = refl
  outputs_written (l ∷ ls) within made =
      let w = and_parts (is_output_lent l) (list_all is_output_lent ls) within in
      let reading : KeyOrder → ShortKeys → Result (List ℕ) Fault = output_reading (options_of m.request) (entries_lent l) in
      let here : output_call l ≡ Ok (written (entries_lent l)) =
      ap (λ (b : Bool). lent_or_misuse b (by_orders m.request.order reading)) w.0
      ∙ ap (λ (r : Result (List ℕ) Fault). coded r) (picked m.request.order cmp short_keys own reading ∙ made.0) in
      ap (λ (x : Result (List ℕ) ℕ). and_next x (λ y. and_next (all_answers output_call ls) (λ ys. Ok (y ∷ ys)))) here
      ∙ ap (λ (xs : Result (List (List ℕ)) ℕ). and_next xs (λ ys. Ok (written (entries_lent l) ∷ ys))) (outputs_written ls w.1 made.1)

-- ---- the edit

abbrev level_metas : ℕ → List InputFile → List FileMeta
level_metas level is = map (λ (i : InputFile). i.meta) (filter (λ (i : InputFile). nat_eq i.level level) is)

metas_are : (keys : List ℕ) (level : ℕ) (files : List File) → metas_of keys level files ≡ level_metas level (map (input_file keys) files)
metas_are keys level files =
    sym (map-map (λ (i : InputFile). i.meta) (input_file keys) (filter (is_of level) files))
    ∙ ap (map (λ (i : InputFile). i.meta)) (map_filter (input_file keys) (λ (i : InputFile). nat_eq i.level level) files)

low_level : (level n : ℕ) → level ≤ 5 → (n ≡ level) ⊎ (n ≡ level + 1) → nat_le n 6 ≡ true
low_level level n low (inl h) = le-leb n 6 (omega (arith, low, h))
low_level level n low (inr h) = le-leb n 6 (omega (arith, low, h))

low_levels : (keys : List ℕ) (level : ℕ) (files : List File) → level ≤ 5 → ((i : InputFile) → Contains (map (input_file keys) files) i → (i.level ≡ level) ⊎ (i.level ≡ level + 1)) → have_levels files ≡ true
low_levels keys level [] low each = refl
low_levels keys level (f ∷ fs) low each =
    and_from (nat_le f.level 6) (have_levels fs) (low_level level f.level low (each (input_file keys f) (first_in (input_file keys f) (map (input_file keys) fs))))
    (low_levels keys level fs low (λ i at. each i (later_in (input_file keys f) (map (input_file keys) fs) i at)))

not_above : (level : ℕ) → level ≤ 5 → nat_lt 5 level ≡ false
not_above level low = grind (arith, nat_tests)

abbrev edit_by : ℕ → List ℕ → Numbers → ℕ → ℕ → List InputFile → List NewFile → Edit
edit_by level key n next last files added = record {
  comparator = None;
  log_number = Some n.log_number;
  previous_log = Some n.previous_log;
  next_file = Some next;
  last_sequence = Some last;
  pointers = record { level = level; key = key } ∷ [];
  deleted = deletions_of files;
  added = added;
}

-- ---- a host's work

module _ (cmp : List ℕ → List ℕ → Ordering) (total : IsTotalOrder cmp) (exact : IsExact cmp) (short_keys : ShortKeys) (w : HostWork) (boundaries : List (List ℕ)) (key : List ℕ)
    (own : IsOrder w.asked.request.order cmp short_keys) (pointer : pointer_of cmp w.asked.keys w.asked.request.level (files_of w.asked.inputs) ≡ Some key) (keeps : KeepsTo cmp boundaries w) where
  abbrev m : AskedMerge
  m = w.asked

  abbrev o : declared.Options
  o = options_of w.asked.request

  abbrev T : List Entry → List ℕ
  T = table cmp short_keys (options_of w.asked.request)

  abbrev r : RequestView
  r = thread_request cmp w.asked key w.first w.numbers.log_number w.numbers.previous_log

  abbrev thread : Result Answer Fault
  thread = one_thread cmp short_keys r

  abbrev end : List (List ℕ) → List ℕ → Result Answer ℕ
  end tables edit = Ok (record { tables = numbered_from w.first tables; edit = edit })

  abbrev behind_plan : List PlannedOutput → Result Answer ℕ
  behind_plan planned = and_next (outputs_call w) (λ tables. and_next (edit_call w) (λ edit. end tables edit))

  abbrev behind_merges : Result Answer ℕ
  behind_merges = and_next (plan_call w) behind_plan

  abbrev behind_tables : Result Answer ℕ
  behind_tables = and_next (merges_call w) (λ runs. behind_merges)

  files : list_all (has_keys w.asked.keys) (files_of w.asked.inputs) ≡ true
  files = keys_lent w.asked.keys w.asked.tables w.asked.inputs keeps.inputs

  module _ (passed : request_result w.asked cmp ≡ Ok tt) where
    merges_are : merges_call w ≡ coded (merges_reading cmp w.asked (ranges_of boundaries))
    merges_are =
        merges_coded cmp short_keys w.asked own keeps.inputs keeps.deeper passed w.ranges keeps.ranges
        ∙ ap (λ (ranges : List KeyRange). coded (merges_reading cmp w.asked ranges)) keeps.parted

    is_passed : IsPassed cmp r
    is_passed = passed_law cmp r (result_is cmp short_keys w.asked key w.first w.numbers.log_number w.numbers.previous_log pointer ∙ passed)

    limits : are_in_limits o ≡ true
    limits = limits_hold o is_passed.limits

    module _ (runs : List Run) (merged : merges_reading cmp w.asked (ranges_of boundaries) ≡ Ok runs) where
      abbrev qs : List (List Entry)
      qs = outputs_over cmp w.asked runs

      abbrev ws : List Output
      ws = outputs_from T w.first qs

      abbrev told : List PlannedOutput
      told = outputs_told 0 (planned_from T o w.asked.request.first_number qs)

      abbrev run : Run
      run = joined_run runs

      merges_ok : merges_call w ≡ Ok runs
      merges_ok = merges_are ∙ ap (λ (x : Result (List Run) Fault). coded x) merged

      copied : AreCopied cmp w runs
      copied = keeps.runs runs merges_ok

      -- the plan's tests pass
      plan_lent : is_plan_lent (asked_plan w) ≡ true
      plan_lent =
          three_true (list_all (has_keys m.keys) (files_of m.inputs)) (list_all (has_keys m.keys) m.deeper) (list_all (is_run w.arrays) w.places) files keeps.deeper
          (runs_lie w.arrays w.places runs copied.within copied.copied (all_told cmp total exact m boundaries keeps.split runs merged))

      plan_is : plan_call w ≡ coded (answer_told (plan_of T o w.asked.request.first_number qs))
      plan_is =
          ap (λ (b : Bool). lent_or_misuse b (by_orders m.request.order (plan_reading (asked_plan w)))) plan_lent
          ∙ ap (λ (x : Result (List PlannedOutput) Fault). coded x)
          (picked m.request.order cmp short_keys own (plan_reading (asked_plan w))
          ∙ ap (λ (b : Bool). test_result b Options >>= λ none. answer_told (plan_of T o w.asked.request.first_number (outputs_of (grandparents_in cmp m) o (whole_run (asked_plan w))))) limits
          ∙ ap (λ (rs : List Run). answer_told (plan_of T o w.asked.request.first_number (outputs_of (grandparents_in cmp m) o (joined_run rs)))) (runs_back w.arrays w.places runs copied.copied))

      abbrev are_short : Bool
      are_short = list_all (λ q. nat_le (length (T q)) (2 ^ 30)) qs

      -- the tests of the outputs: their numbers, and their sizes
      abbrev numbered : Bool
      numbered = nat_lt (w.first + length qs) (2 ^ 64)

      -- the plan tests the number that it is told, one thread the host's
      numbers_same : (w.first ≡ w.asked.request.first_number) ⊎ ((w.asked.request.first_number ≤ w.first) × (w.first + length qs < 2 ^ 64)) → nat_lt (w.asked.request.first_number + length qs) (2 ^ 64) ≡ numbered
      numbers_same (inl same) = ap (λ (n : ℕ). nat_lt (n + length qs) (2 ^ 64)) (sym same)
      numbers_same (inr later) =
          lt-ltb (w.asked.request.first_number + length qs) (2 ^ 64) (omega (arith, later.0, later.1)) ∙ sym (lt-ltb (w.first + length qs) (2 ^ 64) later.1)

      abbrev in_limits : Bool
      in_limits = are_short && nat_le (length (parts o qs)) (2 ^ 40)

      abbrev planned : Bool → Bool → Result (List OutputView) Fault
      planned numbers limits = test_result numbers NoNumbers >>= λ none. (test_result limits TooLarge >>= λ none. Ok (planned_from T o w.asked.request.first_number qs))

      plan_by : (a b : Bool) → numbered ≡ a → in_limits ≡ b → plan_call w ≡ coded (answer_told (planned a b))
      plan_by a b number limit =
          plan_is
          ∙ ap (λ (x : Bool). coded (answer_told (planned x in_limits))) (numbers_same copied.numbered ∙ number)
          ∙ ap (λ (x : Bool). coded (answer_told (planned a x))) limit

      abbrev answer : Answer
      answer = record { tables = numbered_tables ws; edit = edit_bytes (edit_of r (new_files r ws)) }

      abbrev answered_by : Bool → Bool → Result Answer Fault
      answered_by numbers limits = (test_result numbers NoNumbers >>= λ none. test_result limits TooLarge) >>= λ none. Ok answer

      answer_by : (a b : Bool) → numbered ≡ a → in_limits ≡ b → coded (outputs_answer r ws) ≡ coded (answered_by a b)
      answer_by a b number limit =
          let counted : Bool = nat_le (data_block_count o ws) (2 ^ 40) in
          let short : Bool = list_all (λ (x : Output). nat_le (length x.bytes) (2 ^ 30)) ws in
          ap (λ (n : ℕ). coded (answered_by (nat_lt (w.first + n) (2 ^ 64)) (short && counted))) (length_is T o w.first qs)
          ∙ ap (λ (x : Bool). coded (answered_by numbered (x && counted))) (short_is T o w.first qs)
          ∙ ap (λ (n : ℕ). coded (answered_by numbered (are_short && nat_le n (2 ^ 40)))) (count_is T o w.first qs)
          ∙ ap (λ (x : Bool). coded (answered_by x in_limits)) number
          ∙ ap (λ (x : Bool). coded (answered_by a x)) limit

      thread_is : thread ≡ outputs_answer r ws
      thread_is =
          host_merged cmp short_keys m key w.first w.numbers.log_number w.numbers.previous_log pointer passed boundaries keeps.split
          (ranges_compose_law cmp total) (distinct_holds cmp total exact) (of_ranges cmp total) runs merged

      whole : entries_of_lists qs ≡ run.kept
      whole = (whole_law cmp total exact).all (grandparents_in cmp m) o run

      from_output : (q : List Entry) → Contains qs q → (e : Entry) → Contains q e → Contains run.kept e
      from_output q at e i = subst (λ (l : List Entry). Contains l e) whole (in_flat_map (λ (x : List Entry). x) qs q e at i)

      output_passes : (q : List Entry) → Contains qs q → entries_test cmp None q ≡ Ok tt
      output_passes q at =
          tests_of cmp None q
          (of_each (λ (e : Entry). internal_key_reading e.key ≡ Ok e.key) q (λ e i. (fit cmp total exact m boundaries keeps.split runs merged e (from_output q at e i)).0))
          (of_each (λ (e : Entry). length e.value ≤ 16777215) q (λ e i. (fit cmp total exact m boundaries keeps.split runs merged e (from_output q at e i)).1))
          tt
          (part_rises cmp qs (subst (EntriesRise cmp) (sym whole) (rise cmp total exact m boundaries keeps.split runs merged)) q at)

      made : are_short ≡ true → AllByRecursion (λ (q : List Entry). output_reading o q cmp short_keys ≡ Ok (T q)) qs
      made short =
          of_each (λ (q : List Entry). output_reading o q cmp short_keys ≡ Ok (T q)) qs
          (λ q at. output_ok cmp short_keys o q limits
          (each_of (λ (x : List Entry). x ≢ []) qs ((whole_law cmp total exact).some (grandparents_in cmp m) o run) q at)
          (output_passes q at)
          (each_of (λ (x : List Entry). nat_le (length (T x)) (2 ^ 30) ≡ true) qs (each_told (λ x. nat_le (length (T x)) (2 ^ 30)) qs short) q at))

      module _ (lent : AreLentOutputs w run.kept told) where
        parts_are : parts_told told run.kept ≡ qs
        parts_are = ap (λ (es : List Entry). parts_told told es) (sym whole) ∙ told_parts T o 0 w.asked.request.first_number qs

        outputs_are : are_short ≡ true → outputs_call w ≡ Ok (map T qs)
        outputs_are short =
            let same : map entries_lent w.outputs ≡ qs = lent.entries ∙ parts_are in
            outputs_written cmp short_keys m own w.outputs lent.within (subst (AllByRecursion (λ (q : List Entry). output_reading o q cmp short_keys ≡ Ok (T q))) (sym same) (made short))
            ∙ ap (λ (xs : List (List Entry)). Ok (map T xs)) same

        abbrev level : ℕ
        level = w.asked.request.level

        levels : have_levels w.files ≡ true
        levels =
            low_levels w.keys level w.files is_passed.level
            (λ i at. All-contains (λ (x : InputFile). (x.level ≡ level) ⊎ (x.level ≡ level + 1)) r.picked.files i is_passed.levels (subst (λ (is : List InputFile). Contains is i) lent.files_are at))

        pointer_is : pointer_of cmp w.keys level w.files ≡ Some key
        pointer_is =
            ap (λ (ms : List FileMeta). largest_key cmp ms) (metas_are w.keys level w.files ∙ ap (λ (is : List InputFile). level_metas level is) lent.files_are ∙ sym (metas_are m.keys level (files_of m.inputs)))
            ∙ pointer

        edit_same : edit_with (asked_edit w) key ≡ edit_of r (new_files r ws)
        edit_same =
            let n : Numbers = w.numbers in
            let is : List InputFile = map (input_file w.keys) w.files in
            let added : List NewFile = map (new_file w.keys) w.added in
            let next : n.next_file ≡ w.first + length (new_files r ws) =
            lent.next_file ∙ ap (λ (k : ℕ). w.first + k) (told_length T o 0 w.asked.request.first_number qs ∙ sym (length_is T o w.first qs) ∙ sym (length-map ws (output_file (level + 1)))) in
            let files_same : added ≡ new_files r ws =
            lent.added_are ∙ ap (λ (xs : List (List Entry)). files_told (level + 1) w.first told xs) parts_are ∙ told_files T o (level + 1) w.first 0 w.asked.request.first_number qs in
            ap (λ (k : ℕ). edit_by level key n k n.last_sequence is added) next
            ∙ ap (λ (k : ℕ). edit_by level key n (w.first + length (new_files r ws)) k is added) lent.last_sequence
            ∙ ap (λ (xs : List InputFile). edit_by level key n (w.first + length (new_files r ws)) m.request.last_sequence xs added) lent.files_are
            ∙ ap (λ (xs : List NewFile). edit_by level key n (w.first + length (new_files r ws)) m.request.last_sequence r.picked.files xs) files_same

        edit_is : edit_call w ≡ Ok (edit_bytes (edit_of r (new_files r ws)))
        edit_is =
            ap (λ (b : Bool). lent_or_misuse b (by_order m.request.order (edit_reading (asked_edit w))))
            (three_true (list_all (has_keys w.keys) w.files) (have_levels w.files) (are_files w.keys w.added) lent.files levels lent.added)
            ∙ ap (λ (x : Result (List ℕ) Fault). coded x)
            (order_is cmp short_keys m own (edit_reading (asked_edit w))
            ∙ ap (λ (b : Bool). if b then Err (fault Level) else pointed_edit (asked_edit w) w.files (pointer_of cmp w.keys level w.files)) (not_above level is_passed.level)
            ∙ ap (λ (k : Option (List ℕ)). pointed_edit (asked_edit w) w.files k) pointer_is
            ∙ ap (λ (e : Edit). Ok (edit_bytes e)) edit_same)

      -- from the plan on both have one answer
      ended : (a b : Bool) → numbered ≡ a → in_limits ≡ b → behind_merges ≡ coded (outputs_answer r ws)
      ended false b number limit = ap (λ (x : Result (List PlannedOutput) ℕ). and_next x behind_plan) (plan_by false b number limit) ∙ sym (answer_by false b number limit)
      ended true false number limit = ap (λ (x : Result (List PlannedOutput) ℕ). and_next x behind_plan) (plan_by true false number limit) ∙ sym (answer_by true false number limit)
      ended true true number limit =
          let done : plan_call w ≡ Ok told = plan_by true true number limit in
          let lent : AreLentOutputs w run.kept told = keeps.outputs runs told merges_ok done in
          let short : are_short ≡ true = (and_parts are_short (nat_le (length (parts o qs)) (2 ^ 40)) limit).0 in
          ap (λ (x : Result (List PlannedOutput) ℕ). and_next x behind_plan) done
          ∙ ap (λ (x : Result (List (List ℕ)) ℕ). and_next x (λ tables. and_next (edit_call w) (λ edit. end tables edit))) (outputs_are lent short)
          ∙ ap (λ (x : Result (List ℕ) ℕ). and_next x (λ edit. end (map T qs) edit)) (edit_is lent)
          ∙ ap (λ (ts : List (ℕ × List ℕ)). Ok (record { tables = ts; edit = edit_bytes (edit_of r (new_files r ws)) })) (numbered_is T o w.first qs)
          ∙ sym (answer_by true true number limit)

    by_merges : (x : Result (List Run) Fault) → merges_reading cmp w.asked (ranges_of boundaries) ≡ x → behind_tables ≡ coded thread
    by_merges (Ok runs) is =
        ap (λ (x : Result (List Run) ℕ). and_next x (λ runs. behind_merges)) (merges_ok runs is)
        ∙ ended runs is (numbered runs is) (in_limits runs is) refl refl
        ∙ sym (ap (λ (x : Result Answer Fault). coded x) (thread_is runs is))
    by_merges (Err e) is =
        ap (λ (x : Result (List Run) ℕ). and_next x (λ runs. behind_merges)) (merges_are ∙ ap (λ (x : Result (List Run) Fault). coded x) is)
        ∙ sym (ap (λ (x : Result Answer Fault). coded x)
        (host_refused cmp short_keys m key w.first w.numbers.log_number w.numbers.previous_log pointer passed boundaries keeps.split (ranges_compose_law cmp total) e is))

    by_inputs : (x : Result (List (List Entry)) Fault) → inputs_result w.asked cmp ≡ x → and_next (tables_call w) (λ counts. behind_tables) ≡ coded thread
    by_inputs (Ok lists) is =
        unused (tables_call w) behind_tables
        ∙ ap (λ (u : Result (Unit {0}) ℕ). and_next u (λ none. behind_tables)) (tables_are cmp short_keys m own 0 m.inputs keeps.inputs ∙ ap (λ (x : Result (List (List Entry)) Fault). unit_of (coded x)) is)
        ∙ by_merges (merges_reading cmp w.asked (ranges_of boundaries)) refl
    by_inputs (Err e) is =
        unused (tables_call w) behind_tables
        ∙ ap (λ (u : Result (Unit {0}) ℕ). and_next u (λ none. behind_tables)) (tables_are cmp short_keys m own 0 m.inputs keeps.inputs ∙ ap (λ (x : Result (List (List Entry)) Fault). unit_of (coded x)) is)
        ∙ sym (ap (λ (x : Result Answer Fault). coded x) (host_unread cmp short_keys m key w.first w.numbers.log_number w.numbers.previous_log pointer passed e is))

  by_request : (x : Result (Unit {0}) Fault) → request_result w.asked cmp ≡ x → host_result w ≡ coded thread
  by_request (Ok none) is =
      ap (λ (x : Result (Unit {0}) ℕ). and_next x (λ none. and_next (tables_call w) (λ counts. behind_tables))) (request_is cmp short_keys m own files keeps.deeper ∙ ap (λ (x : Result (Unit {0}) Fault). coded x) is)
      ∙ by_inputs is (inputs_result w.asked cmp) refl
  by_request (Err e) is =
      ap (λ (x : Result (Unit {0}) ℕ). and_next x (λ none. and_next (tables_call w) (λ counts. behind_tables))) (request_is cmp short_keys m own files keeps.deeper ∙ ap (λ (x : Result (Unit {0}) Fault). coded x) is)
      ∙ sym (ap (λ (x : Result Answer Fault). coded x) (host_tested cmp short_keys m key w.first w.numbers.log_number w.numbers.previous_log pointer e is))

  -- the plan of runs that were merged and copied
  pub lent_runs : (runs : List Run) → request_call w ≡ Ok tt → merges_call w ≡ Ok runs → is_plan_lent (asked_plan w) ≡ true
  lent_runs runs tested merged =
      let passed : request_result w.asked cmp ≡ Ok tt = coded_ok (request_result w.asked cmp) tt (sym (request_is cmp short_keys m own files keeps.deeper) ∙ tested) in
      plan_lent passed runs (coded_ok (merges_reading cmp w.asked (ranges_of boundaries)) runs (sym (merges_are passed) ∙ merged))

  pub same_answer : host_result w ≡ coded thread
  same_answer = by_request (request_result w.asked cmp) refl

-- ---- chosen boundaries

chosen_in : (cmp : List ℕ → List ℕ → Ordering) (short_keys : ShortKeys) (m : AskedBoundaries) (boundaries : List (List ℕ)) → IsOrder m.order cmp short_keys → AreBoundaries m boundaries → AreChosen cmp m boundaries
chosen_in cmp short_keys m boundaries (inl h) b =
    subst (λ (c : KeyOrder). AreChosen c m boundaries) (sym h.1)
    (subst (λ (n : ℕ). MatchBool (nat_eq n BYTEWISE) (AreChosen bytewise_cmp m boundaries) (AreChosen shortlex_cmp m boundaries)) h.0 b)
chosen_in cmp short_keys m boundaries (inr h) b =
    subst (λ (c : KeyOrder). AreChosen c m boundaries) (sym h.1)
    (subst (λ (n : ℕ). MatchBool (nat_eq n BYTEWISE) (AreChosen bytewise_cmp m boundaries) (AreChosen shortlex_cmp m boundaries)) h.0 b)

pub part_ranges : (cmp : List ℕ → List ℕ → Ordering) (short_keys : ShortKeys) (m : AskedBoundaries) (boundaries : List (List ℕ)) → IsOrder m.order cmp short_keys → boundaries_test m ≡ Ok tt → AreBoundaries m boundaries → IsSplit cmp boundaries
part_ranges cmp short_keys m boundaries own tested are =
    let chosen = chosen_in cmp short_keys m boundaries own are in
    let counted : count_test m cmp ≡ Ok tt = sym (picked m.order cmp short_keys own (λ c s. count_test m c)) ∙ answered (are_inputs m.keys m.tables m.inputs) (by_order m.order (count_test m)) MISUSE tt tested in
    let few = leb-true m.want 4096 (and_parts (nat_le 1 m.want) (nat_le m.want 4096) (passed (nat_le 1 m.want && nat_le m.want 4096) SplitCount tt counted)).1 in
    record { few = omega (arith, chosen.0, few); rising = chosen.1.at_places.rising }

-- ---- more keys

module _ (keys more : List ℕ) where
  within_more : (p : Place) → is_within keys p ≡ true → is_within (keys ++ more) p ≡ true
  within_more p h =
      let k = and_parts (nat_le p.from (length keys)) (nat_le p.len (length keys - p.from)) h in
      let low = leb-true p.from (length keys) k.0 in
      let high = leb-true p.len (length keys - p.from) k.1 in
      let long = length-append keys more in
      and_from (nat_le p.from (length (keys ++ more))) (nat_le p.len (length (keys ++ more) - p.from))
      (le-leb p.from (length (keys ++ more)) (omega (arith, low, long)))
      (le-leb p.len (length (keys ++ more) - p.from) (omega (arith, low, high, long)))

  part_more : (p : Place) → is_within keys p ≡ true → part_at (keys ++ more) p ≡ part_at keys p
  part_more p h =
      let k = and_parts (nat_le p.from (length keys)) (nat_le p.len (length keys - p.from)) h in
      let low = leb-true p.from (length keys) k.0 in
      let high = leb-true p.len (length keys - p.from) k.1 in
      let left = length-drop p.from keys in
      ap (take p.len) (drop-append-le p.from keys more low) ∙ take-append-le p.len (drop p.from keys) more (omega (arith, left, high))

  key_more : (p : Place) → is_key_at keys p ≡ true → (is_within keys p ≡ true) × (is_key_at (keys ++ more) p ≡ true)
  key_more p h =
      let k = and_parts (is_within keys p) (is_ok (internal_key_reading (part_at keys p))) h in (
        k.0,
        and_from (is_within (keys ++ more) p) (is_ok (internal_key_reading (part_at (keys ++ more) p))) (within_more p k.0)
            (ap (λ (bs : List ℕ). is_ok (internal_key_reading bs)) (part_more p k.0) ∙ k.1),
      )

  module _ (order : ℕ) (tables : List ℕ) (i : Input) where
    abbrev reading : FileMeta → Result Counts Fault
    reading meta = by_order order (counts_reading meta (part_at tables i.table))

    abbrev meta_by : List ℕ → List ℕ → FileMeta
    meta_by smallest largest = record { number = i.file.number; size = i.file.size; smallest = smallest; largest = largest }

    table_more_by : (b : Bool) → is_input keys tables i ≡ b → table_answer order keys tables i ≡ Ok i.counts → table_answer order (keys ++ more) tables i ≡ Ok i.counts
    table_more_by true lent h =
        let p = and_parts (has_keys keys i.file) (is_within tables i.table) lent in
        let k = and_parts (is_key_at keys i.file.smallest) (is_key_at keys i.file.largest) p.0 in
        let small = key_more i.file.smallest k.0 in
        let large = key_more i.file.largest k.1 in
        ap (λ (b : Bool). lent_or_misuse b (reading (meta_at (keys ++ more) i.file)))
        (and_from (has_keys (keys ++ more) i.file) (is_within tables i.table) (and_from (is_key_at (keys ++ more) i.file.smallest) (is_key_at (keys ++ more) i.file.largest) small.1 large.1) p.1)
        ∙ ap (λ (bs : List ℕ). coded (reading (meta_by bs (part_at (keys ++ more) i.file.largest)))) (part_more i.file.smallest small.0)
        ∙ ap (λ (bs : List ℕ). coded (reading (meta_by (part_at keys i.file.smallest) bs))) (part_more i.file.largest large.0)
        ∙ sym (ap (λ (b : Bool). lent_or_misuse b (reading (meta_at keys i.file))) lent) ∙ h
    table_more_by false lent h =
        let no : ◌≡◌ {A = Result Counts ℕ} (Err MISUSE) (Ok i.counts) = sym (ap (λ (b : Bool). lent_or_misuse b (reading (meta_at keys i.file))) lent) ∙ h in
        absurd cc

  pub still_checked : (order : ℕ) (tables : List ℕ) (is : List Input) → AreChecked order keys tables is → AreChecked order (keys ++ more) tables is
  still_checked order tables [] h = tt
  still_checked order tables (i ∷ is) h = (table_more_by order tables i (is_input keys tables i) refl h.0, still_checked order tables is h.1)

pub calls_hold : (cmp : List ℕ → List ℕ → Ordering) (short_keys : ShortKeys) → IsTotalOrder cmp → IsExact cmp → CallsLaw cmp short_keys
calls_hold cmp short_keys total exact = record {
  same = λ w boundaries key own pointer keeps. same_answer cmp total exact short_keys w boundaries key own pointer keeps;
  lent = λ w boundaries key runs own pointer keeps tested merged. lent_runs cmp total exact short_keys w boundaries key own pointer keeps runs tested merged;
  boundaries = λ m boundaries own tested are. part_ranges cmp short_keys m boundaries own tested are;
  checked = λ order keys more tables inputs h. still_checked keys more order tables inputs h;
}
