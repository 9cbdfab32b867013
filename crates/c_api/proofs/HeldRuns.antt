-- The runs of ranges: their entries pass the tests of a table, and their marks lie between them.
use Rattle.std.proofs.Common.{◌≡◌, ℕ, suc, ◌+◌, ◌-◌, ◌≤◌, Bool, true, false, List, [], ◌∷◌, ◌++◌, map, take, length, Option, Some, None, Result, Ok, Err, refl, sym, ap, subst, ◌∙◌, append_assoc, arith}
use Rattle.std.specs.Prelude.{Contains, nat_eq, nat_le, if◌then◌else◌}
use Rattle.std.specs.Cmp.{IsTotalOrder}
use Rattle.std.specs.List.{AllByRecursion, list_all}
use Rattle.std.specs.Result.{is_ok}
use Rattle.std.specs.declared.cmp.Ordering.{Ordering}
use Rattle.std.specs.declared.cmp.Ordering.TheVariants.{Less}
use Rattle.std.proofs.Math.Seq.{take-append_seam}
use Rattle.std.proofs.lemmas.Bool.{and_parts, le-leb, leb-true, and_from}
use Rattle.std.proofs.lemmas.List.{length-append, length-map}
use Rattle.std.proofs.lemmas.List.Sorted.{Contains-permutation, IsPermutation-sym}
use Rattle.ikey.specs.Answers.{◌>>=◌, fault}
use Rattle.ikey.specs.Comparator.{IsExact}
use Rattle.ikey.specs.Key.{internal_key_reading}
use Rattle.ikey.specs.Order.{internal_cmp}
use Rattle.ikey.specs.fault.Fault.{Fault}
use Rattle.ikey.specs.fault.FaultName.TheVariants.{Bounds, Duplicate}
use Rattle.table.specs.EncodedEntry.{Entry}
use Rattle.table.specs.EntriesFrom.{EntriesRise}
use Rattle.table.specs.EntryTests.{HaveKeys, entries_test}
use Rattle.table.specs.IndexReading.{index_reading}
use Rattle.table.specs.TableContents.{Contents, DataBlock, blocks_of, contents_of, contents_reading, data_reading, index_in}
use Rattle.table.specs.TestResult.{test_result}
use Rattle.table.proofs.CheckedTables.{blocks_by, read_data}
use Rattle.table.proofs.EntryTests.{all_tests, have_keys}
use Rattle.table.proofs.NamedBlocks.{values_of}
use Rattle.edit.proofs.Binds.{bind_ok, ok_is}
use Rattle.edit.specs.declared.meta.FileMeta.{FileMeta}
use Rattle.pick.specs.declared.picked_inputs.InputFile.{InputFile}
use Rattle.reads.specs.MergedLists.{entries_of_lists, merged}
use Rattle.reads.specs.Union.{IsUnion}
use Rattle.reads.proofs.FallingEntries.{each_of, of_each}
use Rattle.reads.proofs.Members.{from_flat_map, from_map, in_flat_map}
use Rattle.split.specs.Boundaries.{IsSplit}
use Rattle.keep.specs.DropRule.{keeps, kept, kept_after}
use Rattle.keep.specs.Marks.{CompactionContext, changes, changes_after, grandparents_below, heads, heads_after, is_first}
use Rattle.keep.specs.Readable.{Readable}
use Rattle.keep.specs.Runs.{Run, are_distinct, entries_by_range, joined_run, ranges_of, run_of, runs_of}
use Rattle.keep.specs.declared.mark.Mark.{Mark}
use Rattle.keep.proofs.ComposedRanges.{ranges_compose_law}
use Rattle.keep.proofs.Distinct.{distinct_holds}
use Rattle.compact.specs.Inputs.{input_reading, inputs_reading, result_at_input, table_matches_metadata}
use Rattle.compact.specs.RangeMerges.{runs_reading}
use Rattle.compact.proofs.Gets.{kept_part}
use Rattle.compact.proofs.Outputs.{union_rises}
use Rattle.c_api.specs.Hosts.{merges_reading}
use Rattle.c_api.specs.Merges.{AskedMerge, context_at, inputs_result}
use Rattle.c_api.specs.Places.{is_within}
use Rattle.c_api.specs.Runs.{arrays_of, bytes_of, lengths_of, mark_of}
use Rattle.c_api.specs.ToldRuns.{are_entries, are_marks, begins_entry, after_entry, is_told, value_place}
use Rattle.c_api.specs.declared.run_arrays.EntryLengths.{EntryLengths}
use Rattle.c_api.specs.declared.run_arrays.RunMark.{RunMark}
use Rattle.c_api.proofs.Hosts.{ReadRuns, United, all_merged, behind_back, merges_are, read_runs, told_lengths, united}

-- ---- entries that were read

module _ (cmp : List ℕ → List ℕ → Ordering) where
  -- the entries of a table that was read
  tests_read : (bytes : List ℕ) (t : Contents) → contents_reading cmp bytes ≡ Ok t → entries_test cmp None t.entries ≡ Ok tt
  tests_read bytes t h =
      let first = bind_ok (blocks_of cmp bytes) (λ (blocks : List DataBlock). Ok (contents_of bytes blocks)) t h in
      let named = bind_ok (index_in bytes) (λ (entries : List Entry). index_reading bytes entries >>= λ index. data_reading cmp index) first.0 (sym (blocks_by cmp bytes) ∙ first.1) in
      let index = bind_ok (index_reading bytes named.0) (λ index. data_reading cmp index) first.0 named.2 in
      let read = read_data cmp index.0 first.0 index.2 in
      subst (λ (es : List Entry). entries_test cmp None es ≡ Ok tt) (ap (λ (c : Contents). c.entries) (ok_is (contents_of bytes first.0) t first.2))
      (all_tests cmp None index.0 first.0 read.read)

  -- those of an input
  entries_pass : (f : FileMeta) (bytes : List ℕ) (entries : List Entry) → input_reading cmp f bytes ≡ Ok entries → entries_test cmp None entries ≡ Ok tt
  entries_pass f bytes entries h =
      let a = bind_ok (contents_reading cmp bytes) (λ (t : Contents). test_result (table_matches_metadata f t) Bounds >>= λ _. Ok t.entries) entries h in
      let b = bind_ok (test_result (table_matches_metadata f a.0) Bounds) (λ _. Ok a.0.entries) entries a.2 in
      subst (λ (es : List Entry). entries_test cmp None es ≡ Ok tt) (ok_is a.0.entries entries b.2) (tests_read bytes a.0 a.1)

  placed : (place : ℕ) (step : Result (List Entry) Fault) (es : List Entry) → result_at_input place step ≡ Ok es → step ≡ Ok es
  placed place (Ok x) es h = h
  placed place (Err e) es h = absurd cc

  abbrev pub ArePassed : List (List Entry) → Type 0
  ArePassed lists = AllByRecursion (λ (es : List Entry). entries_test cmp None es ≡ Ok tt) lists

  pub lists_pass : (place : ℕ) (files : List InputFile) (given : List (List ℕ)) (lists : List (List Entry)) → inputs_reading cmp place files given ≡ Ok lists → ArePassed lists
  lists_pass place [] [] lists h = subst ArePassed (ok_is [] lists h) tt
  lists_pass place [] (b ∷ given) lists h = subst ArePassed (ok_is [] lists h) tt
  lists_pass place (i ∷ files) [] lists h = subst ArePassed (ok_is [] lists h) tt
  lists_pass place (i ∷ files) (b ∷ given) lists h =
      let first = bind_ok (result_at_input place (input_reading cmp i.meta b)) (λ (entries : List Entry). inputs_reading cmp (place + 1) files given >>= λ rest. Ok (entries ∷ rest)) lists h in
      let second = bind_ok (inputs_reading cmp (place + 1) files given) (λ (rest : List (List Entry)). Ok (first.0 ∷ rest)) lists first.2 in
      subst ArePassed (ok_is (first.0 ∷ second.0) lists second.2)
      (entries_pass i.meta b first.0 (placed place (input_reading cmp i.meta b) first.0 first.1), lists_pass (place + 1) files given second.0 second.1)

  -- an entry that a table may have
  abbrev pub IsFit : Entry → Type 0
  IsFit e = (internal_key_reading e.key ≡ Ok e.key) × (length e.value ≤ 16777215)

  is_fit : (es : List Entry) → entries_test cmp None es ≡ Ok tt → (e : Entry) → Contains es e → IsFit e
  is_fit es h e at = (
    each_of (λ (x : Entry). internal_key_reading x.key ≡ Ok x.key) es (have_keys cmp None es h) e at,
    each_of (λ (x : Entry). length x.value ≤ 16777215) es (values_of cmp None es h) e at,
  )

  kept_rises : (r : Readable) (deeper : List FileMeta) (before : Option Entry) (es : List Entry) → EntriesRise cmp es → EntriesRise cmp (kept_after cmp r deeper before es)
  kept_rises r deeper before [] h = tt
  kept_rises r deeper before (e ∷ es) h = around (keeps cmp r deeper before e) (kept_rises r deeper (Some e) es h.1)
    where
      around : (b : Bool) → EntriesRise cmp (kept_after cmp r deeper (Some e) es) → EntriesRise cmp ((if b then e ∷ [] else []) ++ kept_after cmp r deeper (Some e) es)
      around true rest = (
        of_each (λ (f : Entry). internal_cmp cmp e.key f.key ≡ Less) (kept_after cmp r deeper (Some e) es)
            (λ f at. each_of (λ (g : Entry). internal_cmp cmp e.key g.key ≡ Less) es h.0 f (kept_part cmp r deeper (Some e) es f at)),
        rest,
      )
      around false rest = rest

-- ---- marks

weaker_marks : (from low count : ℕ) (ms : List RunMark) → low ≤ from → are_marks from count ms ≡ true → are_marks low count ms ≡ true
weaker_marks from low count [] le h = let high = leb-true from count h in le-leb low count (omega (arith, le, high))
weaker_marks from low count (m ∷ ms) le h =
    let p = and_parts (nat_le from m.kept) (are_marks m.kept count ms) h in
    let high = leb-true from m.kept p.0 in
    and_from (nat_le low m.kept) (are_marks m.kept count ms) (le-leb low m.kept (omega (arith, le, high))) p.1

module _ (cmp : List ℕ → List ℕ → Ordering) (b : CompactionContext) where
  abbrev told : List Mark → List RunMark
  told ms = map mark_of ms

  abbrev left : Option Entry → List Entry → List Entry
  left before es = kept_after cmp b.readable b.deeper before es

  heads_between : (before : Option Entry) (n count : ℕ) (es : List Entry) → n + length (left before es) ≡ count → are_marks n count (told (heads_after cmp b before n es)) ≡ true
  heads_between before n count [] h = le-leb n count (omega (arith, h))
  heads_between before n count (e ∷ es) h =
      by (is_first before e) (keeps cmp b.readable b.deeper before e) h (λ k same. heads_between (Some e) k count es same)
    where
      mark : Mark
      mark = record { below = grandparents_below cmp b.grandparents e.key; kept = n }

      by : (first keep : Bool) → n + length ((if keep then e ∷ [] else []) ++ left (Some e) es) ≡ count
          → ((k : ℕ) → k + length (left (Some e) es) ≡ count → are_marks k count (told (heads_after cmp b (Some e) k es)) ≡ true)
          → are_marks n count (told ((if first then mark ∷ [] else []) ++ heads_after cmp b (Some e) (if keep then n + 1 else n) es)) ≡ true
      by true true own rest =
          let one : n + suc (length (left (Some e) es)) ≡ count = own in
          and_from (nat_le n n) (are_marks n count (told (heads_after cmp b (Some e) (n + 1) es))) (le-leb n n (omega arith))
          (weaker_marks (n + 1) n count (told (heads_after cmp b (Some e) (n + 1) es)) (omega arith) (rest (n + 1) (omega (arith, one))))
      by true false own rest =
          and_from (nat_le n n) (are_marks n count (told (heads_after cmp b (Some e) n es))) (le-leb n n (omega arith)) (rest n own)
      by false true own rest =
          let one : n + suc (length (left (Some e) es)) ≡ count = own in
          weaker_marks (n + 1) n count (told (heads_after cmp b (Some e) (n + 1) es)) (omega arith) (rest (n + 1) (omega (arith, one)))
      by false false own rest = rest n own

  changes_between : (below from count : ℕ) (ms : List Mark) → are_marks from count (told ms) ≡ true → are_marks from count (told (changes_after below ms)) ≡ true
  changes_between below from count [] h = h
  changes_between below from count (m ∷ ms) h =
      let p = and_parts (nat_le from m.kept) (are_marks m.kept count (told ms)) h in
      by (nat_eq m.below below)
      (changes_between below from count ms (weaker_marks m.kept from count (told ms) (leb-true from m.kept p.0) p.1))
      (and_from (nat_le from m.kept) (are_marks m.kept count (told (changes_after m.below ms))) p.0 (changes_between m.below m.kept count ms p.1))
    where
      by : (same : Bool) → are_marks from count (told (changes_after below ms)) ≡ true → are_marks from count (told (m ∷ changes_after m.below ms)) ≡ true
          → are_marks from count (told (if same then changes_after below ms else (m ∷ changes_after m.below ms))) ≡ true
      by true x y = x
      by false x y = y

  changes_all : (from count : ℕ) (ms : List Mark) → are_marks from count (told ms) ≡ true → are_marks from count (told (changes ms)) ≡ true
  changes_all from count [] h = h
  changes_all from count (m ∷ ms) h =
      let p = and_parts (nat_le from m.kept) (are_marks m.kept count (told ms)) h in
      and_from (nat_le from m.kept) (are_marks m.kept count (told (changes_after m.below ms))) p.0 (changes_between m.below m.kept count ms p.1)

  -- the marks of a run lie between its entries
  pub marks_between : (es : List Entry) → are_marks 0 (length (run_of cmp b es).kept) (told (run_of cmp b es).marks) ≡ true
  marks_between es = changes_all 0 (length (left None es)) (heads cmp b es) (heads_between None 0 (length (left None es)) es (omega arith))

-- ---- the entries of a run, in its arrays

begins : (k v rest : List ℕ) → internal_key_reading k ≡ Ok k → begins_entry (k ++ (v ++ rest)) (told_lengths k v) ≡ true
begins k v rest h =
    let all : List ℕ = k ++ (v ++ rest) in
    let front = length-append k (v ++ rest) in
    let behind = length-append v rest in
    and_from (is_within all (value_place (told_lengths k v))) (is_ok (internal_key_reading (take (length k) all)))
    (and_from (nat_le (length k) (length all)) (nat_le (length v) (length all - length k))
    (le-leb (length k) (length all) (omega (arith, front, behind)))
    (le-leb (length v) (length all - length k) (omega (arith, front, behind))))
    (ap (λ (bs : List ℕ). is_ok (internal_key_reading bs)) (take-append_seam k (v ++ rest)) ∙ ap (λ (r : Result (List ℕ) Fault). is_ok r) h)

entries_lie : (es : List Entry) → HaveKeys es → are_entries (bytes_of es) (map lengths_of es) ≡ true
entries_lie [] h = refl
entries_lie (e ∷ es) h =
    let rest : List ℕ = bytes_of es in
    let ls : List EntryLengths = map lengths_of es in
    let all : List ℕ = e.key ++ (e.value ++ rest) in
    ap (λ (bs : List ℕ). are_entries bs (lengths_of e ∷ ls)) (append_assoc e.key e.value rest)
    ∙ and_from (begins_entry all (lengths_of e)) (are_entries (after_entry all (lengths_of e)) ls) (begins e.key e.value rest h.0)
    (subst (λ (bs : List ℕ). are_entries bs ls ≡ true) (sym (behind_back e.key e.value rest)) (entries_lie es h.1))

-- ---- the runs of all ranges

all_tell : {X : Type 0} (p : X → Bool) (xs : List X) → AllByRecursion (λ (x : X). p x ≡ true) xs → list_all p xs ≡ true
all_tell p [] h = refl
all_tell p (x ∷ xs) h = and_from (p x) (list_all p xs) h.0 (all_tell p xs h.1)

module _ (cmp : List ℕ → List ℕ → Ordering) (total : IsTotalOrder cmp) (exact : IsExact cmp) (m : AskedMerge) (boundaries : List (List ℕ)) (split : IsSplit cmp boundaries) (runs : List Run) (merges : merges_reading cmp m (ranges_of boundaries) ≡ Ok runs) where
  abbrev b : CompactionContext
  b = context_at cmp m

  read : ReadRuns cmp b (inputs_result m cmp) boundaries runs
  read = read_runs cmp b (inputs_result m cmp) boundaries runs (merges_are cmp m (ranges_of boundaries) ∙ merges)

  same : runs_reading cmp b boundaries read.entries ≡ Ok runs
  same = sym (all_merged cmp b (ranges_compose_law cmp total) read.entries boundaries split) ∙ read.runs_are

  abbrev union : List Entry
  union = merged cmp read.entries

  parts : United (are_distinct union) union (runs_of cmp b boundaries) (λ es. Err (fault Duplicate)) runs
  parts = united (are_distinct union) union (runs_of cmp b boundaries) (λ es. Err (fault Duplicate)) runs same

  is_union : IsUnion cmp read.entries union
  is_union = (distinct_holds cmp total exact read.entries union).1 (refl, parts.distinct)

  kept_is : (joined_run runs).kept ≡ kept cmp b.readable b.deeper union
  kept_is =
      ap (λ (rs : List Run). (joined_run rs).kept) (sym parts.runs_are)
      ∙ (ranges_compose_law cmp total).kept b boundaries union split is_union.rising

  in_union : (e : Entry) → Contains union e → IsFit cmp e
  in_union e at =
      let all = Contains-permutation union (entries_of_lists read.entries) e (IsPermutation-sym (entries_of_lists read.entries) union is_union.same) at in
      let from = from_flat_map (λ (list : List Entry). list) read.entries e all in
      is_fit cmp from.source (each_of (λ (es : List Entry). entries_test cmp None es ≡ Ok tt) read.entries (lists_pass cmp 0 _ _ read.entries read.is) from.source from.there) e from.held

  -- each kept entry is one that a table may have
  pub fit : (e : Entry) → Contains (joined_run runs).kept e → IsFit cmp e
  fit e at = in_union e (kept_part cmp b.readable b.deeper None union e (subst (λ (l : List Entry). Contains l e) kept_is at))

  -- their keys rise
  pub rise : EntriesRise cmp (joined_run runs).kept
  rise = subst (EntriesRise cmp) (sym kept_is) (kept_rises cmp b.readable b.deeper None union (union_rises cmp union is_union.rising))

  keys_of : (run : Run) → Contains runs run → HaveKeys run.kept
  keys_of run at = of_each (λ (e : Entry). internal_key_reading e.key ≡ Ok e.key) run.kept (λ e i. (fit e (in_flat_map (λ (r : Run). r.kept) runs run e at i)).0)

  marks_of_run : (run : Run) → Contains runs run → are_marks 0 (length run.kept) (map mark_of run.marks) ≡ true
  marks_of_run run at =
      let from = from_map (run_of cmp b) (entries_by_range cmp boundaries union) run (subst (λ (rs : List Run). Contains rs run) (sym parts.runs_are) at) in
      subst (λ (r : Run). are_marks 0 (length r.kept) (map mark_of r.marks) ≡ true) from.is (marks_between cmp b from.source)

  -- a run is told by its arrays
  told_run : (run : Run) → Contains runs run → is_told (arrays_of run) ≡ true
  told_run run at =
      and_from (are_entries (bytes_of run.kept) (map lengths_of run.kept)) (are_marks 0 (length (map lengths_of run.kept)) (map mark_of run.marks))
      (entries_lie run.kept (keys_of run at))
      (ap (λ (n : ℕ). are_marks 0 n (map mark_of run.marks)) (length-map run.kept lengths_of) ∙ marks_of_run run at)

  pub all_told : list_all (λ (run : Run). is_told (arrays_of run)) runs ≡ true
  all_told = all_tell (λ (run : Run). is_told (arrays_of run)) runs (of_each (λ (run : Run). is_told (arrays_of run) ≡ true) runs told_run)
