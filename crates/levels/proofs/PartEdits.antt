-- The edits of parts' answers, by their requests alone: no matter what the inputs' tables hold.
use Rattle.std.proofs.Common.{◌≡◌, ◌≢◌, ℕ, zero, suc, ◌+◌, ◌-◌, ◌<◌, ◌≤◌, ◌^◌, nat_eq, Bool, true, false, not, List, [], ◌∷◌, ◌++◌, length, map, Some, None, Option, Result, Ok, Err, is_some, refl, sym, ap, subst, ◌∙◌, inl, inr, arith, eqb-true, eq-eqb, if◌then◌else◌, ◌&&◌}
use Rattle.std.specs.Prelude.{Contains, nat_le, nat_lt, unwrap_or}
use Rattle.std.specs.List.{AllByRecursion, flat_map, list_all}
use Rattle.std.specs.List.Sorted.{IsStrictlySortedBy}
use Rattle.std.specs.Option.{option_or}
use Rattle.std.specs.declared.cmp.Ordering.{Ordering}
use Rattle.std.proofs.lemmas.Bool.Decides.{nat_tests}
use Rattle.std.proofs.lemmas.List.{length-map, map-append}
use Rattle.std.proofs.lemmas.List.Elements.{All-contains, Contains-append_cases, Contains-append_right}
use Rattle.table.specs.EncodedEntry.{Entry}
use Rattle.table.specs.EntryTests.{HaveKeys}
use Rattle.table.specs.IndexReading.{index_reading}
use Rattle.table.specs.Key.{IsInternalKey, internal_key_reading}
use Rattle.table.specs.TableBytes.{AreBytes}
use Rattle.table.specs.TableContents.{Contents, DataBlock, blocks_of, contents_of, contents_reading, data_reading, entries_of, index_in}
use Rattle.table.specs.TestResult.{test_result}
use Rattle.table.specs.Varint.{length_prefixed, varint}
use Rattle.table.proofs.CheckedTables.{blocks_by, read_data}
use Rattle.table.proofs.EntryTests.{all_tests, have_keys, passed}
use Rattle.table.proofs.Keys.{IsInternalKey-reading}
use Rattle.edit.proofs.Binds.{ok_is}
use Rattle.edit.proofs.Inserted.{sorted_all}
use Rattle.edit.proofs.Written.{fields_lawful, reads_back}
use Rattle.edit.specs.Answers.{fault, ◌>>=◌}
use Rattle.edit.specs.Comparator.{ShortKeys}
use Rattle.edit.specs.Edit.{Edit, IsEdit, deleted_cmp, edit_bytes, fields_of, settings_of}
use Rattle.edit.specs.Field.{AddFile, DeleteFile, Field, IsField, SetPointer, spelling}
use Rattle.edit.specs.Version.{State, are_apart, has_number, has_place, is_same_place, place_of}
use Rattle.edit.specs.declared.meta.DeletedFile.{DeletedFile}
use Rattle.edit.specs.declared.meta.FileMeta.{FileMeta}
use Rattle.edit.specs.declared.meta.NewFile.{NewFile}
use Rattle.edit.specs.fault.Fault.{Fault}
use Rattle.edit.specs.fault.FaultName.TheVariants.{Bounds, Duplicate, Numbers, TooLarge}
use Rattle.pick.specs.declared.picked_inputs.InputFile.{InputFile}
use Rattle.pick.specs.PickedInputs.{PickedInputs}
use Rattle.pick.proofs.Lists.{and_both, and_first, and_second}
use Rattle.merge.proofs.SortedEntries.{all_sorted}
use Rattle.reads.specs.Lawful.{IsBelowNextFile}
use Rattle.reads.specs.MergedLists.{entries_of_lists, merged}
use Rattle.reads.proofs.FallingEntries.{each_of}
use Rattle.keep.proofs.Members.{first_in, first_or_later, from_map, in_flat_map, in_map, later_in, none_in}
use Rattle.keep.specs.DropRule.{kept}
use Rattle.keep.specs.Marks.{heads}
use Rattle.keep.specs.Runs.{are_distinct}
use Rattle.cut.specs.Outputs.{outputs}
use Rattle.cut.specs.Stops.{stops}
use Rattle.cut.proofs.Whole.{all_segments, some_segments}
use Rattle.install.proofs.DeletedSets.{tied, deleted_total}
use Rattle.install.proofs.JoinedBytes.{edits_join}
use Rattle.install.specs.Install.{numbers_of}
use Rattle.install.specs.JoinedEdits.{joined_edit}
use Rattle.compact.specs.EditAfter.{AreNumberedFrom}
use Rattle.compact.specs.EditOf.{deletion_of, deletions_of, edit_of, new_file, new_files}
use Rattle.compact.specs.Inputs.{input_reading, inputs_reading, result_at_input, table_matches_metadata, union_reading}
use Rattle.compact.specs.InputsOver.{as_file}
use Rattle.compact.specs.OneThread.{Answer, one_thread, outputs_answer, table_for}
use Rattle.compact.specs.OutputTables.{Output, data_block_count, numbered_tables, outputs_from, outputs_test}
use Rattle.compact.specs.PassedRequest.{IsPassed}
use Rattle.compact.specs.Request.{RequestView, below_request, request_test}
use Rattle.compact.specs.declared.settings.Settings.{Settings}
use Rattle.compact.proofs.AppliedEdit.{all_only, none_tests, numbered_to}
use Rattle.compact.proofs.Closing.{any_at}
use Rattle.compact.proofs.Gets.{kept_part}
use Rattle.compact.proofs.LawfulAfter.{has_ends}
use Rattle.compact.proofs.Outputs.{stepped}
use Rattle.compact.proofs.PassedRequests.{passed_law}
use Rattle.store.specs.FolderRequest.{compaction_from, manifest_of, request_from}
use Rattle.store.proofs.PartFiles.{ArePlaced}
use Rattle.levels.specs.Survival.{IsNumbered}
use Rattle.levels.proofs.PartStep.{thread_at}
use Rattle.levels.proofs.StayingInputs.{below_manifest}
use Rattle.store.proofs.ClosedJoint.{new_numbers}

all_both : {X : Type 0} (P : X → Type 0) (xs ys : List X) → AllByRecursion P xs → AllByRecursion P ys → AllByRecursion P (xs ++ ys)
all_both P [] ys h k = k
all_both P (x ∷ xs) ys h k = (h.0, all_both P xs ys h.1 k)

-- ---- the keys of what was read

abbrev HasKey : Entry → Type 0
HasKey e = internal_key_reading e.key ≡ Ok e.key

at_input : {A : Type 0} (place : ℕ) (step : Result A Fault) (a : A) → result_at_input place step ≡ Ok a → step ≡ Ok a
at_input place (Ok x) a h = h
at_input place (Err e) a h = absurd cc

united : (b : Bool) (u union : List Entry) → (if b then Ok u else Err (fault Duplicate)) ≡ Ok union → u ≡ union
united true u union h = ok_is u union h
united false u union h = absurd cc

module _ (cmp : List ℕ → List ℕ → Ordering) where
  table_keys : (bytes : List ℕ) (t : Contents) → contents_reading cmp bytes ≡ Ok t → HaveKeys t.entries
  table_keys bytes t h =
      let first = stepped (blocks_of cmp bytes) (λ (blocks : List DataBlock). Ok (contents_of bytes blocks)) t h in
      let named = stepped (index_in bytes) (λ (entries : List Entry). index_reading bytes entries >>= λ index. data_reading cmp index) first.value (sym (blocks_by cmp bytes) ∙ first.is) in
      let index = stepped (index_reading bytes named.value) (λ index. data_reading cmp index) first.value named.goes_on in
      let read = read_data cmp index.value first.value index.goes_on in
      subst HaveKeys (ap (λ (c : Contents). c.entries) (ok_is (contents_of bytes first.value) t first.goes_on))
      (have_keys cmp None (entries_of first.value) (all_tests cmp None index.value first.value read.read))

  input_keys : (f : FileMeta) (bytes : List ℕ) (entries : List Entry) → input_reading cmp f bytes ≡ Ok entries → HaveKeys entries
  input_keys f bytes entries h =
      let first = stepped (contents_reading cmp bytes) (λ (t : Contents). test_result (table_matches_metadata f t) Bounds >>= λ _. Ok t.entries) entries h in
      let second = stepped (test_result (table_matches_metadata f first.value) Bounds) (λ _. Ok first.value.entries) entries first.goes_on in
      subst HaveKeys (ok_is first.value.entries entries second.goes_on) (table_keys bytes first.value first.is)

  inputs_keys : (place : ℕ) (files : List InputFile) (given : List (List ℕ)) (inputs : List (List Entry)) → inputs_reading cmp place files given ≡ Ok inputs → HaveKeys (entries_of_lists inputs)
  inputs_keys place [] [] inputs h = subst (λ (l : List (List Entry)). HaveKeys (entries_of_lists l)) (ok_is [] inputs h) tt
  inputs_keys place [] (b ∷ given) inputs h = subst (λ (l : List (List Entry)). HaveKeys (entries_of_lists l)) (ok_is [] inputs h) tt
  inputs_keys place (i ∷ files) [] inputs h = subst (λ (l : List (List Entry)). HaveKeys (entries_of_lists l)) (ok_is [] inputs h) tt
  inputs_keys place (i ∷ files) (b ∷ given) inputs h =
      let first = stepped (result_at_input place (input_reading cmp i.meta b)) (λ (entries : List Entry). inputs_reading cmp (place + 1) files given >>= λ rest. Ok (entries ∷ rest)) inputs h in
      let second = stepped (inputs_reading cmp (place + 1) files given) (λ (rest : List (List Entry)). Ok (first.value ∷ rest)) inputs first.goes_on in
      subst (λ (l : List (List Entry)). HaveKeys (entries_of_lists l)) (ok_is (first.value ∷ second.value) inputs second.goes_on)
      (all_both HasKey first.value (entries_of_lists second.value) (input_keys i.meta b first.value (at_input place (input_reading cmp i.meta b) first.value first.is)) (inputs_keys (place + 1) files given second.value second.is))

-- ---- the outputs of an answer

module _ (table : List Entry → List ℕ) where
  numbered : (number : ℕ) (qs : List (List Entry)) → AreNumberedFrom number (outputs_from table number qs)
  numbered number [] = tt
  numbered number (q ∷ qs) = (refl, numbered (number + 1) qs)

  from_cut : (number : ℕ) (qs : List (List Entry)) (w : Output) → Contains (outputs_from table number qs) w → Contains qs w.entries
  from_cut number [] w at = absurd (none_in w at)
  from_cut number (q ∷ qs) w at = elim (first_or_later (record { number = number; entries = q; bytes = table q }) (outputs_from table (number + 1) qs) w at) [
    | inl same ↦ subst (Contains (q ∷ qs)) (sym (ap (λ (x : Output). x.entries) same)) (first_in q qs)
    | inr later ↦ later_in q qs w.entries (from_cut (number + 1) qs w later)
  ]

pub below_told : (m n : ℕ) → nat_lt m n ≡ true → m < n
below_told m n h = grind (arith, nat_tests)

most_told : (m n : ℕ) → nat_le m n ≡ true → m ≤ n
most_told m n h = grind (arith, nat_tests)

all_told : {X : Type 0} (p : X → Bool) (xs : List X) → list_all p xs ≡ true → (x : X) → Contains xs x → p x ≡ true
all_told p [] h x at = absurd (none_in x at)
all_told p (y ∷ ys) h x at =
    elim (first_or_later y ys x at) [
      | inl same ↦ ap p same ∙ and_first (p y) (list_all p ys) h
      | inr later ↦ all_told p ys (and_second (p y) (list_all p ys) h) x later
    ]

pub record HasOutputs (cmp : List ℕ → List ℕ → Ordering) (r : RequestView) (a : Answer) : Type 0 where
  pub passed : IsPassed cmp r
  pub outputs : List Output
  pub numbered : AreNumberedFrom r.first_number outputs
  pub few : r.first_number + length outputs < 2 ^ 64
  pub small : (w : Output) → Contains outputs w → length w.bytes ≤ 2 ^ 30
  pub some : (w : Output) → Contains outputs w → w.entries ≢ []
  pub keys : (w : Output) → Contains outputs w → (e : Entry) → Contains w.entries e → HasKey e
  pub tables : a.tables ≡ numbered_tables outputs
  pub edit : a.edit ≡ edit_bytes (edit_of r (new_files r outputs))

pub has_outputs : (cmp : List ℕ → List ℕ → Ordering) (short_keys : ShortKeys) (r : RequestView) (a : Answer) → one_thread cmp short_keys r ≡ Ok a → HasOutputs cmp r a
has_outputs cmp short_keys r a h =
    let b = below_request r in
    let cut : List Entry → List (List Entry) = λ union. outputs cmp b r.options union in
    let made : List Entry → List Output = λ union. outputs_from (table_for cmp short_keys r) r.first_number (cut union) in
    let tested = stepped (request_test cmp r) (λ _. inputs_reading cmp 0 r.picked.files r.tables >>= λ inputs. union_reading cmp inputs >>= λ union. outputs_answer r (made union)) a h in
    let read = stepped (inputs_reading cmp 0 r.picked.files r.tables) (λ inputs. union_reading cmp inputs >>= λ union. outputs_answer r (made union)) a tested.goes_on in
    let joined = stepped (union_reading cmp read.value) (λ union. outputs_answer r (made union)) a read.goes_on in
    let union = joined.value in
    let ws = made union in
    let answer : Answer = record { tables = numbered_tables ws; edit = edit_bytes (edit_of r (new_files r ws)) } in
    let limits = stepped (outputs_test r.options r.first_number ws) (λ _. Ok answer) a joined.goes_on in
    let is_short : Output → Bool = λ w. nat_le (length w.bytes) (2 ^ 30) in
    let numbers = stepped (test_result (nat_lt (r.first_number + length ws) (2 ^ 64)) Numbers) (λ _. test_result (list_all is_short ws && nat_le (data_block_count r.options ws) (2 ^ 40)) TooLarge) limits.value limits.is in
    let short = and_first (list_all is_short ws) (nat_le (data_block_count r.options ws) (2 ^ 40)) (passed (list_all is_short ws && nat_le (data_block_count r.options ws) (2 ^ 40)) TooLarge numbers.value numbers.goes_on) in
    let is : answer ≡ a = ok_is answer a limits.goes_on in
    let all = kept cmp b.readable b.deeper union in
    let whole : entries_of_lists (cut union) ≡ all = all_segments r.options 0 (stops b.grandparents r.options.file_size (heads cmp b union)) all in
    let keys : HaveKeys union =
    subst HaveKeys (united (are_distinct (merged cmp read.value)) (merged cmp read.value) union joined.is)
    (all_sorted HasKey cmp (entries_of_lists read.value) (inputs_keys cmp 0 r.picked.files r.tables read.value read.is)) in
    record {
      passed = passed_law cmp r tested.is;
      outputs = ws;
      numbered = numbered (table_for cmp short_keys r) r.first_number (cut union);
      few = below_told (r.first_number + length ws) (2 ^ 64) (passed (nat_lt (r.first_number + length ws) (2 ^ 64)) Numbers numbers.value numbers.is);
      small = λ w at. most_told (length w.bytes) (2 ^ 30) (all_told is_short ws short w at);
      some = λ w at. each_of (λ (q : List Entry). q ≢ []) (cut union) (some_segments r.options 0 (stops b.grandparents r.options.file_size (heads cmp b union)) all) w.entries (from_cut (table_for cmp short_keys r) r.first_number (cut union) w at);
      keys = λ w at e there.
          let held = in_flat_map (λ (q : List Entry). q) (cut union) w.entries e (from_cut (table_for cmp short_keys r) r.first_number (cut union) w at) there in
          each_of HasKey union keys e (kept_part cmp b.readable b.deeper None union e (subst (λ (l : List Entry). Contains l e) whole held));
      tables = sym (ap (λ (x : Answer). x.tables) is);
      edit = sym (ap (λ (x : Answer). x.edit) is);
    }

-- ---- bytes

left_bytes : (xs ys : List ℕ) → AreBytes (xs ++ ys) → AreBytes xs
left_bytes [] ys h zero = omega arith
left_bytes [] ys h (suc i) = omega arith
left_bytes (x ∷ xs) ys h zero = h zero
left_bytes (x ∷ xs) ys h (suc i) = left_bytes xs ys (λ j. h (suc j)) i

right_bytes : (xs ys : List ℕ) → AreBytes (xs ++ ys) → AreBytes ys
right_bytes [] ys h = h
right_bytes (x ∷ xs) ys h = right_bytes xs ys (λ j. h (suc j))

spelled : (fields : List Field) (x : Field) → Contains fields x → AreBytes (flat_map spelling fields) → AreBytes (spelling x)
spelled [] x at h = absurd (none_in x at)
spelled (y ∷ ys) x at h = elim (first_or_later y ys x at) [
  | inl same ↦ subst (λ (z : Field). AreBytes (spelling z)) (sym same) (left_bytes (spelling y) (flat_map spelling ys) h)
  | inr later ↦ spelled ys x later (right_bytes (spelling y) (flat_map spelling ys) h)
]

-- the keys of a new file
file_keys : (e : Edit) (f : NewFile) → Contains e.added f → AreBytes (edit_bytes e) → AreBytes f.meta.smallest × AreBytes f.meta.largest
file_keys e f at h =
    let before = settings_of e ++ map SetPointer e.pointers ++ map DeleteFile e.deleted in
    let one = spelled (fields_of e) (AddFile f) (Contains-append_right before (map AddFile e.added) (AddFile f) (in_map AddFile e.added f at)) h in
    let keys = length_prefixed f.meta.smallest ++ length_prefixed f.meta.largest in
    let size = right_bytes (varint f.meta.number) (varint f.meta.size ++ keys) (right_bytes (varint f.level) (varint f.meta.number ++ (varint f.meta.size ++ keys)) (right_bytes (varint 7) (varint f.level ++ (varint f.meta.number ++ (varint f.meta.size ++ keys))) one)) in
    let both = right_bytes (varint f.meta.size) keys size in (
      right_bytes (varint (length f.meta.smallest)) f.meta.smallest (left_bytes (length_prefixed f.meta.smallest) (length_prefixed f.meta.largest) both),
      right_bytes (varint (length f.meta.largest)) f.meta.largest (right_bytes (length_prefixed f.meta.smallest) (length_prefixed f.meta.largest) both),
    )

-- ---- numbers that rise

abbrev pub AreRising : ℕ → List NewFile → Type 0
AreRising n [] = Unit {0}
AreRising n (f ∷ files) = (n ≤ f.meta.number) × AreRising (f.meta.number + 1) files

lower : (m n : ℕ) (files : List NewFile) → m ≤ n → AreRising n files → AreRising m files
lower m n [] le h = tt
lower m n (f ∷ files) le h = let first = h.0 in (omega (arith, le, first), h.1)

pub at_least : (n : ℕ) (files : List NewFile) → AreRising n files → (f : NewFile) → Contains files f → n ≤ f.meta.number
at_least n [] h f at = absurd (none_in f at)
at_least n (g ∷ files) h f at =
    let first = h.0 in
    elim (first_or_later g files f at) [
      | inl same ↦ (let is = ap (λ (x : NewFile). x.meta.number) same in omega (arith, first, is))
      | inr later ↦ (let le = at_least (g.meta.number + 1) files h.1 f later in omega (arith, first, le))
    ]

rising_two : (n m : ℕ) (xs ys : List NewFile) → n ≤ m → AreRising n xs → ((f : NewFile) → Contains xs f → f.meta.number < m) → AreRising m ys → AreRising n (xs ++ ys)
rising_two n m [] ys le h below k = lower n m ys le k
rising_two n m (x ∷ xs) ys le h below k = (h.0, rising_two (x.meta.number + 1) m xs ys (let lt = below x (first_in x xs) in omega (arith, lt)) h.1 (λ f at. below f (later_in x xs f at)) k)

other_number : (m n : ℕ) → m < n → nat_eq m n ≡ false
other_number m n lt = by (nat_eq m n) refl
  where
    by : (b : Bool) → nat_eq m n ≡ b → b ≡ false
    by true e = absurd (let same = eqb-true m n e in omega (arith, same, lt))
    by false e = refl

pub no_number : (n m : ℕ) (files : List NewFile) → AreRising n files → m < n → has_number files m ≡ false
no_number n m files h lt = none_tests (λ (g : NewFile). nat_eq m g.meta.number) files (λ g at. let le = at_least n files h g at in other_number m g.meta.number (omega (arith, le, lt)))

pub apart_of : (n : ℕ) (files : List NewFile) → AreRising n files → are_apart files ≡ true
apart_of n [] h = refl
apart_of n (f ∷ files) h = and_both (not (has_number files f.meta.number)) (are_apart files) (ap not (no_number (f.meta.number + 1) f.meta.number files h.1 (omega arith))) (apart_of (f.meta.number + 1) files h.1)

new_rising : (level n : ℕ) (ws : List Output) → AreNumberedFrom n ws → AreRising n (map (new_file level) ws)
new_rising level n [] h = tt
new_rising level n (w ∷ ws) h = let is : w.number ≡ n = h.0 in (omega (arith, is), subst (λ (m : ℕ). AreRising (m + 1) (map (new_file level) ws)) (sym is) (new_rising level (n + 1) ws h.1))

-- ---- edits of answers, one after the other

none_sorted : IsStrictlySortedBy deleted_cmp []
unfolding IsStrictlySortedBy
none_sorted = tt

each_field : {X : Type 0} (field : X → Field) (xs : List X) → ((x : X) → Contains xs x → IsField (field x)) → AllByRecursion IsField (map field xs)
each_field field [] h = tt
each_field field (x ∷ xs) h = (h x (first_in x xs), each_field field xs (λ y at. h y (later_in x xs y at)))

-- Bytes read as one edit over a version. Its new files are these tables, with numbers from the first
-- on and below the last. It deletes files of the version alone.
pub record IsEditOver (v : State) (first last : ℕ) (tables : List (ℕ × List ℕ)) (bytes : List ℕ) : Type 0 where
  pub edit : Edit
  pub read : IsEdit bytes edit
  pub unnamed : edit.comparator ≡ None
  pub log_set : is_some edit.log_number ≡ true
  pub previous_set : is_some edit.previous_log ≡ true
  pub last_set : is_some edit.last_sequence ≡ true
  pub next_set : edit.next_file ≡ Some last
  pub added : map (λ (f : NewFile). f.meta.number) edit.added ≡ numbers_of tables
  pub rising : AreRising first edit.added
  pub below : (f : NewFile) → Contains edit.added f → f.meta.number < last
  pub places : (d : DeletedFile) → Contains edit.deleted d → has_place v.files d ≡ true
  pub higher : first ≤ last
  pub small : last < 2 ^ 64

module _ (cmp : List ℕ → List ℕ → Ordering) (short_keys : ShortKeys) (v : State) (is : IsNumbered v) (n : ℕ) (loaded : List (ℕ × List ℕ)) (p : PickedInputs) (s : Settings) (a : Answer)
    (high : manifest_of v < n) (placed : ArePlaced v p) (pointer : IsInternalKey p.pointer.key) (bytes : AreBytes a.edit) (answered : compaction_from (Some n) cmp short_keys v loaded p s ≡ Ok a) where
  abbrev r : RequestView
  r = request_from n v loaded p s

  out : HasOutputs cmp r a
  out = has_outputs cmp short_keys r a (thread_at cmp short_keys v loaded p s n a high answered)

  abbrev own : Edit
  own = edit_of r (new_files r out.outputs)

  count : length a.tables ≡ length out.outputs
  count = ap length out.tables ∙ length-map out.outputs (λ (w : Output). (w.number, w.bytes))

  input_of : (d : DeletedFile) → Contains (deletions_of p.files) d → (i : InputFile) × Contains p.files i × (deletion_of i ≡ d)
  input_of d at = elim (all_only deleted_cmp tied [] (map deletion_of p.files) d at) [
    | inl none ↦ absurd (none_in d none)
    | inr there ↦ (let x = from_map deletion_of p.files d there in (x.source, x.there, x.is))
  ]

  deletion : (d : DeletedFile) → Contains (deletions_of p.files) d → IsField (DeleteFile d)
  deletion d at =
      let i = input_of d at in
      let low = placed.levels i.0 i.1 in
      let lt = below_manifest v.next_file i.0.meta.number (All-contains (λ (f : NewFile). IsBelowNextFile v.next_file f.meta.number) v.files (as_file i.0) is.below (placed.there i.0 i.1)) in
      let level = ap (λ (x : DeletedFile). x.level) i.2 in
      let number = ap (λ (x : DeletedFile). x.number) i.2 in
      let few = out.few in
      (omega (arith, low, level), omega (arith, lt, number, few, high))

  addition : (w : Output) → Contains out.outputs w → IsField (AddFile (new_file (p.level + 1) w))
  addition w at =
      let ends = has_ends w.entries (out.some w at) in
      let five : p.level ≤ 5 = out.passed.level in
      let lt = numbered_to n out.outputs out.numbered w at in
      let few = out.few in
      let small = out.small w at in
      let keys = file_keys own (new_file (p.level + 1) w) (in_map (new_file (p.level + 1)) out.outputs w at) (subst AreBytes out.edit bytes) in
      let smallest = subst (λ (k : List ℕ). internal_key_reading k ≡ Ok k) ends.first_key_is (out.keys w at ends.first ends.first_there) in
      let largest = subst (λ (k : List ℕ). internal_key_reading k ≡ Ok k) ends.last_key_is (out.keys w at ends.last ends.last_there) in
      (omega (arith, five), omega (arith, lt, few), omega (arith, small), IsInternalKey-reading _ _ keys.0 smallest, IsInternalKey-reading _ _ keys.1 largest)

  own_read : IsEdit a.edit own
  own_read =
      let five : p.level ≤ 5 = out.passed.level in
      let low : r.last_sequence < 2 ^ 56 - 1 = out.passed.last_sequence in
      let files = length-map out.outputs (new_file (p.level + 1)) in
      let few = out.few in
      let sorted : IsStrictlySortedBy deleted_cmp (deletions_of p.files) = sorted_all deleted_cmp deleted_total [] (map deletion_of p.files) none_sorted in
      subst (λ (b : List ℕ). IsEdit b own) (sym out.edit) (reads_back own sorted (fields_lawful own (is.log, (is.previous, (omega (arith, few, files), (omega (arith, low), tt)))) ((omega (arith, five), pointer), tt)
      (each_field DeleteFile (deletions_of p.files) deletion)
      (each_field AddFile (new_files r out.outputs) (λ f at. let x = from_map (new_file (p.level + 1)) out.outputs f at in subst (λ (g : NewFile). IsField (AddFile g)) x.is (addition x.source x.there)))))

  pub own_edit : IsEditOver v n (n + length a.tables) a.tables a.edit
  own_edit = record {
    edit = own;
    read = own_read;
    unnamed = refl;
    log_set = refl;
    previous_set = refl;
    last_set = refl;
    next_set = ap (λ (k : ℕ). Some (n + k)) (length-map out.outputs (new_file (p.level + 1)) ∙ sym count);
    added = new_numbers (p.level + 1) out.outputs ∙ sym (ap numbers_of out.tables);
    rising = new_rising (p.level + 1) n out.outputs out.numbered;
    below = λ f at.
        let x = from_map (new_file (p.level + 1)) out.outputs f at in
        let lt = numbered_to n out.outputs out.numbered x.source x.there in
        let number : x.source.number ≡ f.meta.number = ap (λ (g : NewFile). g.meta.number) x.is in
        let same = count in
        omega (arith, lt, number, same);
    places = λ d at.
        let i = input_of d at in
        any_at (λ (g : NewFile). is_same_place (place_of g) d) v.files (as_file i.0) (placed.there i.0 i.1)
        (subst (λ (x : DeletedFile). is_same_place (place_of (as_file i.0)) x ≡ true) i.2 (same_place i.0));
    higher = omega arith;
    small = let few = out.few in let same = count in omega (arith, few, same);
  }
    where
      same_place : (i : InputFile) → is_same_place (place_of (as_file i)) (deletion_of i) ≡ true
      same_place i = and_both (nat_eq i.level i.level) (nat_eq i.meta.number i.meta.number) (eq-eqb i.level i.level refl) (eq-eqb i.meta.number i.meta.number refl)

  -- an input tells that the version has a next file
  pub next_there : v.next_file ≡ Some (manifest_of v)
  next_there = by p.files out.passed.some (λ i at. All-contains (λ (f : NewFile). IsBelowNextFile v.next_file f.meta.number) v.files (as_file i) is.below (placed.there i at))
    where
      some_next : (next : Option ℕ) (m : ℕ) → IsBelowNextFile next m → next ≡ Some (unwrap_or next 0)
      some_next None m h = absurd h
      some_next (Some k) m h = refl

      by : (files : List InputFile) → files ≢ [] → ((i : InputFile) → Contains files i → IsBelowNextFile v.next_file i.meta.number) → v.next_file ≡ Some (manifest_of v)
      by [] none below = absurd (none refl)
      by (i ∷ files) none below = some_next v.next_file i.meta.number (below i (first_in i files))

-- two of them, one after the other
pub edits_two : (v : State) (first middle last : ℕ) (one two : List (ℕ × List ℕ)) (front back : List ℕ) → IsEditOver v first middle one front → IsEditOver v (middle + 1) last two back → IsEditOver v first last (one ++ two) (front ++ back)
edits_two v first middle last one two front back h k = record {
  edit = joined_edit h.edit k.edit;
  read = edits_join front back h.edit k.edit h.read k.read;
  unnamed = ap (λ (o : Option (List ℕ)). option_or o h.edit.comparator) k.unnamed ∙ h.unnamed;
  log_set = later k.edit.log_number h.edit.log_number k.log_set;
  previous_set = later k.edit.previous_log h.edit.previous_log k.previous_set;
  last_set = later k.edit.last_sequence h.edit.last_sequence k.last_set;
  next_set = ap (λ (o : Option ℕ). option_or o h.edit.next_file) k.next_set;
  added =
      map-append (λ (f : NewFile). f.meta.number) h.edit.added k.edit.added
      ∙ ap (λ (ns : List ℕ). ns ++ map (λ (f : NewFile). f.meta.number) k.edit.added) h.added
      ∙ ap (λ (ns : List ℕ). numbers_of one ++ ns) k.added
      ∙ sym (map-append (λ (t : ℕ × List ℕ). t.0) one two);
  rising = let higher = h.higher in rising_two first (middle + 1) h.edit.added k.edit.added (omega (arith, higher)) h.rising (λ f at. let lt = h.below f at in omega (arith, lt)) k.rising;
  below = λ f at. elim (Contains-append_cases h.edit.added k.edit.added f at) [
    | inl own ↦ (let lt = h.below f own in let higher = k.higher in omega (arith, lt, higher))
    | inr own ↦ k.below f own
  ];
  places = λ d at. elim (all_only deleted_cmp tied h.edit.deleted k.edit.deleted d at) [
    | inl own ↦ h.places d own
    | inr own ↦ k.places d own
  ];
  higher = let one = h.higher in let two = k.higher in omega (arith, one, two);
  small = k.small;
}
  where
    later : (o p : Option ℕ) → is_some o ≡ true → is_some (option_or o p) ≡ true
    later (Some x) p e = refl
    later None p e = absurd (cc e)
