-- What an answer is made of.
use Rattle.std.proofs.Common.{◌≡◌, ◌≢◌, ℕ, ◌+◌, ◌<◌, ◌≤◌, ◌^◌, Bool, true, false, ◌&&◌, List, [], ◌∷◌, ◌++◌, length, map, refl, sym, ap, subst, ◌∙◌, inl, inr, Some, None, Option, Result, Ok, Err, arith}
use Rattle.std.specs.Prelude.{All, Contains, nat_lt, nat_le, if◌then◌else◌}
use Rattle.std.specs.List.{AllByRecursion, list_all}
use Rattle.std.specs.Option.{option_map}
use Rattle.std.specs.Ordering.{nat_cmp, ordering_then}
use Rattle.std.specs.Cmp.{IsTotalOrder}
use Rattle.std.specs.declared.cmp.Ordering.{Ordering}
use Rattle.std.specs.declared.cmp.Ordering.TheVariants.{Less, Equal, Greater}
use Rattle.std.proofs.lemmas.Bool.Decides.{nat_tests}
use Rattle.std.proofs.lemmas.List.Sorted.{Contains-permutation, IsPermutation-sym}
use Rattle.std.proofs.lemmas.List.Elements.{All-from_recursion, All-contains}
use Rattle.ikey.specs.Answers.{fault, ◌>>=◌}
use Rattle.ikey.specs.fault.Fault.{Fault}
use Rattle.ikey.specs.fault.FaultName.TheVariants.{Bounds, Duplicate, Numbers, TooLarge}
use Rattle.ikey.specs.Comparator.{ShortKeys, IsExact}
use Rattle.ikey.specs.Key.{IsInternalKey, user_of, sequence_of, kind_of, kind_number}
use Rattle.ikey.specs.Order.{internal_cmp}
use Rattle.table.specs.EncodedEntry.{Entry}
use Rattle.table.specs.TableContents.{Contents, DataBlock, blocks_of, contents_of, contents_reading, data_reading, entries_of, index_in}
use Rattle.table.specs.EntryTests.{entries_test}
use Rattle.table.specs.IndexReading.{index_reading}
use Rattle.table.specs.ReadBackLaw.{IsWritable, ReadBackLaw}
use Rattle.table.specs.EntriesFrom.{EntriesRise}
use Rattle.table.specs.TestResult.{test_result}
use Rattle.table.specs.TableBytes.{IsTable}
use Rattle.table.specs.Table.{table}
use Rattle.table.proofs.CheckedTables.{blocks_by, contents_are, contents_read, read_data}
use Rattle.table.proofs.EntryTests.{all_tests, passed, passes}
use Rattle.table.proofs.Tables.{reads_tables}
use Rattle.edit.specs.Edit.{edit_bytes}
use Rattle.edit.specs.Version.{State}
use Rattle.edit.specs.declared.meta.FileMeta.{FileMeta}
use Rattle.edit.specs.declared.meta.NewFile.{NewFile}
use Rattle.reads.specs.MergedLists.{entries_of_lists, merged}
use Rattle.reads.specs.Union.{key_version_cmp, VersionsRise, IsUnion}
use Rattle.pick.specs.declared.picked_inputs.InputFile.{InputFile}
use Rattle.pick.proofs.Lists.{and_first, and_second}
use Rattle.reads.specs.Lawful.{IsLawful, IsFileOf}
use Rattle.reads.specs.Tables.{NumberedContents, table_of_number, table_entries}
use Rattle.reads.proofs.Answers.{entries_are}
use Rattle.reads.proofs.FallingEntries.{each_of, of_each}
use Rattle.reads.proofs.Members.{first_or_later, later_in, first_in, none_in, in_flat_map, from_flat_map, in_map, from_map}
use Rattle.keep.specs.DropRule.{keeps, kept_after, kept}
use Rattle.keep.specs.Readable.{Readable, readable_of}
use Rattle.keep.specs.Marks.{heads}
use Rattle.keep.specs.Runs.{are_distinct}
use Rattle.keep.proofs.Distinct.{distinct_holds}
use Rattle.cut.specs.Outputs.{outputs, UsersRise}
use Rattle.compact.specs.OutputTables.{Output, data_block_count, numbered_tables, outputs_from, outputs_test}
use Rattle.cut.proofs.Apart.{whole_law}
use Rattle.compact.specs.Request.{RequestView, below_request, request_test}
use Rattle.compact.specs.Inputs.{result_at_input, input_reading, inputs_reading, table_matches_metadata, union_reading}
use Rattle.compact.specs.EditOf.{edit_of, new_files}
use Rattle.compact.specs.OneThread.{Answer, one_thread, outputs_answer, table_for}
use Rattle.compact.specs.GetsAfter.{entries_of_inputs}
use Rattle.compact.specs.EditAfter.{AreNumberedFrom}
use Rattle.compact.specs.RequestOverVersion.{input_bytes_of, IsOver, AreWritten, output_entries, HoldOutputs, OutputsHold}
use Rattle.compact.proofs.Gets.{kept_part}
use Rattle.compact.proofs.VersionInputs.{AreOfVersion, input_file}

-- ---- steps that may be refused

-- a step that was taken, and the next one
pub record Stepped {A B : Type 0} (step : Result A Fault) (next : A → Result B Fault) (b : B) : Type 0 where
  pub value : A
  pub is : step ≡ Ok value
  pub goes_on : next value ≡ Ok b

pub stepped : {A B : Type 0} (step : Result A Fault) (next : A → Result B Fault) (b : B) → (step >>= next) ≡ Ok b → Stepped step next b
stepped (Ok a) next b h = record { value = a; is = refl; goes_on = h }
stepped (Err e) next b h = absurd cc

abbrev ok : {A : Type 0} → A → Result A Fault
ok a = Ok a

abbrev value_in : {A : Type 0} → A → Result A Fault → A
value_in d (Ok x) = x
value_in d (Err e) = d

ok_is : {A : Type 0} (a b : A) → ok a ≡ ok b → a ≡ b
ok_is a b h = ap (value_in a) h

placed : {A : Type 0} (place : ℕ) (step : Result A Fault) (a : A) → result_at_input place step ≡ Ok a → step ≡ Ok a
placed place (Ok x) a h = h
placed place (Err e) a h = absurd cc

below_told : (m n : ℕ) → nat_lt m n ≡ true → m < n
below_told m n h = grind (arith, nat_tests)

most_told : (m n : ℕ) → nat_le m n ≡ true → m ≤ n
most_told m n h = grind (arith, nat_tests)

all_told : {X : Type 0} (p : X → Bool) (xs : List X) → list_all p xs ≡ true → (x : X) → Contains xs x → p x ≡ true
all_told p [] h x at = absurd (none_in x at)
all_told p (y ∷ ys) h x at =
    elim (first_or_later y ys x at) [
      | inl same ↦ ap p same ∙ and_first (p y) (list_all p ys) h
      | inr later ↦ all_told p ys (and_second (p y) (list_all p ys) h) x later
    ]

-- ---- the inputs

-- what an input's bytes hold is what the version's table holds
input_is : (cmp : List ℕ → List ℕ → Ordering) (f : FileMeta) (bytes : List ℕ) (table : Contents) (entries : List Entry) → contents_reading cmp bytes ≡ Ok table → input_reading cmp f bytes ≡ Ok entries → entries ≡ table.entries
input_is cmp f bytes table entries is h =
    let first = stepped (contents_reading cmp bytes) (λ (t : Contents). test_result (table_matches_metadata f t) Bounds >>= λ _. Ok t.entries) entries h in
    let second = stepped (test_result (table_matches_metadata f first.value) Bounds) (λ _. Ok first.value.entries) entries first.goes_on in
    let same : table ≡ first.value = ok_is table first.value (sym is ∙ first.is) in
    sym (ok_is first.value.entries entries second.goes_on) ∙ sym (ap (λ (t : Contents). t.entries) same)

abbrev some_of : {A : Type 0} → A → Option A → A
some_of d (Some x) = x
some_of d None = d

some_is : {A : Type 0} (a b : A) → Some a ≡ Some b → a ≡ b
some_is a b h = ap (some_of a) h

abbrev head_of : {A : Type 0} → A → List A → A
head_of d [] = d
head_of d (x ∷ xs) = x

abbrev tail_of : {A : Type 0} → List A → List A
tail_of [] = []
tail_of (x ∷ xs) = xs

head_is : {A : Type 0} (a b : A) (xs ys : List A) → a ∷ xs ≡ b ∷ ys → a ≡ b
head_is a b xs ys h = ap (head_of a) h

tail_is : {A : Type 0} (a b : A) (xs ys : List A) → a ∷ xs ≡ b ∷ ys → xs ≡ ys
tail_is a b xs ys h = ap tail_of h

inputs_are : (cmp : List ℕ → List ℕ → Ordering) (tables : List NumberedContents) (files : List InputFile) (given : List (List ℕ)) (place : ℕ) (inputs : List (List Entry)) → ((i : InputFile) → Contains files i → IsFileOf cmp tables i.meta)
    → map (input_bytes_of tables) files ≡ map (λ b. Some b) given → inputs_reading cmp place files given ≡ Ok inputs → inputs ≡ map (λ (i : InputFile). table_entries tables i.meta.number) files
inputs_are cmp tables [] [] place inputs are bytes h = sym (ok_is [] inputs h)
inputs_are cmp tables [] (b ∷ given) place inputs are bytes h = absurd cc
inputs_are cmp tables (i ∷ files) [] place inputs are bytes h = absurd cc
inputs_are cmp tables (i ∷ files) (b ∷ given) place inputs are bytes h =
    let own = are i (first_in i files) in
    let first = stepped (result_at_input place (input_reading cmp i.meta b)) (λ (entries : List Entry). inputs_reading cmp (place + 1) files given >>= λ rest. Ok (entries ∷ rest)) inputs h in
    let second = stepped (inputs_reading cmp (place + 1) files given) (λ (rest : List (List Entry)). Ok (first.value ∷ rest)) inputs first.goes_on in
    let there : input_bytes_of tables i ≡ Some own.table.bytes = ap (λ (o : Option Contents). option_map (λ (t : Contents). t.bytes) o) own.there in
    let bytes_are : b ≡ own.table.bytes = some_is b own.table.bytes (sym (head_is (input_bytes_of tables i) (Some b) (map (input_bytes_of tables) files) (map (λ x. Some x) given) bytes) ∙ there) in
    let reads : contents_reading cmp b ≡ Ok own.table = ap (contents_reading cmp) bytes_are ∙ own.accepted in
    let entries : first.value ≡ table_entries tables i.meta.number = input_is cmp i.meta b own.table first.value reads (placed place (input_reading cmp i.meta b) first.value first.is) ∙ sym (entries_are tables i.meta.number own.table own.there) in
    let rest = inputs_are cmp tables files given (place + 1) second.value (λ x at. are x (later_in i files x at)) (tail_is (input_bytes_of tables i) (Some b) (map (input_bytes_of tables) files) (map (λ x. Some x) given) bytes) second.is in
    sym (ok_is (first.value ∷ second.value) inputs second.goes_on) ∙ (ap (λ (e : List Entry). e ∷ second.value) entries ∙ ap (λ (es : List (List Entry)). table_entries tables i.meta.number ∷ es) rest)

-- ---- the outputs

module _ (table_of_number : List Entry → List ℕ) where
  outputs_numbered : (number : ℕ) (qs : List (List Entry)) → AreNumberedFrom number (outputs_from table_of_number number qs)
  outputs_numbered number [] = tt
  outputs_numbered number (q ∷ qs) = (refl, outputs_numbered (number + 1) qs)

  entries_are_cut : (number : ℕ) (qs : List (List Entry)) → output_entries (outputs_from table_of_number number qs) ≡ qs
  entries_are_cut number [] = refl
  entries_are_cut number (q ∷ qs) = ap (λ (rest : List (List Entry)). q ∷ rest) (entries_are_cut (number + 1) qs)

  bytes_are : (number : ℕ) (qs : List (List Entry)) → AllByRecursion (λ (w : Output). w.bytes ≡ table_of_number w.entries) (outputs_from table_of_number number qs)
  bytes_are number [] = tt
  bytes_are number (q ∷ qs) = (refl, bytes_are (number + 1) qs)

-- ---- entries in order

module _ (cmp : List ℕ → List ℕ → Ordering) where
  keys_rise_by : (o p q : Ordering) → ordering_then o p ≡ Less → ordering_then o (ordering_then p q) ≡ Less
  keys_rise_by Less p q h = refl
  keys_rise_by Equal p q h = ap (λ x. ordering_then x q) h
  keys_rise_by Greater p q h = h

  keys_rise : (a b : List ℕ) → key_version_cmp cmp a b ≡ Less → internal_cmp cmp a b ≡ Less
  unfolding internal_cmp
  keys_rise a b h =
      keys_rise_by (cmp (user_of a) (user_of b)) (nat_cmp (sequence_of b) (sequence_of a)) (nat_cmp (kind_number (kind_of b)) (kind_number (kind_of a))) h

  pub union_rises : (es : List Entry) → VersionsRise cmp es → EntriesRise cmp es
  union_rises [] h = tt
  union_rises (e ∷ es) h = (
    of_each (λ (f : Entry). internal_cmp cmp e.key f.key ≡ Less) es (λ f at. keys_rise e.key f.key (each_of (λ (g : Entry). key_version_cmp cmp e.key g.key ≡ Less) es h.0 f at)),
    union_rises es h.1,
  )

  kept_rises : (r : Readable) (deeper : List FileMeta) (before : Option Entry) (es : List Entry) → EntriesRise cmp es → EntriesRise cmp (kept_after cmp r deeper before es)
  kept_rises r deeper before [] h = tt
  kept_rises r deeper before (e ∷ es) h = around (keeps cmp r deeper before e) (kept_rises r deeper (Some e) es h.1)
    where
      around : (b : Bool) → EntriesRise cmp (kept_after cmp r deeper (Some e) es) → EntriesRise cmp ((if b then e ∷ [] else []) ++ kept_after cmp r deeper (Some e) es)
      around true rest = (
        of_each (λ (f : Entry). internal_cmp cmp e.key f.key ≡ Less) (kept_after cmp r deeper (Some e) es)
            (λ f at. each_of (λ (g : Entry). internal_cmp cmp e.key g.key ≡ Less) es h.0 f (kept_part cmp r deeper (Some e) es f at)),
        rest,
      )
      around false rest = rest

  rises_front : (xs ys : List Entry) → EntriesRise cmp (xs ++ ys) → EntriesRise cmp xs
  rises_front [] ys h = tt
  rises_front (x ∷ xs) ys h = (front xs h.0, rises_front xs ys h.1)
    where
      front : (zs : List Entry) → AllByRecursion (λ f. internal_cmp cmp x.key f.key ≡ Less) (zs ++ ys) → AllByRecursion (λ f. internal_cmp cmp x.key f.key ≡ Less) zs
      front [] k = tt
      front (z ∷ zs) k = (k.0, front zs k.1)

  rises_behind : (xs ys : List Entry) → EntriesRise cmp (xs ++ ys) → EntriesRise cmp ys
  rises_behind [] ys h = h
  rises_behind (x ∷ xs) ys h = rises_behind xs ys h.1

  pub part_rises : (qs : List (List Entry)) → EntriesRise cmp (entries_of_lists qs) → (q : List Entry) → Contains qs q → EntriesRise cmp q
  part_rises [] h q at = absurd (none_in q at)
  part_rises (x ∷ xs) h q at =
      elim (first_or_later x xs q at) [
        | inl same ↦ subst (EntriesRise cmp) (sym same) (rises_front x (entries_of_lists xs) h)
        | inr later ↦ part_rises xs (rises_behind x (entries_of_lists xs) h) q later
      ]

  -- ---- what is read of a table

  values_tested : (before : Option (List ℕ)) (es : List Entry) → entries_test cmp before es ≡ Ok tt → AllByRecursion (λ e. length e.value ≤ 16777215) es
  values_tested before [] h = tt
  values_tested before (e ∷ es) h = let p = passes cmp before e es h in (p.first.value, values_tested (Some e.key) es p.behind)

  -- the values of a table that was read are within their limit
  values_read : (bytes : List ℕ) (t : Contents) → contents_reading cmp bytes ≡ Ok t → AllByRecursion (λ e. length e.value ≤ 16777215) t.entries
  values_read bytes t h =
      let first = stepped (blocks_of cmp bytes) (λ (blocks : List DataBlock). Ok (contents_of bytes blocks)) t h in
      let named = stepped (index_in bytes) (λ (entries : List Entry). index_reading bytes entries >>= λ index. data_reading cmp index) first.value (sym (blocks_by cmp bytes) ∙ first.is) in
      let index = stepped (index_reading bytes named.value) (λ index. data_reading cmp index) first.value named.goes_on in
      let read = read_data cmp index.value first.value index.goes_on in
      subst (λ (es : List Entry). AllByRecursion (λ e. length e.value ≤ 16777215) es) (ap (λ (c : Contents). c.entries) (ok_is (contents_of bytes first.value) t first.goes_on))
      (values_tested None (entries_of first.value) (all_tests cmp None index.value first.value read.read))

  -- bytes that are a table of a writable list are written
  table_written : IsTotalOrder cmp → (bytes : List ℕ) (q : List Entry) → IsWritable cmp q → length bytes ≤ 2 ^ 30 → IsTable cmp bytes q → AreWritten cmp bytes q
  table_written total bytes q writable small is =
      let first = stepped (blocks_of cmp bytes) (λ (blocks : List DataBlock). Ok (entries_of blocks)) q ((reads_tables cmp total).only bytes q is) in
      let contents = contents_are cmp bytes first.value first.is in
      record {
        some = writable.some;
        keys = writable.keys;
        rising = writable.rising;
        small = small;
        reads = contents_read cmp bytes first.value first.is;
        same = ap (λ (c : Contents). c.bytes) contents;
        holds = ap (λ (c : Contents). c.entries) contents ∙ ok_is (entries_of first.value) q first.goes_on;
      }

united : (b : Bool) (u union : List Entry) → (if b then Ok u else Err (fault Duplicate)) ≡ Ok union → (b ≡ true) × (u ≡ union)
united true u union h = (refl, ok_is u union h)
united false u union h = absurd cc

-- what an answer says of its outputs
record HasOutputs (r : RequestView) (ws : List Output) (answer : Answer) : Type 0 where
  few : r.first_number + length ws < 2 ^ 64
  small : (w : Output) → Contains ws w → length w.bytes ≤ 2 ^ 30
  is : record { tables = numbered_tables ws; edit = edit_bytes (edit_of r (new_files r ws)) } ≡ answer

has_outputs : (r : RequestView) (ws : List Output) (answer : Answer) → outputs_answer r ws ≡ Ok answer → HasOutputs r ws answer
has_outputs r ws answer h =
    let is_short : Output → Bool = λ w. nat_le (length w.bytes) (2 ^ 30) in
    let in_limits : Bool = list_all is_short ws && nat_le (data_block_count r.options ws) (2 ^ 40) in
    let made : Answer = record { tables = numbered_tables ws; edit = edit_bytes (edit_of r (new_files r ws)) } in
    let all = stepped (outputs_test r.options r.first_number ws) (λ _. Ok made) answer h in
    let numbers = stepped (test_result (nat_lt (r.first_number + length ws) (2 ^ 64)) Numbers) (λ _. test_result in_limits TooLarge) all.value all.is in
    let each = and_first (list_all is_short ws) (nat_le (data_block_count r.options ws) (2 ^ 40)) (passed in_limits TooLarge all.value numbers.goes_on) in
    record {
      few = below_told (r.first_number + length ws) (2 ^ 64) (passed (nat_lt (r.first_number + length ws) (2 ^ 64)) Numbers numbers.value numbers.is);
      small = λ w at. most_told (length w.bytes) (2 ^ 30) (all_told is_short ws each w at);
      is = ok_is made answer all.goes_on;
    }

module _ (cmp : List ℕ → List ℕ → Ordering) (total : IsTotalOrder cmp) (exact : IsExact cmp) (short_keys : ShortKeys) (reads_back : ReadBackLaw cmp short_keys)
    (v : State) (tables : List NumberedContents) (r : RequestView) (answer : Answer)
    (lawful : IsLawful cmp v tables) (placed : AreOfVersion v r.picked) (over : IsOver v tables r) (answers : one_thread cmp short_keys r ≡ Ok answer) where
  abbrev written_by : List Entry → List ℕ
  written_by = table_for cmp short_keys r

  abbrev cut : List Entry → List (List Entry)
  cut union = outputs cmp (below_request r) r.options union

  abbrev outputs_by : List Entry → List Output
  outputs_by union = outputs_from written_by r.first_number (cut union)

  abbrev answer_by : List Entry → Result Answer Fault
  answer_by union = outputs_answer r (outputs_by union)

  tested : Stepped (request_test cmp r) (λ _. inputs_reading cmp 0 r.picked.files r.tables >>= λ inputs. union_reading cmp inputs >>= answer_by) answer
  tested = stepped (request_test cmp r) (λ _. inputs_reading cmp 0 r.picked.files r.tables >>= λ inputs. union_reading cmp inputs >>= answer_by) answer answers

  read : Stepped (inputs_reading cmp 0 r.picked.files r.tables) (λ inputs. union_reading cmp inputs >>= answer_by) answer
  read = stepped (inputs_reading cmp 0 r.picked.files r.tables) (λ inputs. union_reading cmp inputs >>= answer_by) answer tested.goes_on

  joined_up : Stepped (union_reading cmp read.value) answer_by answer
  joined_up = stepped (union_reading cmp read.value) answer_by answer read.goes_on

  abbrev union : List Entry
  union = joined_up.value

  abbrev ws : List Output
  ws = outputs_by union

  of_input : (i : InputFile) → Contains r.picked.files i → IsFileOf cmp tables i.meta
  of_input i at =
      let f = placed i at in
      subst (IsFileOf cmp tables) f.is (All-contains (λ (x : NewFile). IsFileOf cmp tables x.meta) v.files f.file lawful.files f.there)

  is_union : IsUnion cmp (entries_of_inputs tables r.picked) union
  is_union =
      let both = united (are_distinct (merged cmp read.value)) (merged cmp read.value) union joined_up.is in
      let inputs = inputs_are cmp tables r.picked.files r.tables 0 read.value of_input over.bytes read.is in
      let of_merged : IsUnion cmp read.value (merged cmp read.value) = (distinct_holds cmp total exact read.value (merged cmp read.value)).1 (refl, both.0) in
      subst (λ (l : List (List Entry)). IsUnion cmp l union) inputs (subst (IsUnion cmp read.value) both.1 of_merged)

  -- what holds of the entries of the inputs' tables holds of the union
  in_union : (P : Entry → Type 0) → ((i : InputFile) → Contains r.picked.files i → (e : Entry) → Contains (table_entries tables i.meta.number) e → P e) → (e : Entry) → Contains union e → P e
  in_union P each e at =
      let lists = entries_of_inputs tables r.picked in
      let all = Contains-permutation union (entries_of_lists lists) e (IsPermutation-sym (entries_of_lists lists) union is_union.same) at in
      let from = from_flat_map (λ (list : List Entry). list) lists e all in
      let of = from_map (λ (x : InputFile). table_entries tables x.meta.number) r.picked.files from.source from.there in
      each of.source of.there e (subst (λ (l : List Entry). Contains l e) (sym of.is) from.held)

  key_of : (e : Entry) → Contains union e → IsInternalKey e.key
  key_of =
      in_union (λ (e : Entry). IsInternalKey e.key)
      (λ i at e own.
      let is = of_input i at in
      All-contains (λ (x : Entry). IsInternalKey x.key) is.table.entries e is.keys (subst (λ (l : List Entry). Contains l e) (entries_are tables i.meta.number is.table is.there) own))

  value_of : (e : Entry) → Contains union e → length e.value ≤ 16777215
  value_of =
      in_union (λ (e : Entry). length e.value ≤ 16777215)
      (λ i at e own.
      let is = of_input i at in
      each_of (λ (x : Entry). length x.value ≤ 16777215) is.table.entries (values_read cmp is.table.bytes is.table is.accepted) e (subst (λ (l : List Entry). Contains l e) (entries_are tables i.meta.number is.table is.there) own))

  abbrev readable : Readable
  readable = readable_of r.snapshots r.last_sequence

  cut_all : entries_of_lists (cut union) ≡ kept cmp readable r.picked.deeper union
  cut_all = (whole_law cmp total exact).all r.picked.grandparents r.options (record { kept = kept cmp readable r.picked.deeper union; marks = heads cmp (below_request r) union })

  cut_some : AllByRecursion (λ (q : List Entry). q ≢ []) (cut union)
  cut_some = (whole_law cmp total exact).some r.picked.grandparents r.options (record { kept = kept cmp readable r.picked.deeper union; marks = heads cmp (below_request r) union })

  from_cut : (q : List Entry) → Contains (cut union) q → (e : Entry) → Contains q e → Contains union e
  from_cut q at e i = kept_part cmp readable r.picked.deeper None union e (subst (λ (l : List Entry). Contains l e) cut_all (in_flat_map (λ (x : List Entry). x) (cut union) q e at i))

  writable : (q : List Entry) → Contains (cut union) q → IsWritable cmp q
  writable q at = record {
    some = each_of (λ (x : List Entry). x ≢ []) (cut union) cut_some q at;
    keys = of_each (λ (e : Entry). IsInternalKey e.key) q (λ e i. key_of e (from_cut q at e i));
    values = of_each (λ (e : Entry). length e.value ≤ 16777215) q (λ e i. value_of e (from_cut q at e i));
    rising = part_rises cmp (cut union) (subst (EntriesRise cmp) (sym cut_all) (kept_rises cmp readable r.picked.deeper None union (union_rises cmp union is_union.rising))) q at;
  }

  of_outputs : HasOutputs r ws answer
  of_outputs = has_outputs r ws answer joined_up.goes_on

  cut_entries : output_entries ws ≡ cut union
  cut_entries = entries_are_cut written_by r.first_number (cut union)

  bytes : All (λ (w : Output). w.bytes ≡ written_by w.entries) ws
  bytes = All-from_recursion (λ (w : Output). w.bytes ≡ written_by w.entries) ws (bytes_are written_by r.first_number (cut union))

  written : (w : Output) → Contains ws w → AreWritten cmp w.bytes w.entries
  written w at =
      let in_cut : Contains (cut union) w.entries = subst (λ (l : List (List Entry)). Contains l w.entries) cut_entries (in_map (λ (x : Output). x.entries) ws w at) in
      let is = All-contains (λ (x : Output). x.bytes ≡ written_by x.entries) ws w bytes at in
      let small : length (written_by w.entries) ≤ 2 ^ 30 = subst (λ (bs : List ℕ). length bs ≤ 2 ^ 30) is (of_outputs.small w at) in
      subst (λ (bs : List ℕ). AreWritten cmp bs w.entries) (sym is)
      (table_written cmp total (written_by w.entries) w.entries (writable w.entries in_cut) small (reads_back r.options w.entries (writable w.entries in_cut) small))

  pub hold_outputs : HoldOutputs cmp short_keys tables r answer
  hold_outputs = record {
    tested = tested.is;
    union = union;
    outputs = ws;
    is_union = is_union;
    numbered = outputs_numbered written_by r.first_number (cut union);
    few = of_outputs.few;
    holds_kept = ap entries_of_lists cut_entries ∙ cut_all;
    users = subst (UsersRise cmp) (sym cut_entries) ((whole_law cmp total exact).users (below_request r) r.options union is_union.rising);
    bytes = bytes;
    written = All-from_recursion (λ (w : Output). AreWritten cmp w.bytes w.entries) ws (of_each (λ (w : Output). AreWritten cmp w.bytes w.entries) ws written);
    answer_tables = sym (ap (λ (a : Answer). a.tables) of_outputs.is);
    answer_edit = sym (ap (λ (a : Answer). a.edit) of_outputs.is);
  }

pub outputs_hold : (cmp : List ℕ → List ℕ → Ordering) → IsTotalOrder cmp → IsExact cmp → (short_keys : ShortKeys) → ReadBackLaw cmp short_keys → OutputsHold cmp short_keys
outputs_hold cmp total exact short_keys reads_back v tables level r answer lawful picked over answers =
    hold_outputs cmp total exact short_keys reads_back v tables r answer lawful (input_file cmp total v tables lawful level r.picked picked) over answers
