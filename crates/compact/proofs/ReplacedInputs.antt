-- Reads survive if outputs that hold what is kept take the place of the inputs, whoever cut them.
use Rattle.std.proofs.Common.{◌≡◌, ℕ, ◌+◌, ◌-◌, ◌<◌, ◌≤◌, Bool, true, false, not, ◌&&◌, eqb, List, [], ◌∷◌, ◌++◌, length, map, get_or, Some, None, Option, Ok, refl, sym, ap, subst, ◌∙◌, inl, inr, arith, eqb-true}
use Rattle.std.specs.Prelude.{◌⊎◌, Contains, AllPairs, slice_get, if◌then◌else◌}
use Rattle.std.specs.List.{All, filter, flat_map, fold, list_any, IsDistinct}
use Rattle.std.specs.List.Sorted.{IsPermutation}
use Rattle.std.specs.Option.{option_map, option_map_or}
use Rattle.std.specs.Str.{bytes_eq}
use Rattle.std.specs.Cmp.{IsTotalOrder}
use Rattle.std.specs.declared.cmp.Ordering.{Ordering}
use Rattle.std.proofs.lemmas.Bool.{eq-eqb}
use Rattle.std.proofs.lemmas.List.Elements.{All-contains, Contains-get_or, Contains-append_left, Contains-append_right}
use Rattle.std.proofs.lemmas.List.Sorted.{Contains-permutation, IsPermutation-sym}
use Rattle.std.proofs.lemmas.Map.Keys.{IsDistinct-IsPermutation, apart_from_distinct}
use Rattle.std.proofs.lemmas.Bool.{cases_lt}
use Rattle.std.proofs.lemmas.Slice.Eq.{bytes_eq-Decides}
use Rattle.ikey.specs.Comparator.{IsExact}
use Rattle.ikey.specs.Key.{IsInternalKey, user_of, sequence_of}
use Rattle.table.specs.EncodedEntry.{Entry}
use Rattle.table.specs.CheckedContents.{contents_in}
use Rattle.ikey.specs.Answers.{◌>>=◌}
use Rattle.ikey.proofs.Binds.{bind_ok, ok_is}
use Rattle.table.specs.IndexReading.{index_reading}
use Rattle.table.specs.TableContents.{Contents, blocks_of, contents_reading, data_reading, entries_of, index_in, table_reading}
use Rattle.table.specs.EntriesFrom.{EntriesRise}
use Rattle.table.proofs.CheckedTables.{HasEntry, blocks_by, contents_are, contents_read, first_is, last_is, read_data, some_entry}
use Rattle.table.proofs.EntryTests.{all_tests, rising}
use Rattle.edit.specs.Edit.{Edit}
use Rattle.edit.specs.Version.{State, are_apart, are_new, has_number, undeleted_files, with_file}
use Rattle.edit.specs.declared.meta.FileMeta.{FileMeta}
use Rattle.edit.specs.declared.meta.DeletedFile.{DeletedFile}
use Rattle.edit.specs.declared.meta.NewFile.{NewFile}
use Rattle.edit.proofs.RisingFiles.{same_file, same_turned}
use Rattle.edit.proofs.Tested.{both_true, not_is_true}
use Rattle.reads.specs.MergedLists.{entries_of_lists}
use Rattle.pick.specs.PickedInputs.{PickedInputs}
use Rattle.pick.specs.declared.picked_inputs.InputFile.{InputFile}
use Rattle.pick.proofs.Lists.{and_both, false_true, same_test}
use Rattle.reads.specs.Lawful.{IsLawful, IsFileOf, AreDistinct, AreNewer, StandsAbove}
use Rattle.reads.specs.Tables.{NumberedContents, table_of_number, table_entries, all_entries}
use Rattle.reads.proofs.Answers.{entries_are}
use Rattle.reads.proofs.FallingEntries.{each_of, of_each}
use Rattle.reads.proofs.Members.{from_filter, in_flat_map, from_flat_map, in_map, from_map, IsFrom}
use Rattle.reads.proofs.Newer.{newer_at, newer_of}
use Rattle.reads.proofs.Pairs.{Pairs, pairs_from, pairs_to, pairs_part, pairs_of_two, pairs_joined, pairs_weaker}
use Rattle.compact.specs.ClosedInputs.{AreClosed, is_input, IsNewerThanInputs, IsOlderThanInputs}
use Rattle.compact.proofs.FallingOrder.{IsLower}
use Rattle.keep.specs.DropRule.{keeps, kept_after, kept}
use Rattle.keep.specs.Readable.{Readable}
use Rattle.compact.specs.OutputTables.{Output, numbered_tables}
use Rattle.compact.specs.EditOf.{new_file}
use Rattle.compact.specs.OneThread.{Answer}
use Rattle.compact.specs.GetsAfter.{staying_files, entries_of_inputs, HoldKept}
use Rattle.compact.specs.KeptOutputs.{AreInOrder, KeptOutputs, KeptReadsSurvive, ReadAsBefore, TakePlace}
use Rattle.compact.specs.RequestOverVersion.{output_entries}
use Rattle.compact.specs.SurvivingReads.{output_table, tables_after}
use Rattle.compact.proofs.AppliedEdit.{IsMade, IsOutputOf, apart_new, is_made, kept_are, made_apart, none_of, permuted_new, side_of, staying_apart, stays_there}
use Rattle.compact.proofs.Gets.{get_is, kept_part, rising_lower}
use Rattle.compact.proofs.VersionInputs.{is_one}
use Rattle.compact.proofs.Lookups.{other_found, output_found}
use Rattle.compact.proofs.SafeInputs.{AreSafe, closed_safe}

-- ---- what is read of an output

record IsReadOf (cmp : List ℕ → List ℕ → Ordering) (w : Output) : Type 0 where
  reads : contents_reading cmp w.bytes ≡ Ok (contents_in cmp w.bytes)
  same : (contents_in cmp w.bytes).bytes ≡ w.bytes
  holds : (contents_in cmp w.bytes).entries ≡ w.entries
  some : HasEntry w.entries
  rise : EntriesRise cmp w.entries

read_of : (cmp : List ℕ → List ℕ → Ordering) → IsTotalOrder cmp → (w : Output) → table_reading cmp w.bytes ≡ Ok w.entries → IsReadOf cmp w
read_of cmp total w h =
    let r = bind_ok (blocks_of cmp w.bytes) (λ blocks. Ok (entries_of blocks)) w.entries h in
    let a = bind_ok (index_in w.bytes) (λ q. index_reading w.bytes q >>= λ index. data_reading cmp index) r.0 (sym (blocks_by cmp w.bytes) ∙ r.1) in
    let b = bind_ok (index_reading w.bytes a.0) (λ index. data_reading cmp index) r.0 a.2 in
    let d = read_data cmp b.0 r.0 b.2 in
    let whole : entries_of r.0 ≡ w.entries = ok_is (entries_of r.0) w.entries r.2 in
    let contents = contents_are cmp w.bytes r.0 r.1 in
    record {
      reads = contents_read cmp w.bytes r.0 r.1;
      same = ap (λ (c : Contents). c.bytes) contents;
      holds = ap (λ (c : Contents). c.entries) contents ∙ whole;
      some = subst HasEntry whole (some_entry cmp b.0 r.0 b.2);
      rise = subst (EntriesRise cmp) whole (rising cmp None (entries_of r.0) total (all_tests cmp None b.0 r.0 d.read));
    }

-- ---- what holds of each and each later one holds of what is kept

kept_pairs : (cmp : List ℕ → List ℕ → Ordering) (R : Entry → Entry → Type 0) (r : Readable) (deeper : List FileMeta) (before : Option Entry) (es : List Entry) → Pairs R es → Pairs R (kept_after cmp r deeper before es)
kept_pairs cmp R r deeper before [] h = tt
kept_pairs cmp R r deeper before (e ∷ es) h = around (keeps cmp r deeper before e) (kept_pairs cmp R r deeper (Some e) es h.1)
  where
    around : (b : Bool) → Pairs R (kept_after cmp r deeper (Some e) es) → Pairs R ((if b then e ∷ [] else []) ++ kept_after cmp r deeper (Some e) es)
    around true rest = (λ x at. h.0 x (kept_part cmp r deeper (Some e) es x at), rest)
    around false rest = rest

lower_distinct : (x y : Entry) → IsLower x y → AreDistinct x y
lower_distinct x y lower same tie = let lt = lower same in omega (arith, lt, tie)

turned : (x y : Entry) → AreDistinct y x → AreDistinct x y
turned x y h same tie = h (sym same) (sym tie)

one_way : (x y : Entry) → AreDistinct x y ⊎ AreDistinct y x → AreDistinct x y
one_way x y (inl h) = h
one_way x y (inr h) = turned x y h

-- ---- sequences that are apart, in another order

same_version : Entry → Entry → Bool
same_version a b = bytes_eq (user_of a.key) (user_of b.key) && eqb (sequence_of a.key) (sequence_of b.key)

told_same : (a b : Entry) → same_version a b ≡ true → (user_of a.key ≡ user_of b.key) × (sequence_of a.key ≡ sequence_of b.key)
unfolding same_version
told_same a b h =
    let both = both_true (bytes_eq (user_of a.key) (user_of b.key)) (eqb (sequence_of a.key) (sequence_of b.key)) h in
    ((bytes_eq-Decides (user_of a.key) (user_of b.key)).0 both.0, eqb-true (sequence_of a.key) (sequence_of b.key) both.1)

same_told : (a b : Entry) → user_of a.key ≡ user_of b.key → sequence_of a.key ≡ sequence_of b.key → same_version a b ≡ true
unfolding same_version
same_told a b user sequence =
    and_both (bytes_eq (user_of a.key) (user_of b.key)) (eqb (sequence_of a.key) (sequence_of b.key)) ((bytes_eq-Decides (user_of a.key) (user_of b.key)).1 user) (eq-eqb (sequence_of a.key) (sequence_of b.key) sequence)

version_turned : (a b : Entry) → same_version a b ≡ same_version b a
version_turned a b =
    same_test (same_version a b) (same_version b a) (λ h. let both = told_same a b h in same_told b a (sym both.0) (sym both.1))
    (λ h. let both = told_same b a h in same_told a b (sym both.0) (sym both.1))

distinct_told : (a b : Entry) → AreDistinct a b → same_version a b ≡ false
distinct_told a b h = by (same_version a b) refl
  where
    by : (t : Bool) → same_version a b ≡ t → t ≡ false
    by true is = let both = told_same a b is in absurd (h both.0 both.1)
    by false is = refl

to_distinct : (es : List Entry) → Pairs AreDistinct es → IsDistinct same_version es
unfolding IsDistinct
to_distinct [] h = tt
to_distinct (e ∷ es) h = (of_each (λ (f : Entry). same_version e f ≡ false) es (λ f at. distinct_told e f (h.0 f at)), to_distinct es h.1)

from_distinct : (es : List Entry) → IsDistinct same_version es → Pairs AreDistinct es
unfolding IsDistinct
from_distinct [] h = tt
from_distinct (e ∷ es) h = (
  λ f at same tie. false_true (same_version e f) (same_told e f same tie) (each_of (λ (g : Entry). same_version e g ≡ false) es h.0 f at),
  from_distinct es h.1,
)

pairs_moved : (xs ys : List Entry) → IsPermutation xs ys → Pairs AreDistinct xs → Pairs AreDistinct ys
pairs_moved xs ys moves h = from_distinct ys (IsDistinct-IsPermutation same_version version_turned xs ys moves (to_distinct xs h))

entries_joined : (outputs : List Output) → entries_of_lists (output_entries outputs) ≡ flat_map (λ (w : Output). w.entries) outputs
entries_joined [] = refl
entries_joined (w ∷ outputs) = ap (λ (es : List Entry). w.entries ++ es) (entries_joined outputs)

-- ---- where the entries of outputs come from

-- an entry of an input's table
pub record IsFromInput (tables : List NumberedContents) (p : PickedInputs) (x : Entry) : Type 0 where
  pub input : InputFile
  pub there_in : Contains p.files input
  pub held_by : Contains (table_entries tables input.meta.number) x

module _ (cmp : List ℕ → List ℕ → Ordering) (tables : List NumberedContents) (p : PickedInputs) (readable : Readable) (held : KeptOutputs cmp tables p readable) where
  from_union : (x : Entry) → Contains held.union x → IsFromInput tables p x
  from_union x at =
      let lists = entries_of_inputs tables p in
      let all = Contains-permutation held.union (entries_of_lists lists) x (IsPermutation-sym (entries_of_lists lists) held.union held.is_union.same) at in
      let from = from_flat_map (λ (list : List Entry). list) lists x all in
      let of = from_map (λ (i : InputFile). table_entries tables i.meta.number) p.files from.source from.there in
      record { input = of.source; there_in = of.there; held_by = subst (λ (l : List Entry). Contains l x) (sym of.is) from.held }

  pub output_kept : (q : Output) → Contains held.outputs q → (x : Entry) → Contains q.entries x → Contains (kept cmp readable p.deeper held.union) x
  output_kept q at x i =
      Contains-permutation (entries_of_lists (output_entries held.outputs)) (kept cmp readable p.deeper held.union) x
      (IsPermutation-sym (kept cmp readable p.deeper held.union) (entries_of_lists (output_entries held.outputs)) held.holds_kept)
      (in_flat_map (λ (l : List Entry). l) (output_entries held.outputs) q.entries x (in_map (λ (w : Output). w.entries) held.outputs q at) i)

  pub output_from : (q : Output) → Contains held.outputs q → (x : Entry) → Contains q.entries x → IsFromInput tables p x
  output_from q at x i = from_union x (kept_part cmp readable p.deeper None held.union x (output_kept q at x i))

module _ (cmp : List ℕ → List ℕ → Ordering) (total : IsTotalOrder cmp) (exact : IsExact cmp)
    (v : State) (tables : List NumberedContents) (p : PickedInputs) (readable : Readable) (answer : Answer) (edit : Edit) (after : State)
    (lawful : IsLawful cmp v tables) (safe : AreSafe cmp v tables p) (place : TakePlace cmp v tables p readable answer edit after) where
  abbrev held : KeptOutputs cmp tables p readable
  held = place.held

  abbrev outputs : List Output
  outputs = place.held.outputs

  abbrev added : List NewFile
  added = map (new_file (p.level + 1)) place.held.outputs

  -- the tables after, by the outputs
  abbrev now : List NumberedContents
  now = map (output_table cmp) (numbered_tables place.held.outputs) ++ filter (λ (t : NumberedContents). not (is_input p t.number)) tables

  now_is : tables_after cmp p answer tables ≡ now
  now_is = ap (λ (written : List (ℕ × List ℕ)). map (output_table cmp) written ++ filter (λ (t : NumberedContents). not (is_input p t.number)) tables) place.answer_tables

  closed : AreClosed cmp v tables p
  closed = safe.closed

  read : (q : Output) → Contains outputs q → IsReadOf cmp q
  read q at = read_of cmp total q (All-contains (λ (w : Output). table_reading cmp w.bytes ≡ Ok w.entries) outputs q held.read at)

  file_of_input : (i : InputFile) → Contains p.files i → IsFileOf cmp tables i.meta
  file_of_input i at =
      let f = safe.placed i at in
      subst (IsFileOf cmp tables) f.is (All-contains (λ (x : NewFile). IsFileOf cmp tables x.meta) v.files f.file lawful.files f.there)

  -- each entry of an input's table has an internal key
  internal : (x : Entry) → IsFromInput tables p x → IsInternalKey x.key
  internal x from =
      let f = file_of_input from.input from.there_in in
      All-contains (λ (e : Entry). IsInternalKey e.key) f.table.entries x f.keys (subst (λ (es : List Entry). Contains es x) (entries_are tables from.input.meta.number f.table f.there) from.held_by)

  -- ---- the files after

  undeleted : undeleted_files edit.deleted v.files ≡ staying_files v p
  undeleted = ap (λ (ds : List DeletedFile). undeleted_files ds v.files) place.deleted ∙ kept_are cmp total v tables p lawful safe.placed

  made : IsMade v edit after
  made = is_made v edit after place.applies

  new : are_new (staying_files v p) added ≡ true
  new = subst (λ (fs : List NewFile). are_new fs added ≡ true) undeleted (subst (λ (fs : List NewFile). are_new (undeleted_files edit.deleted v.files) fs ≡ true) place.added made.new)

  files_made : fold with_file (staying_files v p) added ≡ after.files
  files_made = subst (λ (fs : List NewFile). fold with_file fs added ≡ after.files) undeleted (subst (λ (fs : List NewFile). fold with_file (undeleted_files edit.deleted v.files) fs ≡ after.files) place.added made.files)

  distinct : IsDistinct same_file (staying_files v p ++ added)
  distinct = apart_new (staying_files v p) added (staying_apart cmp total v tables p lawful safe.placed) new

  permuted : IsPermutation (staying_files v p ++ added) after.files
  permuted = subst (IsPermutation (staying_files v p ++ added)) files_made (permuted_new (staying_files v p) added distinct)

  abbrev IsOutput : NewFile → Type 0
  IsOutput f = IsOutputOf (p.level + 1) place.held.outputs f

  side : (f : NewFile) → Contains after.files f → Contains (staying_files v p) f ⊎ IsOutput f
  side f at = side_of (p.level + 1) (staying_files v p) outputs after.files permuted f at

  stays_after : (f : NewFile) → Contains (staying_files v p) f → Contains after.files f
  stays_after f at = Contains-permutation (staying_files v p ++ added) after.files f permuted (Contains-append_left (staying_files v p) added f at)

  output_after : (q : Output) → Contains outputs q → Contains after.files (new_file (p.level + 1) q)
  output_after q at =
      Contains-permutation (staying_files v p ++ added) after.files (new_file (p.level + 1) q) permuted
      (Contains-append_right (staying_files v p) added (new_file (p.level + 1) q) (in_map (new_file (p.level + 1)) outputs q at))

  there : (f : NewFile) → Contains (staying_files v p) f → Contains v.files f
  there f at = stays_there cmp total v tables p lawful safe.placed f at

  out : (f : NewFile) → Contains (staying_files v p) f → is_input p f.meta.number ≡ false
  out f at = not_is_true (is_input p f.meta.number) (from_filter (λ (g : NewFile). not (is_input p g.meta.number)) v.files f at).1

  -- ---- the tables after

  both_new : (are_apart added ≡ true) × (not (list_any (λ (f : NewFile). has_number added f.meta.number) (staying_files v p)) ≡ true)
  both_new = both_true (are_apart added) (not (list_any (λ (f : NewFile). has_number added f.meta.number) (staying_files v p))) new

  -- no output has the number of a file that stays
  other_number : (f : NewFile) → Contains (staying_files v p) f → (q : Output) → Contains outputs q → q.number ≡ f.meta.number → ⊥
  other_number f at q i same =
      let clash = none_of (λ (g : NewFile). has_number added g.meta.number) (staying_files v p) (not_is_true (list_any (λ (g : NewFile). has_number added g.meta.number) (staying_files v p)) both_new.1) f at in
      false_true (eqb f.meta.number q.number) (eq-eqb f.meta.number q.number (sym same)) (none_of (λ (g : NewFile). eqb f.meta.number g.meta.number) added clash (new_file (p.level + 1) q) (in_map (new_file (p.level + 1)) outputs q i))

  old_table : (f : NewFile) → Contains (staying_files v p) f → table_of_number now f.meta.number ≡ table_of_number tables f.meta.number
  old_table f at = other_found cmp outputs p tables f.meta.number (other_number f at) (out f at)

  old_entries : (f : NewFile) → Contains (staying_files v p) f → table_entries now f.meta.number ≡ table_entries tables f.meta.number
  old_entries f at = ap (λ (o : Option Contents). option_map_or (λ (t : Contents). t.entries) o []) (old_table f at)

  new_table : (q : Output) → Contains outputs q → table_of_number now q.number ≡ Some (contents_in cmp q.bytes)
  new_table q at = output_found cmp (p.level + 1) outputs both_new.0 q at (filter (λ (t : NumberedContents). not (is_input p t.number)) tables)

  new_entries : (q : Output) → Contains outputs q → table_entries now q.number ≡ q.entries
  new_entries q at = entries_are now q.number (contents_in cmp q.bytes) (new_table q at) ∙ (read q at).holds

  from_output : (q : Output) → Contains outputs q → (x : Entry) → Contains q.entries x → IsFromInput tables p x
  from_output q at x i = output_from cmp tables p readable held q at x i

  -- ---- each file's table

  of_output : (q : Output) → Contains outputs q → IsFileOf cmp now (new_file (p.level + 1) q).meta
  of_output q at =
      let w = read q at in
      let contents = contents_in cmp q.bytes in
      record {
        table = contents;
        there = new_table q at;
        accepted = ap (contents_reading cmp) w.same ∙ w.reads;
        keys = subst (All (λ (e : Entry). IsInternalKey e.key)) (sym w.holds) (λ k d lt. let x = get_or q.entries k d in internal x (from_output q at x (Contains-get_or q.entries k d lt)));
        rising = subst (EntriesRise cmp) (sym w.holds) w.rise;
        size = ap length (sym w.same);
        smallest = ap (λ (es : List Entry). option_map (λ (e : Entry). e.key) (slice_get es 0)) w.holds ∙ first_is q.entries w.some;
        largest = ap (λ (es : List Entry). option_map (λ (e : Entry). e.key) (slice_get es (length es - 1))) w.holds ∙ last_is q.entries w.some;
      }

  of_stay : (f : NewFile) → Contains (staying_files v p) f → IsFileOf cmp now f.meta
  of_stay f at =
      let old : IsFileOf cmp tables f.meta = All-contains (λ (x : NewFile). IsFileOf cmp tables x.meta) v.files f lawful.files (there f at) in
      record {
        table = old.table;
        there = old_table f at ∙ old.there;
        accepted = old.accepted;
        keys = old.keys;
        rising = old.rising;
        size = old.size;
        smallest = old.smallest;
        largest = old.largest;
      }

  of_side : (f : NewFile) → Contains (staying_files v p) f ⊎ IsOutput f → IsFileOf cmp now f.meta
  of_side f (inl i) = of_stay f i
  of_side f (inr x) = subst (λ (g : NewFile). IsFileOf cmp now g.meta) x.2 (of_output x.0 x.1)

  files_after : All (λ (f : NewFile). IsFileOf cmp now f.meta) after.files
  files_after k d lt = let f = get_or after.files k d in of_side f (side f (Contains-get_or after.files k d lt))

  -- ---- sequences

  all_distinct : Pairs AreDistinct (flat_map (λ (f : NewFile). table_entries tables f.meta.number) v.files)
  all_distinct = pairs_from AreDistinct (flat_map (λ (f : NewFile). table_entries tables f.meta.number) v.files) lawful.sequences_once

  outputs_distinct : Pairs AreDistinct (flat_map (λ (w : Output). w.entries) outputs)
  outputs_distinct =
      let union = pairs_weaker IsLower AreDistinct lower_distinct held.union (rising_lower cmp total exact held.union held.is_union.rising) in
      subst (Pairs AreDistinct) (entries_joined outputs)
      (pairs_moved (kept cmp readable p.deeper held.union) (entries_of_lists (output_entries outputs)) held.holds_kept (kept_pairs cmp AreDistinct readable p.deeper None held.union union))

  output_distinct : (q : Output) → Contains outputs q → Pairs AreDistinct q.entries
  output_distinct q at = pairs_part AreDistinct (λ (w : Output). w.entries) outputs q outputs_distinct at

  own_distinct : (f : NewFile) → Contains (staying_files v p) f ⊎ IsOutput f → Pairs AreDistinct (table_entries now f.meta.number)
  own_distinct f (inl i) = subst (Pairs AreDistinct) (sym (old_entries f i)) (pairs_part AreDistinct (λ (g : NewFile). table_entries tables g.meta.number) v.files f all_distinct (there f i))
  own_distinct f (inr x) = subst (λ (g : NewFile). Pairs AreDistinct (table_entries now g.meta.number)) x.2 (subst (Pairs AreDistinct) (sym (new_entries x.0 x.1)) (output_distinct x.0 x.1))

  -- an entry of a file that stays, and one of an input
  stay_input : (f : NewFile) → Contains (staying_files v p) f → (x y : Entry) → Contains (table_entries tables f.meta.number) x → IsFromInput tables p y → AreDistinct x y
  stay_input f i x y own from =
      let g = safe.placed from.input from.there_in in
      let numbers : g.file.meta.number ≡ from.input.meta.number = ap (λ (m : FileMeta). m.number) g.is in
      let taken : is_input p g.file.meta.number ≡ true = is_one p from.input g.file.meta.number from.there_in (sym numbers) in
      let differ : f ≡ g.file → ⊥ = λ same. false_true (is_input p g.file.meta.number) taken (sym (ap (λ (h : NewFile). is_input p h.meta.number) same) ∙ out f i) in
      one_way x y
      (pairs_of_two AreDistinct (λ (h : NewFile). table_entries tables h.meta.number) v.files f g.file x y differ all_distinct (there f i) g.there own (subst (λ (n : ℕ). Contains (table_entries tables n) y) (sym numbers) from.held_by))

  in_output : (q : Output) → Contains outputs q → (h : NewFile) → new_file (p.level + 1) q ≡ h → (e : Entry) → Contains (table_entries now h.meta.number) e → Contains q.entries e
  in_output q at h is e k = subst (λ (l : List Entry). Contains l e) (new_entries q at) (subst (λ (n : ℕ). Contains (table_entries now n) e) (sym (ap (λ (z : NewFile). z.meta.number) is)) k)

  cross : (f g : NewFile) → (f.meta.number ≡ g.meta.number → ⊥) → (x y : Entry) → Contains (table_entries now f.meta.number) x → Contains (table_entries now g.meta.number) y
      → Contains (staying_files v p) f ⊎ IsOutput f → Contains (staying_files v p) g ⊎ IsOutput g → AreDistinct x y
  cross f g differ x y own also (inl i) (inl j) =
      one_way x y
      (pairs_of_two AreDistinct (λ (h : NewFile). table_entries tables h.meta.number) v.files f g x y (λ same. differ (ap (λ (h : NewFile). h.meta.number) same)) all_distinct (there f i) (there g j)
      (subst (λ (l : List Entry). Contains l x) (old_entries f i) own) (subst (λ (l : List Entry). Contains l y) (old_entries g j) also))
  cross f g differ x y own also (inl i) (inr s) =
      stay_input f i x y (subst (λ (l : List Entry). Contains l x) (old_entries f i) own) (from_output s.0 s.1 y (in_output s.0 s.1 g s.2 y also))
  cross f g differ x y own also (inr s) (inl j) =
      turned x y (stay_input g j y x (subst (λ (l : List Entry). Contains l y) (old_entries g j) also) (from_output s.0 s.1 x (in_output s.0 s.1 f s.2 x own)))
  cross f g differ x y own also (inr s) (inr t) =
      one_way x y
      (pairs_of_two AreDistinct (λ (w : Output). w.entries) outputs s.0 t.0 x y
      (λ same. differ (sym (ap (λ (h : NewFile). h.meta.number) s.2) ∙ (ap (λ (w : Output). w.number) same ∙ ap (λ (h : NewFile). h.meta.number) t.2))) outputs_distinct s.1 t.1
      (in_output s.0 s.1 f s.2 x own) (in_output t.0 t.1 g t.2 y also))

  distinct_after : IsDistinct same_file after.files
  distinct_after = IsDistinct-IsPermutation same_file same_turned (staying_files v p ++ added) after.files permuted distinct

  once_after : AllPairs AreDistinct (all_entries now after.files)
  once_after =
      pairs_to AreDistinct (all_entries now after.files)
      (pairs_joined AreDistinct (λ (f : NewFile). table_entries now f.meta.number) after.files (λ f at. own_distinct f (side f at))
      (λ i j d lt below x y own also.
      let f = get_or after.files i d in
      let g = get_or after.files j d in
      let first : i < length after.files = omega (arith, lt, below) in
      let other : eqb f.meta.number g.meta.number ≡ false = apart_from_distinct same_file after.files i j d distinct_after lt below in
      cross f g (λ same. false_true (eqb f.meta.number g.meta.number) (eq-eqb f.meta.number g.meta.number same) other) x y own also (side f (Contains-get_or after.files i d first)) (side g (Contains-get_or after.files j d below))))

  -- ---- newer entries stand above

  newer_than_input : (f : NewFile) → IsNewerThanInputs tables p f → (x y : Entry) → Contains (table_entries tables f.meta.number) x → IsFromInput tables p y → user_of x.key ≡ user_of y.key → sequence_of y.key < sequence_of x.key
  newer_than_input f all x y own from same =
      newer_at (table_entries tables f.meta.number) (table_entries tables from.input.meta.number)
      (All-contains (λ (i : InputFile). AreNewer (table_entries tables f.meta.number) (table_entries tables i.meta.number)) p.files from.input all from.there_in) x y own from.held_by same

  older_than_input : (f : NewFile) → IsOlderThanInputs tables p f → (x y : Entry) → IsFromInput tables p x → Contains (table_entries tables f.meta.number) y → user_of x.key ≡ user_of y.key → sequence_of y.key < sequence_of x.key
  older_than_input f all x y from own same =
      newer_at (table_entries tables from.input.meta.number) (table_entries tables f.meta.number)
      (All-contains (λ (i : InputFile). AreNewer (table_entries tables i.meta.number) (table_entries tables f.meta.number)) p.files from.input all from.there_in) x y from.held_by own same

  stay_newer : (f : NewFile) → Contains (staying_files v p) f → f.level < p.level + 1 → IsNewerThanInputs tables p f
  stay_newer f i lt = by_level (cases_lt f.level p.level)
    where
      by_level : (f.level < p.level) ⊎ (p.level ≤ f.level) → IsNewerThanInputs tables p f
      by_level (inl less) = closed.shallower f (there f i) less
      by_level (inr le) = closed.same_level f (there f i) (out f i) (omega (arith, lt, le))

  newer_sides : (f g : NewFile) → StandsAbove f g → Contains (staying_files v p) f ⊎ IsOutput f → Contains (staying_files v p) g ⊎ IsOutput g → AreNewer (table_entries now f.meta.number) (table_entries now g.meta.number)
  newer_sides f g above (inl i) (inl j) =
      subst (λ (l : List Entry). AreNewer l (table_entries now g.meta.number)) (sym (old_entries f i))
      (subst (AreNewer (table_entries tables f.meta.number)) (sym (old_entries g j)) (lawful.newer_above f g (there f i) (there g j) above))
  newer_sides f g above (inl i) (inr t) =
      let own : g.level ≡ p.level + 1 = sym (ap (λ (h : NewFile). h.level) t.2) in
      let lt : f.level < p.level + 1 = elim above [ inl less ↦ omega (arith, less, own) | inr both ↦ (let zero_level = both.1 in absurd (omega (arith, zero_level, own))) ] in
      newer_of (table_entries now f.meta.number) (table_entries now g.meta.number)
      (λ x y first second same. newer_than_input f (stay_newer f i lt) x y (subst (λ (l : List Entry). Contains l x) (old_entries f i) first) (from_output t.0 t.1 y (in_output t.0 t.1 g t.2 y second)) same)
  newer_sides f g above (inr s) (inl j) =
      let own : f.level ≡ p.level + 1 = sym (ap (λ (h : NewFile). h.level) s.2) in
      let lt : p.level + 1 < g.level = elim above [ inl less ↦ omega (arith, less, own) | inr both ↦ (let zero_level = both.0 in absurd (omega (arith, zero_level, own))) ] in
      newer_of (table_entries now f.meta.number) (table_entries now g.meta.number)
      (λ x y first second same. older_than_input g (closed.deeper g (there g j) lt) x y (from_output s.0 s.1 x (in_output s.0 s.1 f s.2 x first)) (subst (λ (l : List Entry). Contains l y) (old_entries g j) second) same)
  newer_sides f g above (inr s) (inr t) =
      let first : f.level ≡ p.level + 1 = sym (ap (λ (h : NewFile). h.level) s.2) in
      let second : g.level ≡ p.level + 1 = sym (ap (λ (h : NewFile). h.level) t.2) in
      absurd (elim above [ inl less ↦ omega (arith, less, first, second) | inr both ↦ (let zero_level = both.0 in omega (arith, zero_level, first)) ])

  -- ---- the version after

  pub files_are : All (λ (f : NewFile). IsFileOf cmp (tables_after cmp p answer tables) f.meta) after.files
  files_are = subst (λ (ts : List NumberedContents). All (λ (f : NewFile). IsFileOf cmp ts f.meta) after.files) (sym now_is) files_after

  lawful_now : AreInOrder cmp after → IsLawful cmp after now
  lawful_now order = record {
    files = files_after;
    apart = made_apart v edit after lawful.apart place.applies;
    below_next = order.below_next;
    disjoint = order.disjoint;
    sequences_once = once_after;
    newer_above = λ f g i j above. newer_sides f g above (side f i) (side g j);
  }

  pub lawful_after : AreInOrder cmp after → IsLawful cmp after (tables_after cmp p answer tables)
  lawful_after order = subst (IsLawful cmp after) (sym now_is) (lawful_now order)

  hold_staying : (e : Entry) → Contains (all_entries tables (staying_files v p)) e → Contains (all_entries now after.files) e
  hold_staying e at =
      let from = from_flat_map (λ (f : NewFile). table_entries tables f.meta.number) (staying_files v p) e at in
      in_flat_map (λ (f : NewFile). table_entries now f.meta.number) after.files from.source e (stays_after from.source from.there) (subst (λ (l : List Entry). Contains l e) (sym (old_entries from.source from.there)) from.held)

  hold_kept : (e : Entry) → Contains (kept cmp readable p.deeper held.union) e → Contains (all_entries now after.files) e
  hold_kept e at =
      let from = from_flat_map (λ (l : List Entry). l) (output_entries outputs) e (Contains-permutation (kept cmp readable p.deeper held.union) (entries_of_lists (output_entries outputs)) e held.holds_kept at) in
      let q = from_map (λ (x : Output). x.entries) outputs from.source from.there in
      in_flat_map (λ (f : NewFile). table_entries now f.meta.number) after.files (new_file (p.level + 1) q.source) e (output_after q.source q.there)
      (subst (λ (l : List Entry). Contains l e) (sym (new_entries q.source q.there)) (subst (λ (l : List Entry). Contains l e) (sym q.is) from.held))

  hold_only : (e : Entry) → Contains (all_entries now after.files) e → Contains (all_entries tables (staying_files v p)) e ⊎ Contains (kept cmp readable p.deeper held.union) e
  hold_only e at = by_side from.source from.held (side from.source from.there)
    where
      from : IsFrom (λ (f : NewFile). table_entries now f.meta.number) after.files e
      from = from_flat_map (λ (f : NewFile). table_entries now f.meta.number) after.files e at

      by_side : (f : NewFile) → Contains (table_entries now f.meta.number) e → Contains (staying_files v p) f ⊎ IsOutput f → Contains (all_entries tables (staying_files v p)) e ⊎ Contains (kept cmp readable p.deeper held.union) e
      by_side f k (inl i) = inl (in_flat_map (λ (g : NewFile). table_entries tables g.meta.number) (staying_files v p) f e i (subst (λ (l : List Entry). Contains l e) (old_entries f i) k))
      by_side f k (inr s) = inr (output_kept cmp tables p readable held s.0 s.1 e (in_output s.0 s.1 f s.2 e k))

  pub holds_after : HoldKept v tables p (kept cmp readable p.deeper held.union) after (tables_after cmp p answer tables)
  holds_after = subst (HoldKept v tables p (kept cmp readable p.deeper held.union) after) (sym now_is) (record { holds_staying = hold_staying; holds_kept = hold_kept; only = hold_only })

  pub read_as_before : AreInOrder cmp after → All (λ (f : NewFile). f.level ≤ 6) v.files → ReadAsBefore cmp v tables p readable answer after
  read_as_before order low = record {
    lawful = lawful_after order;
    gets = get_is cmp total exact v tables p readable held.union after (tables_after cmp p answer tables) lawful low safe held.is_union holds_after;
  }

pub kept_reads_survive : (cmp : List ℕ → List ℕ → Ordering) → IsTotalOrder cmp → IsExact cmp → KeptReadsSurvive cmp
kept_reads_survive cmp total exact = record {
  files = λ v tables p r answer e after lawful over place. files_are cmp total exact v tables p r answer e after lawful (closed_safe cmp total v tables p lawful over) place;
  survive = λ v tables p r answer e after lawful low over place order. read_as_before cmp total exact v tables p r answer e after lawful (closed_safe cmp total v tables p lawful over) place order low;
}
