-- What a compaction of closed inputs answers is installed, and reads survive.
use Rattle.std.proofs.Common.{◌≡◌, ◌≢◌, ℕ, ◌+◌, ◌-◌, ◌<◌, ◌≤◌, ◌^◌, Bool, true, false, not, if◌then◌else◌, get_or, List, [], ◌∷◌, ◌++◌, length, map, Some, None, Option, Result, Ok, refl, sym, ap, subst, ◌∙◌, inl, inr, arith}
use Rattle.std.specs.Prelude.{◌⊎◌, ◌&&◌, Contains, nat_le, nat_lt, unwrap_or}
use Rattle.std.specs.List.{All}
use Rattle.std.specs.Cmp.{IsTotalOrder}
use Rattle.std.specs.Option.{ForSome, ok_or, option_map}
use Rattle.std.specs.declared.cmp.Ordering.{Ordering}
use Rattle.std.proofs.lemmas.Bool.Decides.{nat_tests}
use Rattle.std.proofs.lemmas.List.Elements.{All-contains, Contains-append_cases, Contains-get_or}
use Rattle.std.proofs.lemmas.List.Sorted.{Contains-permutation, IsPermutation-sym}
use Rattle.folder.proofs.Binds.{bind_ok, ok_is}
use Rattle.folder.specs.Answers.{fault, ◌>>=◌}
use Rattle.folder.specs.fault.Fault.{Fault}
use Rattle.folder.specs.fault.FaultName.{FaultName}
use Rattle.folder.specs.fault.FaultName.TheVariants.{Numbers, SplitCount, Workers}
use Rattle.folder.specs.Comparator.{ShortKeys, IsExact}
use Rattle.folder.specs.Version.{State}
use Rattle.table.specs.Key.{user_of}
use Rattle.folder.specs.meta.FileMeta.{FileMeta}
use Rattle.folder.specs.meta.NewFile.{NewFile}
use Rattle.folder.specs.Levels.{file_numbers}
use Rattle.folder.specs.ReadsAs.{IsOneOf}
use Rattle.pick.specs.ApartChoice.{LiesWithin}
use Rattle.pick.specs.PickedInputs.{PickedInputs}
use Rattle.pick.specs.Ranges.{begins_by, ends_at_or_after, is_at_most}
use Rattle.pick.specs.declared.picked_inputs.InputFile.{InputFile}
use Rattle.reads.specs.Lawful.{IsBelowNextFile, IsFileOf, IsLawful}
use Rattle.reads.specs.EncodedEntry.{Entry}
use Rattle.reads.specs.MergedLists.{entries_of_lists}
use Rattle.reads.specs.Tables.{NumberedContents, table_entries, table_of_number}
use Rattle.reads.specs.TableContents.{Contents}
use Rattle.reads.specs.TestResult.{test_result}
use Rattle.reads.proofs.Members.{first_in, from_filter, from_flat_map, from_map, in_flat_map, in_map, later_in}
use Rattle.table.specs.ReadBackLaw.{ReadBackLaw}
use Rattle.checks.specs.LawfulTables.{IsLawfulTables}
use Rattle.compact.specs.Readable.{readable_of}
use Rattle.checks.specs.TableReadings.{tables_reading}
use Rattle.checks.proofs.LawfulLemmas.{sound, sound_checked, sound_lawful}
use Rattle.compact.specs.ClosedInputs.{is_input}
use Rattle.compact.specs.EditAfter.{AreNumberedFrom, version_after}
use Rattle.compact.specs.EditOf.{edit_of, new_file, new_files}
use Rattle.compact.specs.GetsAfter.{entries_of_inputs, staying_files}
use Rattle.compact.specs.OneThread.{Answer, compaction_result, one_thread}
use Rattle.compact.specs.OutputTables.{Output, numbered_tables}
use Rattle.compact.specs.PassedRequest.{IsPassed, PassedLaw}
use Rattle.compact.specs.Request.{RequestView}
use Rattle.compact.specs.RequestOverVersion.{AreWritten, HoldOutputs, IsOver, input_bytes_of, output_entries}
use Rattle.compact.specs.SurvivingReads.{tables_after}
use Rattle.compact.specs.declared.settings.Settings.{Settings}
use Rattle.compact.proofs.AppliedEdit.{edited, files_are, numbered_from}
use Rattle.compact.proofs.Closing.{any_at}
use Rattle.compact.proofs.FileKeys.{from_smallest, to_largest, user_upto}
use Rattle.compact.proofs.Gets.{get_is, kept_part}
use Rattle.compact.proofs.LawfulAfter.{has_ends, holds_after, lawful_after}
use Rattle.compact.proofs.Outputs.{hold_outputs}
use Rattle.compact.proofs.SafeInputs.{AreSafe, closed_safe}
use Rattle.compact.proofs.SurvivingReads.{edit_is}
use Rattle.install.specs.Install as install
use Rattle.install.specs.Install.{IsEditedBy, numbers_of}
use Rattle.install.proofs.Numbers.{in_files}
use Rattle.store.specs.Compaction.{EditedVersion}
use Rattle.store.specs.FolderRequest.{compaction_from, first_output, last_of, manifest_of, numbered_request, request_from}
use Rattle.store.specs.OutputRanges.{IsOldOrOutput, input_metas}
use Rattle.store.specs.ClosedLaws.{ClosedJointLaw, EditedWithin}
use Rattle.store.proofs.Loaded.{bytes_found, found_loaded}
use Rattle.store.proofs.SameTables.{same_get, same_lawful}
use Rattle.store.proofs.TablesAfter.{HasNumber, number_of, read_after, reads_after, same_after}
use Rattle.pick.proofs.Grown.{not_true as not_is_true}

-- ---- the first number of the outputs

first_above : (v : State) (first : Option ℕ) (number : ℕ) → first_output v first ≡ Some number → manifest_of v < number
first_above v None number is = by (nat_lt (manifest_of v) (2 ^ 64 - 1)) is
  where
    by : (b : Bool) → (if b then Some (manifest_of v + 1) else None) ≡ Some number → manifest_of v < number
    by true h = let same : manifest_of v + 1 ≡ number = cc h in omega (arith, same)
    by false h = absurd (cc h)
first_above v (Some asked) number is = by (nat_lt (manifest_of v) asked) refl is
  where
    below : nat_lt (manifest_of v) asked ≡ true → manifest_of v < asked
    below e = grind (arith, nat_tests)

    by : (b : Bool) → nat_lt (manifest_of v) asked ≡ b → (if b then Some asked else None) ≡ Some number → manifest_of v < number
    by true e h = let same : asked ≡ number = cc h in subst (λ (n : ℕ). manifest_of v < n) same (below e)
    by false e h = absurd (cc h)

pub found_is : {A : Type 0} (o : Option A) (n : FaultName) (x : A) → ok_or o (fault n) ≡ Ok x → o ≡ Some x
found_is (Some y) n x h = cc h
found_is None n x h = absurd (cc h)

-- the answer of a compaction is that of one thread, to the request with its first number
record IsThread (cmp : List ℕ → List ℕ → Ordering) (short_keys : ShortKeys) (v : State) (loaded : List (ℕ × List ℕ)) (p : PickedInputs) (s : Settings) (answer : Answer) : Type 0 where
  number : ℕ
  high : manifest_of v < number
  same : one_thread cmp short_keys (request_from number v loaded p s) ≡ Ok answer

thread_of : (first : Option ℕ) (cmp : List ℕ → List ℕ → Ordering) (short_keys : ShortKeys) (v : State) (loaded : List (ℕ × List ℕ)) (p : PickedInputs) (s : Settings) (answer : Answer)
    → compaction_from first cmp short_keys v loaded p s ≡ Ok answer → IsThread cmp short_keys v loaded p s answer
thread_of first cmp short_keys v loaded p s answer h =
    let one = bind_ok (test_result (nat_le 1 s.ranges && nat_le s.ranges 4096) SplitCount) (λ _. numbered_request first v loaded p s >>= λ r. compaction_result cmp short_keys s.workers r) answer h in
    let two = bind_ok (numbered_request first v loaded p s) (λ (r : RequestView). compaction_result cmp short_keys s.workers r) answer one.2 in
    let three = bind_ok (ok_or (first_output v first) (fault Numbers)) (λ (n : ℕ). Ok (request_from n v loaded p s)) two.0 two.1 in
    let four = bind_ok (test_result (nat_le 1 s.workers && nat_le s.workers 64) Workers) (λ _. one_thread cmp short_keys two.0) answer two.2 in
    record {
      number = three.0;
      high = first_above v first three.0 (found_is (first_output v first) Numbers three.0 three.1);
      same = subst (λ (q : RequestView). one_thread cmp short_keys q ≡ Ok answer) (sym (ok_is (request_from three.0 v loaded p s) two.0 three.2)) four.2;
    }

-- ---- the request

-- a number below the next one tells that there is one
next_is : (next : Option ℕ) (number : ℕ) → IsBelowNextFile next number → next ≡ Some (unwrap_or next 0)
next_is None number h = absurd h
next_is (Some n) number h = refl

next_below : (next : Option ℕ) (number : ℕ) → unwrap_or next 0 < number → ForSome next (λ n. n ≤ number)
next_below None number above = λ n is. absurd (cc is)
next_below (Some m) number above = λ n is. let same : m ≡ n = cc is in omega (arith, same, above)

same_map : {X Y : Type 0} (f g : X → Y) (xs : List X) → ((x : X) → Contains xs x → f x ≡ g x) → map f xs ≡ map g xs
same_map f g [] h = refl
same_map f g (x ∷ xs) h = ap (λ (y : _). y ∷ map f xs) (h x (first_in x xs)) ∙ ap (λ (ys : List _). g x ∷ ys) (same_map f g xs (λ y at. h y (later_in x xs y at)))

some_mapped : {X : Type 0} (f : X → List ℕ) (xs : List X) → map (λ (x : X). Some (f x)) xs ≡ map (λ (b : List ℕ). Some b) (map f xs)
some_mapped f [] = refl
some_mapped f (x ∷ xs) = ap (λ (ys : List (Option (List ℕ))). Some (f x) ∷ ys) (some_mapped f xs)

-- ---- the numbers of the outputs

-- the numbers of new files are those of the outputs
pub new_numbers : (level : ℕ) (outputs : List Output) → map (λ (f : NewFile). f.meta.number) (map (new_file level) outputs) ≡ numbers_of (numbered_tables outputs)
new_numbers level [] = refl
new_numbers level (q ∷ outputs) = ap (λ (ns : List ℕ). q.number ∷ ns) (new_numbers level outputs)

-- and from the first number on
numbered_above : (first : ℕ) (outputs : List Output) (n : ℕ) → AreNumberedFrom first outputs → IsOneOf (numbers_of (numbered_tables outputs)) n → first ≤ n
numbered_above first [] n h m = absurd m
numbered_above first (q ∷ outputs) n h (inl same) = let is : q.number ≡ first = h.0 in omega (arith, same, is)
numbered_above first (q ∷ outputs) n h (inr m) = let le = numbered_above (first + 1) outputs n h.1 m in omega (arith, le)

pub below_next : (next : Option ℕ) (m n : ℕ) → next ≡ Some m → IsBelowNextFile next n → n < m
below_next next m n is h = subst (λ (o : Option ℕ). IsBelowNextFile o n) is h

pub some_input : (files : List InputFile) → files ≢ [] → (i : InputFile) × Contains files i
some_input [] h = absurd (h refl)
some_input (i ∷ files) h = (i, first_in i files)

-- ---- inputs that are safe to compact

module _ (cmp : List ℕ → List ℕ → Ordering) (total : IsTotalOrder cmp) (exact : IsExact cmp) (short_keys : ShortKeys) (reads_back : ReadBackLaw cmp short_keys) (passes : PassedLaw cmp)
    (number : ℕ) (v : State) (loaded : List (ℕ × List ℕ)) (tables : List NumberedContents) (p : PickedInputs) (s : Settings) (answer : Answer) (high : manifest_of v < number)
    (checked : tables_reading cmp loaded ≡ Ok tables) (lawful : IsLawful cmp v tables) (low : All (λ (f : NewFile). f.level ≤ 6) v.files) (safe : AreSafe cmp v tables p)
    (log : unwrap_or v.log_number 0 < 2 ^ 64) (previous : unwrap_or v.previous_log 0 < 2 ^ 64)
    (answers : one_thread cmp short_keys (request_from number v loaded p s) ≡ Ok answer) where
  abbrev r : RequestView
  r = request_from number v loaded p s

  file_of_input : (i : InputFile) → Contains p.files i → IsFileOf cmp tables i.meta
  file_of_input i at =
      let f = safe.placed i at in
      subst (IsFileOf cmp tables) f.is (All-contains (λ (x : NewFile). IsFileOf cmp tables x.meta) v.files f.file lawful.files f.there)

  -- the bytes that were loaded of an input are those of its table
  input_bytes : (i : InputFile) → Contains p.files i → input_bytes_of tables i ≡ Some (install.table_bytes_of loaded i.meta.number)
  input_bytes i at =
      let f = file_of_input i at in
      ap (option_map (λ (t : Contents). t.bytes)) f.there
      ∙ ap (λ (b : List ℕ). Some b) (sym (bytes_found loaded i.meta.number f.table.bytes (found_loaded cmp loaded tables i.meta.number f.table checked f.there)))

  pub over : IsOver v tables r
  over = record {
    bytes = same_map (input_bytes_of tables) (λ (i : InputFile). Some (install.table_bytes_of loaded i.meta.number)) p.files input_bytes ∙ some_mapped (λ (i : InputFile). install.table_bytes_of loaded i.meta.number) p.files;
    numbers = next_below v.next_file number high;
    log_number = log;
    previous_log = previous;
  }

  pub held : HoldOutputs cmp short_keys tables r answer
  held = hold_outputs cmp total exact short_keys reads_back v tables r answer lawful safe.placed over answers

  abbrev next : State
  next = version_after v r held.outputs

  passed : IsPassed cmp r
  passed = passes r held.tested

  -- there is an input, so the version has a next file
  next_there : v.next_file ≡ Some (manifest_of v)
  next_there =
      let i = some_input p.files passed.some in
      let f = safe.placed i.0 i.1 in
      next_is v.next_file f.file.meta.number (All-contains (λ (x : NewFile). IsBelowNextFile v.next_file x.meta.number) v.files f.file lawful.below_next f.there)

  -- a file has a number below it, so it is at least 1
  next_positive : 0 < manifest_of v
  next_positive =
      let i = some_input p.files passed.some in
      let f = safe.placed i.0 i.1 in
      let below = All-contains (λ (x : NewFile). IsBelowNextFile v.next_file x.meta.number) v.files f.file lawful.below_next f.there in
      let lt = below_next v.next_file (manifest_of v) f.file.meta.number next_there below in
      omega (arith, lt)

  added_numbers : map (λ (f : NewFile). f.meta.number) (new_files r held.outputs) ≡ numbers_of answer.tables
  added_numbers = new_numbers (p.level + 1) held.outputs ∙ sym (ap numbers_of held.answer_tables)

  file_below : (n : ℕ) → IsOneOf (file_numbers cmp v) n → n < manifest_of v
  file_below n m =
      let f : HasNumber v.files n = number_of v.files n (in_files cmp v n m) in
      let below = All-contains (λ (x : NewFile). IsBelowNextFile v.next_file x.meta.number) v.files f.file lawful.below_next f.there in
      below_next v.next_file (manifest_of v) n next_there (subst (IsBelowNextFile v.next_file) (sym f.is) below)

  output_above : (n : ℕ) → IsOneOf (numbers_of answer.tables) n → manifest_of v ≤ n
  output_above n m =
      let le = numbered_above number held.outputs n held.numbered (subst (λ (ts : List (ℕ × List ℕ)). IsOneOf (numbers_of ts) n) held.answer_tables m) in
      omega (arith, le, high)

  edited_by : IsEditedBy cmp v (manifest_of v) answer.tables answer.edit next
  edited_by = record {
    edit = edit_of r (new_files r held.outputs);
    read = edit_is cmp total exact short_keys v tables r answer lawful low safe over held;
    no_name = refl;
    log_number = refl;
    previous_log = refl;
    last_sequence = refl;
    edited = edited cmp total v tables r held.outputs lawful safe.placed over.numbers held.numbered;
    added = added_numbers;
    least = manifest_of v;
    first_free = next_there;
    below = file_below;
    above = output_above;
    manifest_above = omega arith;
    next_free = number + length (new_files r held.outputs);
    next_file = refl;
    manifest_below = omega (arith, high);
  }

  level_by : (f : NewFile) → Contains (staying_files v p) f ⊎ Contains (new_files r held.outputs) f → f.level ≤ 6
  level_by f (inl at) = let old = from_filter (λ (x : NewFile). not (is_input p x.meta.number)) v.files f at in All-contains (λ (x : NewFile). x.level ≤ 6) v.files f low old.0
  level_by f (inr at) =
      let q = from_map (new_file (p.level + 1)) held.outputs f at in
      let is : p.level + 1 ≡ f.level = ap (λ (x : NewFile). x.level) q.is in
      let five = passed.level in
      omega (arith, is, five)

  -- the levels of the version after
  low_next : All (λ (f : NewFile). f.level ≤ 6) next.files
  low_next k d lt =
      let at = Contains-get_or next.files k d lt in
      let f = get_or next.files k d in
      let permutes = files_are cmp total v tables r held.outputs lawful safe.placed over.numbers held.numbered in
      level_by f (Contains-append_cases (staying_files v p) (new_files r held.outputs) f
      (Contains-permutation next.files (staying_files v p ++ new_files r held.outputs) f (IsPermutation-sym (staying_files v p ++ new_files r held.outputs) next.files permutes) at))

  after : IsLawful cmp next (tables_after cmp p answer tables)
  after = lawful_after cmp total exact short_keys v tables r answer lawful safe over held

  abbrev read : List NumberedContents
  read = read_after cmp loaded tables p answer next checked low_next after

  same : (f : NewFile) → Contains next.files f → table_of_number read f.meta.number ≡ table_of_number (tables_after cmp p answer tables) f.meta.number
  same f at = same_after cmp loaded tables p answer next checked low_next after f at

  -- ---- where the outputs lie

  -- an entry of an input
  record IsFromInput (e : Entry) : Type 0 where
    input : InputFile
    there_in : Contains p.files input
    held_by : Contains (table_entries tables input.meta.number) e

  from_union : (e : Entry) → Contains held.union e → IsFromInput e
  from_union e at =
      let lists = entries_of_inputs tables p in
      let all = Contains-permutation held.union (entries_of_lists lists) e (IsPermutation-sym (entries_of_lists lists) held.union held.is_union.same) at in
      let from = from_flat_map (λ (list : List Entry). list) lists e all in
      let of = from_map (λ (x : InputFile). table_entries tables x.meta.number) p.files from.source from.there in
      record { input = of.source; there_in = of.there; held_by = subst (λ (l : List Entry). Contains l e) (sym of.is) from.held }

  from_output : (q : Output) → Contains held.outputs q → (e : Entry) → Contains q.entries e → IsFromInput e
  from_output q at e i =
      let all = in_flat_map (λ (l : List Entry). l) (output_entries held.outputs) q.entries e (in_map (λ (x : Output). x.entries) held.outputs q at) i in
      from_union e (kept_part cmp (readable_of s.snapshots (last_of v)) p.deeper None held.union e (subst (λ (l : List Entry). Contains l e) held.holds_kept all))

  begins : (e : Entry) → IsFromInput e → begins_by cmp (input_metas p) (user_of e.key) ≡ true
  begins e from =
      any_at (λ (f : FileMeta). is_at_most cmp (user_of f.smallest) (user_of e.key)) (input_metas p) from.input.meta (in_map (λ (i : InputFile). i.meta) p.files from.input from.there_in)
      (user_upto cmp total from.input.meta.smallest e.key (from_smallest cmp total tables from.input.meta (file_of_input from.input from.there_in) e from.held_by))

  ends : (e : Entry) → IsFromInput e → ends_at_or_after cmp (input_metas p) (user_of e.key) ≡ true
  ends e from =
      any_at (λ (f : FileMeta). is_at_most cmp (user_of e.key) (user_of f.largest)) (input_metas p) from.input.meta (in_map (λ (i : InputFile). i.meta) p.files from.input from.there_in)
      (user_upto cmp total e.key from.input.meta.largest (to_largest cmp total tables from.input.meta (file_of_input from.input from.there_in) e from.held_by))

  output_within : (q : Output) → Contains held.outputs q → LiesWithin cmp (input_metas p) (new_file (p.level + 1) q).meta
  output_within q at =
      let w = All-contains (λ (x : Output). AreWritten cmp x.bytes x.entries) held.outputs q held.written at in
      let e = has_ends q.entries w.some in
      record {
        begins = subst (λ (k : List ℕ). begins_by cmp (input_metas p) (user_of k) ≡ true) e.first_key_is (begins e.first (from_output q at e.first e.first_there));
        ends = subst (λ (k : List ℕ). ends_at_or_after cmp (input_metas p) (user_of k) ≡ true) e.last_key_is (ends e.last (from_output q at e.last e.last_there));
      }

  within_by : (f : NewFile) → Contains (staying_files v p) f ⊎ Contains (new_files r held.outputs) f → IsOldOrOutput cmp v p f
  within_by f (inl at) =
      let old = from_filter (λ (x : NewFile). not (is_input p x.meta.number)) v.files f at in
      inl (old.0, not_is_true (is_input p f.meta.number) old.1)
  within_by f (inr at) =
      let q = from_map (new_file (p.level + 1)) held.outputs f at in
      let le = numbered_from number held.outputs held.numbered q.source q.there in
      let is : q.source.number ≡ f.meta.number = ap (λ (x : NewFile). x.meta.number) q.is in
      inr (
        sym (ap (λ (x : NewFile). x.level) q.is),
        omega (arith, le, is, high),
        subst (λ (x : NewFile). LiesWithin cmp (input_metas p) x.meta) q.is (output_within q.source q.there),
      )

  within_next : All (IsOldOrOutput cmp v p) next.files
  within_next k d lt =
      let at = Contains-get_or next.files k d lt in
      let f = get_or next.files k d in
      let permutes = files_are cmp total v tables r held.outputs lawful safe.placed over.numbers held.numbered in
      within_by f (Contains-append_cases (staying_files v p) (new_files r held.outputs) f
      (Contains-permutation next.files (staying_files v p ++ new_files r held.outputs) f (IsPermutation-sym (staying_files v p ++ new_files r held.outputs) next.files permutes) at))

  safe_edited : EditedVersion cmp v loaded tables s answer
  safe_edited = record {
    next = next;
    edited = edited_by;
    last = refl;
    some = next_positive;
    rises = omega (arith, high);
    small = held.few;
    answers = record {
      tables_next = read;
      lawful = sound cmp next (install.next_version_tables cmp next answer.tables loaded) read (reads_after cmp loaded tables p answer next checked low_next after)
          (same_lawful next read (tables_after cmp p answer tables) same cmp after);
      gets = λ user at is.
          same_get next read (tables_after cmp p answer tables) same user at
          ∙ get_is cmp total exact v tables p (readable_of s.snapshots (last_of v)) held.union next (tables_after cmp p answer tables) lawful low safe held.is_union
          (holds_after cmp total exact short_keys v tables r answer lawful safe over held) user at is;
    };
  }

  pub safe_installed : EditedWithin cmp v loaded tables p s answer
  unfolding safe_edited held
  safe_installed = record { edited = safe_edited; within = within_next }

pub closed_joint : (cmp : List ℕ → List ℕ → Ordering) → IsTotalOrder cmp → IsExact cmp → (short_keys : ShortKeys) → ReadBackLaw cmp short_keys → PassedLaw cmp → ClosedJointLaw cmp short_keys
closed_joint cmp total exact short_keys reads_back passes first v loaded tables p s answer lawful low over log previous answered =
    let thread = thread_of first cmp short_keys v loaded p s answer answered in
    let own = sound_lawful cmp v loaded tables lawful in
    safe_installed cmp total exact short_keys reads_back passes thread.number v loaded tables p s answer thread.high (sound_checked cmp v loaded tables lawful) own low (closed_safe cmp total v tables p own over) log previous thread.same
