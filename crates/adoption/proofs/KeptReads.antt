-- An outcome whose outputs hold what a compaction of the inputs keeps leaves a lawful version, and each get at a readable sequence answers as before.
use Rattle.std.proofs.Common.{◌≡◌, ℕ, ◌+◌, ◌≤◌, Bool, true, false, not, List, [], ◌∷◌, map, Option, Some, Ok, Err, refl, sym, ap, subst, ◌∙◌, inl, inr, arith, eqb-true}
use Rattle.std.specs.Prelude.{Contains}
use Rattle.std.specs.Cmp.{IsTotalOrder}
use Rattle.std.specs.List.{All, AllZip}
use Rattle.std.specs.Option.{option_map_or}
use Rattle.std.proofs.lemmas.List.Elements.{All-contains}
use Rattle.edit.proofs.Binds.{bind_ok, ok_is}
use Rattle.edit.specs.Answers.{◌>>=◌}
use Rattle.edit.specs.fault.FaultName.TheVariants.{Bounds}
use Rattle.edit.specs.Comparator.{IsExact, KeyOrder}
use Rattle.edit.specs.Key.{IsInternalKey}
use Rattle.keep.specs.EncodedEntry.{Entry}
use Rattle.keep.specs.TestResult.{test_result}
use Rattle.keep.specs.TableContents.{Contents, contents_reading}
use Rattle.edit.specs.Edit.{Edit}
use Rattle.edit.specs.Version.{State, undeleted_files}
use Rattle.edit.specs.declared.meta.FileMeta.{FileMeta}
use Rattle.edit.specs.declared.meta.NewFile.{NewFile}
use Rattle.folder.specs.Calls.{Files}
use Rattle.folder.specs.Levels.{file_numbers}
use Rattle.folder.specs.LoadedTables.{IsTableAnswer, IsTableOf}
use Rattle.folder.specs.ReadsAs.{IsFileIn}
use Rattle.install.specs.Install.{next_version_tables, numbers_of, table_bytes_of}
use Rattle.install.proofs.Numbers.{in_version, numbers_in}
use Rattle.merge.specs.MergedLists.{entries_of_lists}
use Rattle.merge.specs.Union.{IsUnion}
use Rattle.pick.specs.declared.picked_inputs.InputFile.{InputFile}
use Rattle.keep.specs.Readable.{Readable, is_read, readable_of}
use Rattle.keep.specs.declared.snapshots.Snapshots.{Snapshots}
use Rattle.keep.proofs.Members.{first_in, from_filter, later_in, none_in}
use Rattle.keep.specs.Gets.{get_of}
use Rattle.keep.specs.Lawful.{IsFileOf, IsLawful}
use Rattle.keep.specs.Tables.{NumberedContents, table_entries, table_of_number}
use Rattle.compact.specs.GetsAfter.{entries_of_inputs}
use Rattle.checks.proofs.FoundTables.{checked_parts}
use Rattle.checks.proofs.LawfulLemmas.{sound_checked, sound_lawful}
use Rattle.checks.specs.TableReadings.{tables_reading}
use Rattle.checks.specs.LawfulTables.{IsLawfulTables}
use Rattle.keep.specs.DropRule.{kept}
use Rattle.store.proofs.Flow.{no_refusal}
use Rattle.install.proofs.Outputs.{loaded_at}
use Rattle.store.proofs.InputNumbers.{one_table}
use Rattle.store.proofs.Loaded.{bytes_found, found_loaded}
use Rattle.store.proofs.TablesAfter.{one_number}
use Rattle.store.specs.InputsCompaction.{are_stated, input_numbers, input_tables}
use Rattle.adoption.specs.Adoption.{Adoption, IsGivenTested, IsOutputsCompared, adopted}
use Rattle.adoption.specs.AdoptedOutcome.{IsAdopted}
use Rattle.adoption.specs.declared.comparison.Comparison.TheVariants.{With}
use Rattle.adoption.specs.KeptEntries.{HoldsKept}
use Rattle.adoption.proofs.AdoptedSo.{IsAdoptedSo, adopted_so, edited_so}
use Rattle.adoption.proofs.EditedVersion.{output_numbers}
use Rattle.adoption.proofs.FittingInputs.{AreKeys, fitting_over, pointer_keys, pointer_there}
use Rattle.adoption.proofs.SortedMembers.{files_from}
use Rattle.folder.proofs.Ordered.{internal_cmp-total}
use Rattle.table.proofs.CheckedTables.{entries_read}
use Rattle.table.specs.CheckedContents.{contents_in}
use Rattle.table.specs.EntryTests.{first_key}
use Rattle.table.specs.TableContents.{table_reading}
use Rattle.reads.proofs.FileOrder.{is_range}
use Rattle.reads.proofs.Levels.{all_at, at_level, from_level}
use Rattle.reads.proofs.Pairs.{Pairs, pairs_two}
use Rattle.reads.specs.BuilderView.{last_key}
use Rattle.keep.proofs.Members.{first_or_later}
use Rattle.keep.specs.Lawful.{IsBelowNextFile}
use Rattle.compact.proofs.AppliedEdit.{made_apart}
use Rattle.std.specs.Prelude.{nat_eq}
use Rattle.std.specs.List.{AllByRecursion, list_all}
use Rattle.std.specs.List.Sorted.{IsPermutation}
use Rattle.std.specs.Ordering.{is_le, is_lt}
use Rattle.std.specs.Str.{bytes_eq}
use Rattle.std.specs.declared.cmp.Ordering.TheVariants.{Less}
use Rattle.std.proofs.Common.{zero, suc, ◌&&◌, length, get_or, if◌then◌else◌, Result}
use Rattle.std.proofs.lemmas.List.Elements.{All-from_recursion, Contains-get_or}
use Rattle.std.proofs.lemmas.List.Sorted.{IsPermutation-cons, IsPermutation-middle, IsPermutation-refl, IsPermutation-sym, IsPermutation-trans}
use Rattle.std.proofs.lemmas.Slice.Eq.{bytes_eq-Decides}
use Rattle.edit.specs.Order.{internal_cmp}
use Rattle.edit.specs.fault.Fault.{Fault}
use Rattle.edit.specs.Version.{are_apart, is_deleted}
use Rattle.edit.specs.VersionOrder.{level_files}
use Rattle.merge.specs.MergedLists.{entries_with, merged, sorted_entries}
use Rattle.compact.proofs.FileKeys.{below_upto}
use Rattle.compact.proofs.PassedRequests.{passed_law}
use Rattle.compact.proofs.ReplacedInputs.{kept_reads_survive}
use Rattle.compact.proofs.VersionInputs.{IsInputAt}
use Rattle.compact.specs.EditOf.{new_file}
use Rattle.compact.specs.Inputs.{table_matches_metadata}
use Rattle.compact.specs.InputsOver.{AreInputsOver, as_file}
use Rattle.compact.specs.KeptOutputs.{AreInOrder, KeptReadsSurvive, ReadAsBefore, TakePlace}
use Rattle.compact.specs.OneThread.{Answer}
use Rattle.compact.specs.OutputTables.{Output, numbered_tables}
use Rattle.compact.specs.RequestOverVersion.{output_entries}
use Rattle.compact.specs.SurvivingReads.{tables_after}
use Rattle.checks.proofs.FoundTables.{own_bytes}
use Rattle.store.proofs.Loaded.{held_by}
use Rattle.store.proofs.SameTables.{same_get, same_lawful}
use Rattle.store.proofs.TablesAfter.{read_after, reads_after, same_after}
use Rattle.store.specs.InputsCompaction.{RangesRise}
use Rattle.adoption.specs.Adoption.{compared_request, outputs_in_edit}
use Rattle.adoption.proofs.AdoptedSo.{edited_so}
use Rattle.std.proofs.lemmas.Bool.{and_parts as and_both_of}

-- ---- what input tables are

-- the tables that input tables are
record AreRead (cmp : KeyOrder) (files : List InputFile) (loaded : List (ℕ × List ℕ)) (contents : List Contents) : Type 0 where
  tables : List NumberedContents
  reading : tables_reading cmp loaded ≡ Ok tables
  states : are_stated files tables ≡ true
  whole : contents ≡ map (λ (t : NumberedContents). t.contents) tables

bounds_passed : (b : Bool) (x : Unit {0}) → test_result b Bounds ≡ Ok x → b ≡ true
bounds_passed true x h = refl
bounds_passed false x h = absurd cc

are_read : (cmp : KeyOrder) (files : List InputFile) (loaded : List (ℕ × List ℕ)) (contents : List Contents) → input_tables cmp files loaded ≡ Ok contents → AreRead cmp files loaded contents
are_read cmp files loaded contents h =
    let one = bind_ok (tables_reading cmp loaded) (λ (ts : List NumberedContents). test_result (are_stated files ts) Bounds >>= λ _. Ok (map (λ (t : NumberedContents). t.contents) ts)) contents h in
    let two = bind_ok (test_result (are_stated files one.0) Bounds) (λ _. Ok (map (λ (t : NumberedContents). t.contents) one.0)) contents one.2 in
    record { tables = one.0; reading = one.1; states = bounds_passed (are_stated files one.0) two.0 two.1; whole = sym (ok_is (map (λ (t : NumberedContents). t.contents) one.0) contents two.2) }

same_contents : (cmp : KeyOrder) (a b : List ℕ) (s t : Contents) → a ≡ b → contents_reading cmp a ≡ Ok s → contents_reading cmp b ≡ Ok t → s ≡ t
same_contents cmp a b s t same h k = ok_is s t (sym h ∙ (ap (contents_reading cmp) same ∙ k))

entries_at : (tables : List NumberedContents) (n : ℕ) (t : Contents) → table_of_number tables n ≡ Some t → table_entries tables n ≡ t.entries
entries_at tables n t h = ap (λ (o : Option Contents). option_map_or (λ (x : Contents). x.entries) o []) h

-- ---- the outputs, as what their tables hold

-- the tables of outputs, each with its entries
abbrev outs : KeyOrder → List (ℕ × List ℕ) → List Output
outs cmp outputs = map (λ (t : ℕ × List ℕ). record { number = t.0; entries = (contents_in cmp t.1).entries; bytes = t.1 }) outputs

numbered_outs : (cmp : KeyOrder) (outputs : List (ℕ × List ℕ)) → outputs ≡ numbered_tables (outs cmp outputs)
numbered_outs cmp [] = refl
numbered_outs cmp (t ∷ outputs) = ap (λ (ts : List (ℕ × List ℕ)). t ∷ ts) (numbered_outs cmp outputs)

abbrev some_entries : List Entry → Result (List Entry) Fault
some_entries es = Ok es

record AreOuts (cmp : KeyOrder) (outputs : List (ℕ × List ℕ)) (tables : List NumberedContents) : Type 0 where
  read : AllByRecursion (λ (w : Output). table_reading cmp w.bytes ≡ Ok w.entries) (outs cmp outputs)
  entries : output_entries (outs cmp outputs) ≡ map (λ (t : Contents). t.entries) (map (λ (t : NumberedContents). t.contents) tables)

are_outs : (cmp : KeyOrder) (outputs : List (ℕ × List ℕ)) (tables : List NumberedContents) → tables_reading cmp outputs ≡ Ok tables → AreOuts cmp outputs tables
are_outs cmp [] tables h = record { read = tt; entries = ap (λ (ts : List NumberedContents). map (λ (t : Contents). t.entries) (map (λ (t : NumberedContents). t.contents) ts)) (ok_is [] tables h) }
are_outs cmp (t ∷ outputs) tables h =
    let c = checked_parts cmp t outputs tables h in
    let rest = are_outs cmp outputs c.behind c.rest in
    let held : contents_in cmp t.1 ≡ c.contents = held_by cmp t.1 c.contents c.read in
    record {
      read = (entries_read cmp t.1 c.contents c.read ∙ ap (λ (x : Contents). some_entries x.entries) (sym held), rest.read);
      entries =
          ap (λ (x : Contents). x.entries ∷ output_entries (outs cmp outputs)) held
          ∙ (ap (λ (ls : List (List Entry)). c.contents.entries ∷ ls) rest.entries
          ∙ ap (λ (ts : List NumberedContents). map (λ (x : Contents). x.entries) (map (λ (x : NumberedContents). x.contents) ts)) c.whole);
    }

-- a file that is as its table states
record IsStated (f : FileMeta) (t : Contents) : Type 0 where
  size : f.size ≡ length t.bytes
  smallest : f.smallest ≡ first_key t.entries
  largest : f.largest ≡ last_key [] t.entries

stated : (f : FileMeta) (t : Contents) → table_matches_metadata f t ≡ true → IsStated f t
stated f t h =
    let keys : Bool = bytes_eq f.smallest (first_key t.entries) && bytes_eq f.largest (last_key [] t.entries) in
    let both = and_both_of (nat_eq f.size (length t.bytes)) keys h in
    let ends = and_both_of (bytes_eq f.smallest (first_key t.entries)) (bytes_eq f.largest (last_key [] t.entries)) both.1 in
    record {
      size = eqb-true f.size (length t.bytes) both.0;
      smallest = (bytes_eq-Decides f.smallest (first_key t.entries)).0 ends.0;
      largest = (bytes_eq-Decides f.largest (last_key [] t.entries)).0 ends.1;
    }

heads_same : (m n : ℕ) (ms ns : List ℕ) → m ∷ ms ≡ n ∷ ns → (m ≡ n) × (ms ≡ ns)
heads_same m n ms ns h = (cc h, cc h)

abbrev made_file : ℕ → ℕ → ℕ → List ℕ → List ℕ → NewFile
made_file l n s a b = record { level = l; meta = record { number = n; size = s; smallest = a; largest = b } }

same_file : (l m : ℕ) (n k : ℕ) (s z : ℕ) (a c : List ℕ) (b d : List ℕ) → l ≡ m → n ≡ k → s ≡ z → a ≡ c → b ≡ d → made_file l n s a b ≡ made_file m k z c d
same_file l m n k s z a c b d e1 e2 e3 e4 e5 =
    ap (λ (x : ℕ). made_file x n s a b) e1 ∙ (ap (λ (x : ℕ). made_file m x s a b) e2 ∙ (ap (λ (x : ℕ). made_file m k x a b) e3 ∙ (ap (λ (x : List ℕ). made_file m k z x b) e4 ∙ ap (λ (x : List ℕ). made_file m k z c x) e5)))

-- new files that are as their tables state are outputs of their level
added_are : (cmp : KeyOrder) (level : ℕ) (added : List NewFile) (outputs : List (ℕ × List ℕ)) (tables : List NumberedContents) → numbers_in added ≡ numbers_of outputs → list_all (λ (f : NewFile). nat_eq f.level level) added ≡ true
    → are_stated (outputs_in_edit added) tables ≡ true → tables_reading cmp outputs ≡ Ok tables → added ≡ map (new_file level) (outs cmp outputs)
added_are cmp level [] [] tables numbers levels states reading = refl
added_are cmp level [] (t ∷ outputs) tables numbers levels states reading = absurd (cc numbers)
added_are cmp level (f ∷ added) [] tables numbers levels states reading = absurd (cc numbers)
added_are cmp level (f ∷ added) (t ∷ outputs) tables numbers levels states reading =
    let c = checked_parts cmp t outputs tables reading in
    let first = heads_same f.meta.number t.0 (numbers_in added) (numbers_of outputs) numbers in
    let at = and_both_of (nat_eq f.level level) (list_all (λ (g : NewFile). nat_eq g.level level) added) levels in
    let here : (table_matches_metadata f.meta c.contents && are_stated (outputs_in_edit added) c.behind) ≡ true = subst (λ (ts : List NumberedContents). are_stated (outputs_in_edit (f ∷ added)) ts ≡ true) (sym c.whole) states in
    let parts = and_both_of (table_matches_metadata f.meta c.contents) (are_stated (outputs_in_edit added) c.behind) here in
    let own = stated f.meta c.contents parts.0 in
    let held : c.contents ≡ contents_in cmp t.1 = sym (held_by cmp t.1 c.contents c.read) in
    let bytes : c.contents.bytes ≡ t.1 = sym (own_bytes cmp t.1 c.contents c.read) in
    let w : Output = record { number = t.0; entries = (contents_in cmp t.1).entries; bytes = t.1 } in
    let file : f ≡ new_file level w =
    same_file f.level level f.meta.number t.0 f.meta.size (length t.1) f.meta.smallest (first_key w.entries) f.meta.largest (last_key [] w.entries) (eqb-true f.level level at.0) first.0 (own.size ∙ ap length bytes) (own.smallest ∙ ap (λ (x : Contents). first_key x.entries) held)
    (own.largest ∙ ap (λ (x : Contents). last_key [] x.entries) held) in
    ap (λ (g : NewFile). g ∷ added) file ∙ ap (λ (fs : List NewFile). new_file level w ∷ fs) (added_are cmp level added outputs c.behind first.1 at.1 parts.1 c.rest)

-- ---- a sorted merge is its lists' entries in another order

with_moved : (cmp : KeyOrder) (e : Entry) (es : List Entry) → IsPermutation (e ∷ es) (entries_with cmp e es)
with_moved cmp e [] = IsPermutation-refl (e ∷ [])
with_moved cmp e (f ∷ fs) = by_test (is_lt (internal_cmp cmp f.key e.key)) (with_moved cmp e fs)
  where
    by_test : (b : Bool) → IsPermutation (e ∷ fs) (entries_with cmp e fs) → IsPermutation (e ∷ (f ∷ fs)) (if b then f ∷ entries_with cmp e fs else e ∷ (f ∷ fs))
    by_test true more = IsPermutation-trans (e ∷ (f ∷ fs)) (f ∷ (e ∷ fs)) (f ∷ entries_with cmp e fs) (IsPermutation-middle (e ∷ []) f fs) (IsPermutation-cons f (e ∷ fs) (entries_with cmp e fs) more)
    by_test false more = IsPermutation-refl (e ∷ (f ∷ fs))

sorted_moved : (cmp : KeyOrder) (es : List Entry) → IsPermutation es (sorted_entries cmp es)
sorted_moved cmp [] = IsPermutation-refl []
sorted_moved cmp (e ∷ es) =
    IsPermutation-trans (e ∷ es) (e ∷ sorted_entries cmp es) (entries_with cmp e (sorted_entries cmp es)) (IsPermutation-cons e es (sorted_entries cmp es) (sorted_moved cmp es)) (with_moved cmp e (sorted_entries cmp es))

-- ---- files whose ranges rise

-- of files whose ranges rise each ends before each later one begins
rising_pairs : (cmp : KeyOrder) → IsTotalOrder cmp → (files : List FileMeta) → RangesRise cmp files → ((f : FileMeta) → Contains files f → is_le (internal_cmp cmp f.smallest f.largest) ≡ true) → Pairs (λ (f g : FileMeta). internal_cmp cmp f.largest g.smallest ≡ Less) files
rising_pairs cmp total [] rise up = tt
rising_pairs cmp total (f ∷ []) rise up = (λ g at. absurd (none_in g at), tt)
rising_pairs cmp total (f ∷ (g ∷ files)) rise up =
    let keys = internal_cmp-total total in
    let next : internal_cmp cmp f.largest g.smallest ≡ Less = rise zero f (omega arith) in
    let rest = rising_pairs cmp total (g ∷ files) (λ k d lt. let next : suc k + 1 ≡ suc (k + 1) = omega arith in subst (λ (n : ℕ). internal_cmp cmp (get_or (g ∷ files) k d).largest (get_or (f ∷ (g ∷ files)) n d).smallest ≡ Less) next (rise (suc k) d (omega (arith, lt)))) (λ h at. up h (later_in f (g ∷ files) h at)) in
    let through : internal_cmp cmp f.largest g.largest ≡ Less = below_upto (internal_cmp cmp) keys f.largest g.smallest g.largest next (up g (later_in f (g ∷ files) g (first_in g files))) in (
      λ h at. elim (first_or_later g files h at) [
        | inl same ↦ subst (λ (x : FileMeta). internal_cmp cmp f.largest x.smallest ≡ Less) (sym same) next
        | inr later ↦ keys.trans f.largest g.largest h.smallest through (rest.0 h later)
      ],
      rest,
    )

-- ---- the theorem

-- the version that an outcome leaves
pub record IsKeptVersion (cmp : KeyOrder) (v : State) (loaded : List (ℕ × List ℕ)) (a : Adoption) (outputs : List (ℕ × List ℕ)) (r : Readable) : Type 0 where
  pub tables_next : List NumberedContents
  pub lawful : IsLawfulTables cmp a.next (next_version_tables cmp a.next outputs loaded) (Ok tables_next)
  pub gets : (tables : List NumberedContents) → IsLawfulTables cmp v loaded (Ok tables) → (user : List ℕ) (at : ℕ) → is_read r at ≡ true → get_of a.next tables_next user at ≡ get_of v tables user at

module _ (cmp : KeyOrder) (total : IsTotalOrder cmp) (exact : IsExact cmp) (v : State) (a : Adoption) (outputs : List (ℕ × List ℕ)) (ad : IsAdopted cmp v (a, outputs)) (files : Files) (loaded : List (ℕ × List ℕ)) (tables : List NumberedContents)
    (read : AllZip (IsTableOf (IsFileIn files)) (file_numbers cmp v) loaded) (sound : IsLawfulTables cmp v loaded (Ok tables)) where
  abbrev e : Edit
  e = ad.edit

  so : IsAdoptedSo cmp v e a
  so = adopted_so cmp v e a ad.adoption

  lawful : IsLawful cmp v tables
  lawful = sound_lawful cmp v loaded tables sound

  low : All (λ (f : NewFile). f.level ≤ 6) v.files
  low = ad.state.levels.file_levels

  -- its compact pointer is an internal key, since it was read
  key_internal : IsInternalKey so.pointer.key
  key_internal = (subst AreKeys (pointer_there e.pointers so.pointer so.only) (pointer_keys a.edit (adopted v e) ad.read)).0

  over : AreInputsOver cmp v a.picked
  over = fitting_over cmp total v tables lawful low e a.picked so.pointer so.only key_internal so.numbered so.closed so.fits.deleted

  abbrev answer : Answer
  answer = record { tables = outputs; edit = a.edit }

  old_file : (f : NewFile) → Contains v.files f → IsFileOf cmp tables f.meta
  old_file f at = All-contains (λ (x : NewFile). IsFileOf cmp tables x.meta) v.files f lawful.files at

  old_bytes : (f : NewFile) (at : Contains v.files f) → table_bytes_of loaded f.meta.number ≡ (old_file f at).table.bytes
  old_bytes f at =
      let h = old_file f at in
      bytes_found loaded f.meta.number h.table.bytes (found_loaded cmp loaded tables f.meta.number h.table (sound_checked cmp v loaded tables sound) h.there)

  placed : (i : InputFile) → Contains a.picked.files i → IsInputAt v i
  placed i at = record { file = as_file i; there = over.files i at; stands = refl; is = refl }

  input_entries : (is : List InputFile) (own : List (ℕ × List ℕ)) (found : List NumberedContents) → ((i : InputFile) → Contains is i → Contains a.picked.files i) → AllZip (IsTableOf (IsFileIn files)) (input_numbers is) own → tables_reading cmp own ≡ Ok found
      → map (λ (i : InputFile). table_entries tables i.meta.number) is ≡ map (λ (t : Contents). t.entries) (map (λ (t : NumberedContents). t.contents) found)
  input_entries [] [] found inside h reading = ap (λ (ts : List NumberedContents). map (λ (t : Contents). t.entries) (map (λ (t : NumberedContents). t.contents) ts)) (ok_is [] found reading)
  input_entries [] (t ∷ own) found inside h reading = absurd h
  input_entries (i ∷ is) [] found inside h reading = absurd h
  input_entries (i ∷ is) (t ∷ own) found inside h reading =
      let c = checked_parts cmp t own found reading in
      let f = placed i (inside i (first_in i is)) in
      let number : f.file.meta.number ≡ i.meta.number = ap (λ (m : FileMeta). m.number) f.is in
      let o = old_file f.file f.there in
      let held : IsTableAnswer (IsFileIn files) f.file.meta.number (Ok (table_bytes_of loaded f.file.meta.number)) =
      loaded_at (IsFileIn files) (file_numbers cmp v) loaded f.file.meta.number read (in_version cmp v f.file.meta.number low (one_number v.files f.file f.there)) in
      let own_table : IsTableAnswer (IsFileIn files) f.file.meta.number (Ok t.1) = subst (λ (k : ℕ). IsTableAnswer (IsFileIn files) k (Ok t.1)) (sym number) h.0.1 in
      let bytes : t.1 ≡ o.table.bytes = one_table files f.file.meta.number (table_bytes_of loaded f.file.meta.number) t.1 held own_table ∙ old_bytes f.file f.there in
      let same : o.table ≡ c.contents = sym (same_contents cmp t.1 o.table.bytes c.contents o.table bytes c.read o.accepted) in
      let first : table_entries tables i.meta.number ≡ c.contents.entries = ap (table_entries tables) (sym number) ∙ (entries_at tables f.file.meta.number o.table o.there ∙ ap (λ (x : Contents). x.entries) same) in
      ap (λ (es : List Entry). es ∷ map (λ (j : InputFile). table_entries tables j.meta.number) is) first
      ∙ (ap (λ (ls : List (List Entry)). c.contents.entries ∷ ls) (input_entries is own c.behind (λ j at. inside j (later_in i is j at)) h.1 c.rest)
      ∙ ap (λ (ts : List NumberedContents). map (λ (x : Contents). x.entries) (map (λ (x : NumberedContents). x.contents) ts)) c.whole)

  -- ---- what its test tells

  module _ (own : List (ℕ × List ℕ)) (inputs contents : List Contents) (r : Readable) (five : a.picked.level ≤ 5) (own_read : AllZip (IsTableOf (IsFileIn files)) (input_numbers a.picked.files) own)
      (inputs_are : input_tables cmp a.picked.files own ≡ Ok inputs) (outs_are : input_tables cmp a.outputs outputs ≡ Ok contents)
      (held : HoldsKept cmp r a.picked.deeper (map (λ (t : Contents). t.entries) inputs) (map (λ (t : Contents). t.entries) contents)) where
    inputs_read : AreRead cmp a.picked.files own inputs
    inputs_read = are_read cmp a.picked.files own inputs inputs_are

    outs_read : AreRead cmp a.outputs outputs contents
    outs_read = are_read cmp a.outputs outputs contents outs_are

    union_is : IsUnion cmp (entries_of_inputs tables a.picked) held.union
    union_is =
        let same = input_entries a.picked.files own inputs_read.tables (λ i at. at) own_read inputs_read.reading in
        subst (λ (ls : List (List Entry)). IsUnion cmp ls held.union) (sym (same ∙ ap (map (λ (t : Contents). t.entries)) (sym inputs_read.whole))) held.is_union

    written : AreOuts cmp outputs outs_read.tables
    written = are_outs cmp outputs outs_read.tables outs_read.reading

    lists_are : map (λ (t : Contents). t.entries) contents ≡ output_entries (outs cmp outputs)
    lists_are = ap (map (λ (t : Contents). t.entries)) outs_read.whole ∙ sym written.entries

    holds_kept : IsPermutation (kept cmp r a.picked.deeper held.union) (entries_of_lists (output_entries (outs cmp outputs)))
    holds_kept =
        let all = entries_of_lists (output_entries (outs cmp outputs)) in
        let same : kept cmp r a.picked.deeper held.union ≡ sorted_entries cmp all = held.same ∙ ap (λ (ls : List (List Entry)). merged cmp ls) lists_are in
        subst (λ (es : List Entry). IsPermutation es all) (sym same) (IsPermutation-sym all (sorted_entries cmp all) (sorted_moved cmp all))

    added : e.added ≡ map (new_file (a.picked.level + 1)) (outs cmp outputs)
    added =
        added_are cmp (a.picked.level + 1) e.added outputs outs_read.tables (output_numbers cmp v a outputs ad) so.fits.levels
        (subst (λ (fs : List InputFile). are_stated fs outs_read.tables ≡ true) so.outputs outs_read.states) outs_read.reading

    place : TakePlace cmp v tables a.picked r answer (adopted v e) a.next
    place = record {
      held = record { union = held.union; outputs = outs cmp outputs; is_union = union_is; holds_kept = holds_kept; read = All-from_recursion (λ (w : Output). table_reading cmp w.bytes ≡ Ok w.entries) (outs cmp outputs) written.read };
      answer_tables = numbered_outs cmp outputs;
      deleted = so.fits.deleted;
      added = added;
      applies = so.applies;
    }

    law : KeptReadsSurvive cmp
    law = kept_reads_survive cmp total exact

    files_next : All (λ (f : NewFile). IsFileOf cmp (tables_after cmp a.picked answer tables) f.meta) a.next.files
    files_next = law.files v tables a.picked r answer (adopted v e) a.next lawful over place

    -- ---- its files are in order

    level_low : (f : NewFile) → Contains a.next.files f → f.level ≤ 6
    level_low f at =
        let made = ap (λ (s : State). s.files) (edited_so v (adopted v e) a.next so.applies) in
        elim (files_from (undeleted_files e.deleted v.files) e.added f (subst (λ (fs : List NewFile). Contains fs f) (sym made) at)) [
          | inl old ↦ All-contains (λ (x : NewFile). x.level ≤ 6) v.files f low (from_filter (λ (x : NewFile). not (is_deleted e.deleted x)) v.files f old).0
          | inr new ↦ (let is = eqb-true f.level (a.picked.level + 1) (all_at (λ (x : NewFile). nat_eq x.level (a.picked.level + 1)) e.added f so.fits.levels new) in omega (arith, is, five))
        ]

    next_low : All (λ (f : NewFile). f.level ≤ 6) a.next.files
    next_low k d lt = level_low (get_or a.next.files k d) (Contains-get_or a.next.files k d lt)

    next_apart : are_apart a.next.files ≡ true
    next_apart = made_apart v (adopted v e) a.next lawful.apart so.applies

    -- a file of the version after is one of its level
    at_its_level : (f : NewFile) → Contains a.next.files f → Contains (level_files cmp a.next f.level) f.meta
    at_its_level f at = at_level cmp total a.next.files f.level next_apart f at refl

    below : (f : NewFile) → Contains a.next.files f → IsBelowNextFile a.next.next_file f.meta.number
    below f at = All-contains (λ (m : FileMeta). IsBelowNextFile a.next.next_file m.number) (level_files cmp a.next f.level) f.meta (so.next_orderly f.level (level_low f at)).below_next (at_its_level f at)

    upward : (level : ℕ) (m : FileMeta) → Contains (level_files cmp a.next level) m → is_le (internal_cmp cmp m.smallest m.largest) ≡ true
    upward level m at =
        let f = from_level cmp total a.next.files level m at in
        let is = All-contains (λ (x : NewFile). IsFileOf cmp (tables_after cmp a.picked answer tables) x.meta) a.next.files f.file files_next f.there in
        subst (λ (x : FileMeta). is_le (internal_cmp cmp x.smallest x.largest) ≡ true) f.is
        (is_range cmp total (tables_after cmp a.picked answer tables) a.next.next_file f.file (record {
          table = is.table;
          there = is.there;
          accepted = is.accepted;
          rising = is.rising;
          size = is.size;
          smallest = is.smallest;
          largest = is.largest;
          below_next = below f.file f.there;
        }))

    order : AreInOrder cmp a.next
    order = record {
      below_next = λ k d lt. below (get_or a.next.files k d) (Contains-get_or a.next.files k d lt);
      disjoint = λ f g i j same deep differ.
          let orderly = so.next_orderly f.level (level_low f i) in
          let pairs = rising_pairs cmp total (level_files cmp a.next f.level) (orderly.rising deep) (upward f.level) in
          pairs_two (λ (x y : FileMeta). internal_cmp cmp x.largest y.smallest ≡ Less) (level_files cmp a.next f.level) f.meta g.meta (λ is. differ (ap (λ (m : FileMeta). m.number) is)) pairs (at_its_level f i)
          (subst (λ (l : ℕ). Contains (level_files cmp a.next l) g.meta) (sym same) (at_its_level g j));
    }

    -- ---- its tables

    reads : ReadAsBefore cmp v tables a.picked r answer a.next
    reads = law.survive v tables a.picked r answer (adopted v e) a.next lawful low over place order

    abbrev after : List NumberedContents
    after = read_after cmp loaded tables a.picked answer a.next (sound_checked cmp v loaded tables sound) next_low reads.lawful

    same_tables : (f : NewFile) → Contains a.next.files f → table_of_number after f.meta.number ≡ table_of_number (tables_after cmp a.picked answer tables) f.meta.number
    same_tables = same_after cmp loaded tables a.picked answer a.next (sound_checked cmp v loaded tables sound) next_low reads.lawful

    pub kept_version : IsKeptVersion cmp v loaded a outputs r
    kept_version = record {
      tables_next = after;
      lawful = (
        Ok after,
        (
          reads_after cmp loaded tables a.picked answer a.next (sound_checked cmp v loaded tables sound) next_low reads.lawful,
          (refl, same_lawful a.next after (tables_after cmp a.picked answer tables) same_tables cmp reads.lawful),
        ),
      );
      gets = λ others is user at readable.
          let one : others ≡ tables = ok_is others tables (sym (sound_checked cmp v loaded others is) ∙ sound_checked cmp v loaded tables sound) in
          same_get a.next after (tables_after cmp a.picked answer tables) same_tables user at ∙ (reads.gets user at readable ∙ ap (λ (ts : List NumberedContents). get_of v ts user at) (sym one));
    }

-- ---- from the comparison

module _ (cmp : KeyOrder) (total : IsTotalOrder cmp) (exact : IsExact cmp) (v : State) (a : Adoption) (outputs : List (ℕ × List ℕ)) (ad : IsAdopted cmp v (a, outputs)) (files : Files) (loaded : List (ℕ × List ℕ)) (tables : List NumberedContents)
    (read : AllZip (IsTableOf (IsFileIn files)) (file_numbers cmp v) loaded) (sound : IsLawfulTables cmp v loaded (Ok tables)) (snapshots : Snapshots) where
  by_comparison : (contents : List Contents) → input_tables cmp a.outputs outputs ≡ Ok contents → IsOutputsCompared cmp files a snapshots contents (Ok tt) → IsKeptVersion cmp v loaded a outputs (readable_of snapshots a.last)
  by_comparison contents outs_are (Err e, (h, is)) = absurd (no_refusal tt e is)
  by_comparison contents outs_are (Ok own, (own_read, (Err e, (h, is)))) = absurd (no_refusal tt e is)
  by_comparison contents outs_are (Ok own, (own_read, (Ok inputs, (inputs_are, (Err e, (h, is)))))) = absurd (no_refusal tt e is)
  by_comparison contents outs_are (Ok own, (own_read, (Ok inputs, (inputs_are, (Ok passed, (asked, held)))))) =
      kept_version cmp total exact v a outputs ad files loaded tables read sound own inputs contents (readable_of snapshots a.last) (passed_law cmp (compared_request a.picked snapshots a.last inputs) asked).level own_read inputs_are outs_are held

  pub left_version : IsGivenTested cmp files (a, outputs) (With snapshots) (Ok tt) → IsKeptVersion cmp v loaded a outputs (readable_of snapshots a.last)
  left_version (Err e, (h, is)) = absurd (no_refusal tt e is)
  left_version (Ok contents, (outs_are, compared)) = by_comparison contents outs_are compared
