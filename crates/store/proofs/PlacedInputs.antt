-- Inputs that are files of a lawful version: what a compaction that reads them alone answers.
use Rattle.std.proofs.Common.{◌≡◌, ℕ, ◌+◌, ◌≤◌, Bool, true, false, ◌&&◌, List, [], ◌∷◌, map, length, Option, Result, Ok, Err, refl, sym, ap, subst, ◌∙◌, inl, inr, arith}
use Rattle.std.specs.Prelude.{Contains, nat_le, unwrap_or}
use Rattle.std.specs.List.{AllZip}
use Rattle.std.specs.Option.{ok_or}
use Rattle.std.specs.Cmp.{IsTotalOrder}
use Rattle.std.specs.declared.cmp.Ordering.{Ordering}
use Rattle.std.proofs.lemmas.List.Elements.{All-contains}
use Rattle.folder.specs.Answers.{fault, ◌>>=◌}
use Rattle.folder.specs.fault.Fault.{Fault}
use Rattle.folder.specs.fault.FaultName.TheVariants.{Bounds, Numbers, SplitCount}
use Rattle.folder.specs.Comparator.{ShortKeys}
use Rattle.reads.specs.TestResult.{test_result}
use Rattle.reads.specs.TableContents.{Contents, contents_reading}
use Rattle.folder.specs.Version.{State}
use Rattle.folder.specs.VersionOrder.{level_files}
use Rattle.folder.specs.meta.NewFile.{NewFile}
use Rattle.folder.specs.Calls.{Files}
use Rattle.folder.specs.Levels.{file_numbers, numbers_at}
use Rattle.folder.specs.LoadedTables.{IsLoaded, IsTableOf}
use Rattle.folder.specs.ReadsAs.{IsFileIn, IsOneOf}
use Rattle.install.specs.Install.{table_bytes_of}
use Rattle.pick.specs.PickedInputs.{PickedInputs}
use Rattle.pick.specs.declared.picked_inputs.InputFile.{InputFile}
use Rattle.reads.proofs.Members.{first_in, first_or_later, later_in, none_in}
use Rattle.reads.specs.Lawful.{IsFileOf, IsLawful}
use Rattle.reads.specs.Tables.{NumberedContents}
use Rattle.checks.proofs.LawfulLemmas.{sound_checked, sound_lawful}
use Rattle.checks.specs.TableReadings.{numbered_reading, tables_reading}
use Rattle.checks.specs.LawfulTables.{IsLawfulTables}
use Rattle.compact.proofs.ReadInputs.{stated_lawful}
use Rattle.compact.specs.Inputs.{table_matches_metadata}
use Rattle.compact.specs.OneThread.{Answer, compaction_result}
use Rattle.compact.specs.Request.{RequestView}
use Rattle.compact.proofs.ClosedLevels.{in_level}
use Rattle.compact.specs.InputsOver.{as_file}
use Rattle.compact.specs.declared.settings.Settings.{Settings}
use Rattle.store.specs.FolderRequest.{compaction_from, first_output, last_of}
use Rattle.store.specs.InputsCompaction.{IsOrderlyAnswer, are_stated, input_numbers, input_tables}
use Rattle.install.proofs.Numbers.{of_levels}
use Rattle.install.proofs.Outputs.{loaded_at}
use Rattle.store.proofs.InputNumbers.{none_missing, number_among, one_table, same_bytes}
use Rattle.store.proofs.Loaded.{bytes_found, found_loaded}
use Rattle.store.proofs.OrderlyFiles.{orderly}
use Rattle.store.proofs.PartFiles.{ArePlaced}
use Rattle.store.proofs.Flow.{no_refusal}

-- what is asked with these bytes of the inputs
abbrev request_with : ℕ → State → PickedInputs → Settings → List (List ℕ) → RequestView
request_with number v p s given = record {
  picked = p;
  tables = given;
  snapshots = s.snapshots;
  first_number = number;
  log_number = unwrap_or v.log_number 0;
  previous_log = unwrap_or v.previous_log 0;
  last_sequence = last_of v;
  options = s.options;
}

-- and what is answered
abbrev answer_with : Option ℕ → (List ℕ → List ℕ → Ordering) → ShortKeys → State → PickedInputs → Settings → List (List ℕ) → Result Answer Fault
answer_with first cmp short_keys v p s given =
    test_result (nat_le 1 s.ranges && nat_le s.ranges 4096) SplitCount >>= λ _.
    (ok_or (first_output v first) (fault Numbers) >>= λ number. Ok (request_with number v p s given)) >>= λ r.
    compaction_result cmp short_keys s.workers r

module _ (cmp : List ℕ → List ℕ → Ordering) (total : IsTotalOrder cmp) (files : Files) (v : State) (loaded : List (ℕ × List ℕ)) (tables : List NumberedContents)
    (held : IsLoaded (IsFileIn files) (file_numbers cmp v) (Ok loaded)) (sound : IsLawfulTables cmp v loaded (Ok tables)) where
  checked : tables_reading cmp loaded ≡ Ok tables
  checked = sound_checked cmp v loaded tables sound

  lawful : IsLawful cmp v tables
  lawful = sound_lawful cmp v loaded tables sound

  -- the test of the files alone passes
  pub passes : (e : Fault) → IsOrderlyAnswer cmp v (Err e) → ⊥
  passes e h = h.1 (orderly cmp total v tables lawful)

  module _ (p : PickedInputs) (placed : ArePlaced v p) where
    -- an input is one of the version's files
    input_number : (i : InputFile) → Contains p.files i → IsOneOf (file_numbers cmp v) i.meta.number
    input_number i at =
        let own = number_among (level_files cmp v i.level) i.meta (in_level cmp total v tables lawful (as_file i) (placed.there i at) i.level refl) in
        let six = placed.levels i at in
        of_levels (numbers_at cmp v) 0 7 i.level i.meta.number (omega arith) (omega (arith, six)) own

    file_of_input : (i : InputFile) → Contains p.files i → IsFileOf cmp tables i.meta
    file_of_input i at = All-contains (λ (x : NewFile). IsFileOf cmp tables x.meta) v.files (as_file i) lawful.files (placed.there i at)

    among : (is : List InputFile) → ((i : InputFile) → Contains is i → Contains p.files i) → (n : ℕ) → IsOneOf (input_numbers is) n → IsOneOf (file_numbers cmp v) n
    among [] inside n m = absurd m
    among (i ∷ is) inside n (inl same) = subst (IsOneOf (file_numbers cmp v)) (sym same) (input_number i (inside i (first_in i is)))
    among (i ∷ is) inside n (inr m) = among is (λ j at. inside j (later_in i is j at)) n m

    -- so its table isn't missing
    pub not_missing : (e : Fault) → IsLoaded (IsFileIn files) (input_numbers p.files) (Err e) → ⊥
    not_missing e missing = none_missing files (file_numbers cmp v) (input_numbers p.files) loaded e held (among p.files (λ i at. at)) missing

    one_input : (is : List InputFile) (i : InputFile) → Contains is i → IsOneOf (input_numbers is) i.meta.number
    one_input is i at = by is at
      where
        by : (js : List InputFile) → Contains js i → IsOneOf (input_numbers js) i.meta.number
        by [] j = absurd (none_in i j)
        by (k ∷ js) j = elim (first_or_later k js i j) [ inl same ↦ inl (ap (λ (x : InputFile). x.meta.number) same) | inr later ↦ inr (by js later) ]

    module _ (own : List (ℕ × List ℕ)) (read : IsLoaded (IsFileIn files) (input_numbers p.files) (Ok own)) where
      bytes_same : (i : InputFile) → Contains p.files i → table_bytes_of own i.meta.number ≡ table_bytes_of loaded i.meta.number
      bytes_same i at = same_bytes files (file_numbers cmp v) (input_numbers p.files) loaded own i.meta.number held read (input_number i at) (one_input p.files i at)

      all_same : (is : List InputFile) → ((i : InputFile) → Contains is i → Contains p.files i)
          → map (λ (i : InputFile). table_bytes_of own i.meta.number) is ≡ map (λ (i : InputFile). table_bytes_of loaded i.meta.number) is
      all_same [] inside = refl
      all_same (i ∷ is) inside =
          ap (λ (b : List ℕ). b ∷ map (λ (j : InputFile). table_bytes_of own j.meta.number) is) (bytes_same i (inside i (first_in i is)))
          ∙ ap (λ (bs : List (List ℕ)). table_bytes_of loaded i.meta.number ∷ bs) (all_same is (λ j at. inside j (later_in i is j at)))

      -- the request is the same as with the tables of all files
      pub same_compaction : (first : Option ℕ) (short_keys : ShortKeys) (s : Settings) → compaction_from first cmp short_keys v own p s ≡ compaction_from first cmp short_keys v loaded p s
      same_compaction first short_keys s =
          ap (λ (given : List (List ℕ)). answer_with first cmp short_keys v p s given) (all_same p.files (λ i at. at))

      -- and the tables are those of the version
      record AreRead (is : List InputFile) (given : List (ℕ × List ℕ)) : Type 0 where
        found : List NumberedContents
        reading : tables_reading cmp given ≡ Ok found
        stated : are_stated is found ≡ true

      read_one : (i : InputFile) (t : ℕ × List ℕ) → Contains p.files i → IsTableOf (IsFileIn files) i.meta.number t → (c : Contents) × (numbered_reading cmp t ≡ Ok (record { number = t.0; contents = c })) × (table_matches_metadata i.meta c ≡ true)
      read_one i t at is =
          let f = file_of_input i at in
          let bytes : t.1 ≡ f.table.bytes =
          one_table files i.meta.number (table_bytes_of loaded i.meta.number) t.1 (loaded_at (IsFileIn files) (file_numbers cmp v) loaded i.meta.number held (input_number i at)) is.1
          ∙ bytes_found loaded i.meta.number f.table.bytes (found_loaded cmp loaded tables i.meta.number f.table checked f.there) in (
            f.table,
            ap (λ (r : Result Contents Fault). r >>= λ c. Ok (record { number = t.0; contents = c })) (ap (contents_reading cmp) bytes ∙ f.accepted),
            stated_lawful cmp tables i.meta f,
          )

      are_read : (is : List InputFile) (ts : List (ℕ × List ℕ)) → ((i : InputFile) → Contains is i → Contains p.files i) → AllZip (IsTableOf (IsFileIn files)) (input_numbers is) ts → AreRead is ts
      are_read [] [] inside h = record { found = []; reading = refl; stated = refl }
      are_read [] (t ∷ ts) inside h = absurd h
      are_read (i ∷ is) [] inside h = absurd h
      are_read (i ∷ is) (t ∷ ts) inside h =
          let one = read_one i t (inside i (first_in i is)) h.0 in
          let rest = are_read is ts (λ j at. inside j (later_in i is j at)) h.1 in
          record {
            found = record { number = t.0; contents = one.0 } ∷ rest.found;
            reading =
                ap (λ (r : Result NumberedContents Fault). r >>= λ first. tables_reading cmp ts >>= λ others. Ok (first ∷ others)) one.1
                ∙ ap (λ (r : Result (List NumberedContents) Fault). r >>= λ others. Ok (record { number = t.0; contents = one.0 } ∷ others)) rest.reading;
            stated = ap (λ (b : Bool). b && are_stated is rest.found) one.2 ∙ rest.stated;
          }

      pub tables_pass : (e : Fault) → input_tables cmp p.files own ≡ Err e → ⊥
      tables_pass e h =
          let all = are_read p.files own (λ i at. at) read in
          let value : input_tables cmp p.files own ≡ Ok (map (λ (t : NumberedContents). t.contents) all.found) =
          ap (λ (r : Result (List NumberedContents) Fault). r >>= λ ts. test_result (are_stated p.files ts) Bounds >>= λ _. Ok (map (λ (t : NumberedContents). t.contents) ts)) all.reading
          ∙ ap (λ (b : Bool). test_result b Bounds >>= λ _. Ok (map (λ (t : NumberedContents). t.contents) all.found)) all.stated in
          no_refusal (map (λ (t : NumberedContents). t.contents) all.found) e (sym value ∙ h)
