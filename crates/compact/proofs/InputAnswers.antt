-- The answers for the inputs, one by one.
use Rattle.std.proofs.Common.{◌≡◌, ℕ, zero, suc, ◌+◌, ◌-◌, ◌<◌, Bool, true, List, [], ◌∷◌, map, length, Some, Result, Ok, Err, refl, sym, ap, ◌∙◌, arith}
use Rattle.std.specs.Prelude.{slice_get, min, get_or}
use Rattle.std.specs.Option.{option_map}
use Rattle.std.specs.declared.cmp.Ordering.{Ordering}
use Rattle.std.proofs.lemmas.List.{length-map}
use Rattle.std.proofs.lemmas.Option.{same_Some, slice_get-get_or, slice_get-map, slice_get_read}
use Rattle.ikey.specs.fault.Fault.{Fault}
use Rattle.ikey.specs.fault.FaultName.TheVariants.{Bounds}
use Rattle.ikey.specs.Answers.{◌>>=◌, FailsOrMemory}
use Rattle.ikey.proofs.Refusals.{unless_from}
use Rattle.table.specs.EncodedEntry.{Entry}
use Rattle.table.specs.TableContents.{Contents, contents_reading}
use Rattle.table.specs.EntryTests.{first_key}
use Rattle.table.specs.TestResult.{test_result}
use Rattle.edit.specs.declared.meta.FileMeta.{FileMeta}
use Rattle.pick.specs.declared.picked_inputs.InputFile.{InputFile}
use Rattle.board.specs.CollectedResults.{collected_results}
use Rattle.reads.specs.Bounds.{has_bounds}
use Rattle.merge.proofs.Reaching.{first_from, last_from}
use Rattle.compact.specs.Inputs.{result_at_input, table_matches_metadata, input_reading, inputs_reading}
use Rattle.compact.specs.JobAnswers.{input_answers}

-- ---- what a version states

-- the test, by a table's bytes, its first and its last key
pub stated_by : (f : FileMeta) (t : Contents) (bytes smallest largest : List ℕ) → bytes ≡ t.bytes
    → Some smallest ≡ option_map (λ e. e.key) (slice_get t.entries 0) → Some largest ≡ option_map (λ e. e.key) (slice_get t.entries (length t.entries - 1))
    → has_bounds f (length bytes) smallest largest ≡ table_matches_metadata f t
stated_by f t bytes smallest largest b s l =
    ap (λ (bs : List ℕ). has_bounds f (length bs) smallest largest) b
    ∙ ap (λ (k : List ℕ). has_bounds f (length t.bytes) k largest) (first_from t.entries smallest s)
    ∙ ap (λ (k : List ℕ). has_bounds f (length t.bytes) (first_key t.entries) k) (last_from t.entries largest l)

-- ---- the reading of an input

module _ (cmp : List ℕ → List ℕ → Ordering) (f : FileMeta) (bytes : List ℕ) where
  abbrev entries_if : Bool → Contents → Result (List Entry) Fault
  entries_if stated t = test_result stated Bounds >>= λ _. Ok t.entries

  pub read_refused : (e : Fault) → FailsOrMemory e (contents_reading cmp bytes) → FailsOrMemory e (input_reading cmp f bytes)
  read_refused e h =
      unless_from e (contents_reading cmp bytes ≡ Err e) (input_reading cmp f bytes ≡ Err e)
      (λ is. ap (λ (r : Result Contents Fault). r >>= λ t. entries_if (table_matches_metadata f t) t) is) h

  read_by : (t : Contents) (stated : Bool) → contents_reading cmp bytes ≡ Ok t → table_matches_metadata f t ≡ stated → input_reading cmp f bytes ≡ entries_if stated t
  read_by t stated read is =
      ap (λ (r : Result Contents Fault). r >>= λ t. entries_if (table_matches_metadata f t) t) read ∙ ap (λ (b : Bool). entries_if b t) is

  pub read_stated : (t : Contents) → contents_reading cmp bytes ≡ Ok t → table_matches_metadata f t ≡ true → input_reading cmp f bytes ≡ Ok t.entries
  read_stated t read is = read_by t true read is

-- ---- all of them

pub answers_length : (cmp : List ℕ → List ℕ → Ordering) (place : ℕ) (files : List InputFile) (tables : List (List ℕ)) → length (input_answers cmp place files tables) ≡ min (length files) (length tables)
answers_length cmp place [] tables = omega arith
answers_length cmp place (f ∷ files) [] = omega arith
answers_length cmp place (f ∷ files) (bytes ∷ tables) = omega (arith, answers_length cmp (place + 1) files tables)

pub answer_at : (cmp : List ℕ → List ℕ → Ordering) (place : ℕ) (files : List InputFile) (tables : List (List ℕ)) (job : ℕ) (f : InputFile) (bytes : List ℕ)
    → slice_get files job ≡ Some f → slice_get tables job ≡ Some bytes → slice_get (input_answers cmp place files tables) job ≡ Some (result_at_input (place + job) (input_reading cmp f.meta bytes))
answer_at cmp place [] tables job f bytes h k = absurd cc
answer_at cmp place (g ∷ files) [] job f bytes h k = absurd cc
answer_at cmp place (g ∷ files) (t ∷ tables) zero f bytes h k =
    let here : place ≡ place + 0 = omega arith in
    ap (λ (i : InputFile). Some (result_at_input place (input_reading cmp i.meta t))) (same_Some g f h)
    ∙ ap (λ (b : List ℕ). Some (result_at_input place (input_reading cmp f.meta b))) (same_Some t bytes k)
    ∙ ap (λ (n : ℕ). Some (result_at_input n (input_reading cmp f.meta bytes))) here
answer_at cmp place (g ∷ files) (t ∷ tables) (suc job) f bytes h k =
    let here : (place + 1) + job ≡ place + suc job = omega arith in
    answer_at cmp (place + 1) files tables job f bytes h k ∙ ap (λ (n : ℕ). Some (result_at_input n (input_reading cmp f.meta bytes))) here

pub inputs_collected : (cmp : List ℕ → List ℕ → Ordering) (place : ℕ) (files : List InputFile) (tables : List (List ℕ)) → collected_results (input_answers cmp place files tables) ≡ inputs_reading cmp place files tables
inputs_collected cmp place [] tables = refl
inputs_collected cmp place (f ∷ files) [] = refl
inputs_collected cmp place (f ∷ files) (bytes ∷ tables) =
    ap (λ (rest : Result (List (List Entry)) Fault). result_at_input place (input_reading cmp f.meta bytes) >>= λ entries. rest >>= λ others. Ok (entries ∷ others))
    (inputs_collected cmp (place + 1) files tables)

module _ (cmp : List ℕ → List ℕ → Ordering) (files : List InputFile) {T : Type 0} (view : T → List ℕ) (tables : List T) (job : ℕ) where
  abbrev answers : List (Result (List Entry) Fault)
  answers = input_answers cmp 0 files (map view tables)

  pub file_within : job < length answers → job < length files
  file_within h = omega (arith, h, answers_length cmp 0 files (map view tables))

  pub table_within : job < length answers → job < length tables
  table_within h = omega (arith, h, answers_length cmp 0 files (map view tables), length-map tables view)

  -- there is an answer
  pub some_answer : Result (List Entry) Fault → job < length answers → (answer : Result (List Entry) Fault) × (slice_get answers job ≡ Some answer)
  some_answer d h = (get_or answers job d, slice_get-get_or answers job d h)

  -- it is that for the input of the job
  pub answer_is : (f : InputFile) (d : T) (answer : Result (List Entry) Fault) → job < length files → job < length tables → f ≡ get_or files job f
      → slice_get answers job ≡ Some answer → result_at_input job (input_reading cmp f.meta (view (get_or tables job d))) ≡ answer
  answer_is f d answer in_files in_tables file h =
      let table : T = get_or tables job d in
      let bytes : slice_get (map view tables) job ≡ Some (view table) = slice_get-map view tables job ∙ ap (option_map view) (slice_get-get_or tables job d in_tables) in
      let here = answer_at cmp 0 files (map view tables) job f (view table) (slice_get_read files (length files) job f refl in_files file) bytes in
      let zero_job : 0 + job ≡ job = omega arith in
      ap (λ (n : ℕ). result_at_input n (input_reading cmp f.meta (view table))) (sym zero_job) ∙ same_Some (result_at_input (0 + job) (input_reading cmp f.meta (view table))) answer (sym here ∙ h)
