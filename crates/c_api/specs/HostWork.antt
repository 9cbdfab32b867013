-- A compaction that a host makes by these calls, from the tests of its request to its edit.
use Rattle.std.specs.Prelude.{◌≡◌, ◌⊎◌, ℕ, ◌+◌, ◌<◌, ◌≤◌, ◌^◌, Bool, true, List, [], ◌∷◌, ◌++◌}
use Rattle.std.specs.Prelude.{length, map, take, drop, Some, Result, Ok, Err}
use Rattle.std.specs.List.{list_all}
use Rattle.ikey.specs.Bytewise.{bytewise_cmp, bytewise_short_keys}
use Rattle.ikey.specs.Shortlex.{shortlex_cmp, shortlex_short_keys}
use Rattle.ikey.specs.Comparator.{KeyOrder, ShortKeys}
use Rattle.table.specs.EncodedEntry.{Entry}
use Rattle.table.specs.EntryTests.{first_key}
use Rattle.edit.specs.declared.meta.NewFile.{NewFile}
use Rattle.reads.specs.BuilderView.{last_key}
use Rattle.split.specs.Boundaries.{IsSplit}
use Rattle.keep.specs.Runs.{Run, joined_run, ranges_of}
use Rattle.cut.specs.Outputs.{outputs_of}
use Rattle.compact.specs.OneThread.{Answer, one_thread}
use Rattle.c_api.specs.Boundaries.{AreBoundaries, AskedBoundaries, boundaries_test}
use Rattle.c_api.specs.Closed.{are_files, new_file}
use Rattle.c_api.specs.Codes.{coded}
use Rattle.c_api.specs.Edits.{AskedEdit, edit_answer}
use Rattle.c_api.specs.Files.{has_keys}
use Rattle.c_api.specs.Hosts.{thread_request}
use Rattle.c_api.specs.Merges.{AreChecked, AskedMerge, are_inputs, grandparents_in, merge_answer}
use Rattle.c_api.specs.Outputs.{entry_at, is_entry, output_answer}
use Rattle.c_api.specs.Plans.{AskedPlan, is_plan_lent, plan_answer}
use Rattle.c_api.specs.Ranges.{is_range, range_in}
use Rattle.c_api.specs.Requests.{files_of, input_file, options_of, pointer_of, request_answer}
use Rattle.c_api.specs.Runs.{Arrays, arrays_of}
use Rattle.c_api.specs.Tables.{table_answer}
use Rattle.c_api.specs.ToldRuns.{arrays_at, has_parts}
use Rattle.c_api.specs.declared.edit_calls.Numbers.{Numbers}
use Rattle.c_api.specs.declared.file.File.{File}
use Rattle.c_api.specs.declared.input.Counts.{Counts}
use Rattle.c_api.specs.declared.input.Input.{Input}
use Rattle.c_api.specs.declared.order.TheConstants.{BYTEWISE, SHORTLEX}
use Rattle.c_api.specs.declared.output_calls.Entry as host
use Rattle.c_api.specs.declared.plan_calls.PlannedOutput.{PlannedOutput}
use Rattle.c_api.specs.declared.run_places.RunPlaces.{RunPlaces}
use Rattle.c_api.specs.declared.user_range.UserRange.{UserRange}

-- the next answer, or the refusal of the one before
abbrev pub and_next : {A B : Type 0} → Result A ℕ → (A → Result B ℕ) → Result B ℕ
and_next (Ok x) next = next x
and_next (Err n) next = Err n

-- what is answered to each of a list, or the first refusal
abbrev pub all_answers : {A B : Type 0} → (A → Result B ℕ) → List A → Result (List B) ℕ
all_answers answer [] = Ok []
all_answers answer (x ∷ xs) =
    and_next (answer x) (λ y. and_next (all_answers answer xs) (λ ys. Ok (y ∷ ys)))

-- an output that a host has written: the bytes that it lends, and where the entries lie in them
pub record LentOutput : Type 0 where
  pub keys : List ℕ
  pub values : List ℕ
  pub entries : List host.Entry

-- What a host passes to the calls of a compaction: to the tests and the merges what is asked, with
-- a range each; to the plan arrays, and the places of the runs in them; what it lends for each
-- output; and to the edit keys, the files of the inputs, the new files, and numbers. `first` is the
-- number of the first output.
pub record HostWork : Type 0 where
  pub asked : AskedMerge
  pub ranges : List UserRange
  pub arrays : Arrays
  pub places : List RunPlaces
  pub outputs : List LentOutput
  pub keys : List ℕ
  pub files : List File
  pub added : List File
  pub numbers : Numbers
  pub first : ℕ

-- the tests of the request
abbrev pub request_call : HostWork → Result (Unit {0}) ℕ
request_call w = request_answer w.asked.keys w.asked.request w.asked.snapshots
    (files_of w.asked.inputs) w.asked.deeper

-- the tests of the inputs, in their order
abbrev pub tables_call : HostWork → Result (List Counts) ℕ
tables_call w =
    all_answers (table_answer w.asked.request.order w.asked.keys w.asked.tables) w.asked.inputs

-- what is asked for a range
abbrev pub merge_of : AskedMerge → UserRange → AskedMerge
merge_of m range = record m { range = range }

-- the merges of the ranges, in their order
abbrev pub merges_call : HostWork → Result (List Run) ℕ
merges_call w = all_answers (λ range. merge_answer (merge_of w.asked range)) w.ranges

-- the plan that is asked for
abbrev pub asked_plan : HostWork → AskedPlan
asked_plan w = record {
  request = w.asked.request;
  keys = w.asked.keys;
  files = files_of w.asked.inputs;
  deeper = w.asked.deeper;
  arrays = w.arrays;
  runs = w.places;
}

-- the plan
abbrev pub plan_call : HostWork → Result (List PlannedOutput) ℕ
plan_call w = plan_answer (asked_plan w)

-- the tables of the outputs, in their order
abbrev pub outputs_call : HostWork → Result (List (List ℕ)) ℕ
outputs_call w = all_answers
    (λ (o : LentOutput). output_answer w.asked.request o.keys o.values o.entries) w.outputs

-- the edit that is asked for
abbrev pub asked_edit : HostWork → AskedEdit
asked_edit w = record {
  order = w.asked.request.order;
  level = w.asked.request.level;
  keys = w.keys;
  numbers = w.numbers;
  files = w.files;
  added = w.added;
}

-- the edit
abbrev pub edit_call : HostWork → Result (List ℕ) ℕ
edit_call w = edit_answer (asked_edit w)

-- tables with numbers from `number` on
abbrev pub numbered_from : ℕ → List (List ℕ) → List (ℕ × List ℕ)
numbered_from number [] = []
numbered_from number (bytes ∷ others) = (number, bytes) ∷ numbered_from (number + 1) others

-- What a host has at the end: the numbered tables and the edit, or the number of the first refusal.
abbrev pub host_result : HostWork → Result Answer ℕ
host_result w =
    and_next (request_call w) (λ none.
    and_next (tables_call w) (λ counts.
    and_next (merges_call w) (λ runs.
    and_next (plan_call w) (λ planned.
    and_next (outputs_call w) (λ tables.
    and_next (edit_call w) (λ edit.
    Ok (record { tables = numbered_from w.first tables; edit = edit })))))))

-- the entries of planned outputs, one after the other
abbrev pub parts_told : List PlannedOutput → List Entry → List (List Entry)
parts_told [] entries = []
parts_told (p ∷ ps) entries = take p.entries entries ∷ parts_told ps (drop p.entries entries)

-- planned outputs with these entries as new files of a level, with numbers from `number` on
abbrev pub files_told : ℕ → ℕ → List PlannedOutput → List (List Entry) → List NewFile
files_told level number (p ∷ ps) (part ∷ parts) =
    record {
      level = level;
      meta = record {
        number = number;
        size = p.len;
        smallest = first_key part;
        largest = last_key [] part;
      };
    }
    ∷ files_told level (number + 1) ps parts
files_told level number _ _ = []

-- whether all entries of an output lie in what is lent for it
abbrev pub is_output_lent : LentOutput → Bool
is_output_lent o = list_all (is_entry o.keys o.values) o.entries

-- these entries
abbrev pub entries_lent : LentOutput → List Entry
entries_lent o = map (entry_at o.keys o.values) o.entries

-- the entries of the outputs of runs
abbrev pub outputs_over : KeyOrder → AskedMerge → List Run → List (List Entry)
outputs_over cmp m runs =
    outputs_of (grandparents_in cmp m) (options_of m.request) (joined_run runs)

-- A host has copied runs into its arrays, each to its places. It numbers outputs from the number on
-- that the plan was told; or from a later one, and then there is a number for each.
pub record AreCopied (cmp : KeyOrder) (w : HostWork) (runs : List Run) : Type 0 where
  pub within : list_all (has_parts w.arrays) w.places ≡ true
  pub copied : map (arrays_at w.arrays) w.places ≡ map arrays_of runs
  pub numbered : (w.first ≡ w.asked.request.first_number)
      ⊎ ((w.asked.request.first_number ≤ w.first)
      × (w.first + length (outputs_over cmp w.asked runs) < 2 ^ 64))

-- A host lends for each planned output its entries. It passes the outputs as new files of the next
-- level, the inputs as they are, as next file the number after the outputs, and the last sequence
-- of the request.
pub record AreLentOutputs (w : HostWork) (kept : List Entry) (planned : List PlannedOutput) : Type 0
  where
    pub within : list_all is_output_lent w.outputs ≡ true
    pub entries : map entries_lent w.outputs ≡ parts_told planned kept
    pub added : are_files w.keys w.added ≡ true
    pub added_are : map (new_file w.keys) w.added
        ≡ files_told (w.asked.request.level + 1) w.first planned (parts_told planned kept)
    pub files : list_all (has_keys w.keys) w.files ≡ true
    pub files_are : map (input_file w.keys) w.files
        ≡ map (input_file w.asked.keys) (files_of w.asked.inputs)
    pub next_file : w.numbers.next_file ≡ w.first + length planned
    pub last_sequence : w.numbers.last_sequence ≡ w.asked.request.last_sequence

-- What a host keeps to: each place lies in what it lends; its ranges are those between some
-- boundaries; it hands back what the calls wrote.
pub record KeepsTo (cmp : KeyOrder) (boundaries : List (List ℕ)) (w : HostWork) : Type 0 where
  pub inputs : are_inputs w.asked.keys w.asked.tables w.asked.inputs ≡ true
  pub deeper : list_all (has_keys w.asked.keys) w.asked.deeper ≡ true
  pub ranges : list_all (is_range w.asked.keys) w.ranges ≡ true
  pub split : IsSplit cmp boundaries
  pub parted : map (range_in w.asked.keys) w.ranges ≡ ranges_of boundaries
  pub runs : (runs : List Run) → merges_call w ≡ Ok runs → AreCopied cmp w runs
  pub outputs : (runs : List Run) (planned : List PlannedOutput) → merges_call w ≡ Ok runs →
      plan_call w ≡ Ok planned → AreLentOutputs w (joined_run runs).kept planned

-- a number names an order with its short keys
abbrev pub IsOrder : ℕ → KeyOrder → ShortKeys → Type 0
IsOrder number cmp short_keys =
    ((number ≡ BYTEWISE) × (cmp ≡ bytewise_cmp) × (short_keys ≡ bytewise_short_keys))
    ⊎ ((number ≡ SHORTLEX) × (cmp ≡ shortlex_cmp) × (short_keys ≡ shortlex_short_keys))

-- A host that makes these calls has at the end what one thread answers: the same tables and the
-- same edit, or the number of the same first refusal.
pub record CallsLaw (cmp : KeyOrder) (short_keys : ShortKeys) : Type 0 where
  pub same : (w : HostWork) (boundaries : List (List ℕ)) (key : List ℕ) →
      IsOrder w.asked.request.order cmp short_keys →
      pointer_of cmp w.asked.keys w.asked.request.level (files_of w.asked.inputs) ≡ Some key →
      KeepsTo cmp boundaries w →
      host_result w ≡ coded (one_thread cmp short_keys (thread_request cmp w.asked key w.first
      w.numbers.log_number w.numbers.previous_log))
  -- runs that were merged and copied pass the tests of the plan
  pub lent : (w : HostWork) (boundaries : List (List ℕ)) (key : List ℕ) (runs : List Run) →
      IsOrder w.asked.request.order cmp short_keys →
      pointer_of cmp w.asked.keys w.asked.request.level (files_of w.asked.inputs) ≡ Some key →
      KeepsTo cmp boundaries w → request_call w ≡ Ok tt → merges_call w ≡ Ok runs →
      is_plan_lent (asked_plan w) ≡ true
  -- the chosen boundaries are those of ranges
  pub boundaries : (m : AskedBoundaries) (boundaries : List (List ℕ)) →
      IsOrder m.order cmp short_keys → boundaries_test m ≡ Ok tt → AreBoundaries m boundaries →
      IsSplit cmp boundaries
  -- inputs that were checked stay so if more bytes lie after the keys, as those of boundaries
  pub checked : (order : ℕ) (keys more tables : List ℕ) (inputs : List Input) →
      AreChecked order keys tables inputs → AreChecked order (keys ++ more) tables inputs
