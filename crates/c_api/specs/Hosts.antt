-- What a host gets that makes these calls, and what one thread answers.
use Rattle.std.specs.Prelude.{◌≡◌, ℕ, List, [], ◌∷◌, map, Some, Result, Ok, Err}
use Rattle.ikey.specs.Answers.{◌>>=◌}
use Rattle.ikey.specs.fault.Fault.{Fault}
use Rattle.ikey.specs.Comparator.{KeyOrder, ShortKeys}
use Rattle.reads.specs.Boundaries.{IsSplit}
use Rattle.reads.specs.Ranges.{KeyRange}
use Rattle.table.specs.Table.{table}
use Rattle.keep.specs.Runs.{Run, joined_run, range_run, ranges_of}
use Rattle.cut.specs.Outputs.{outputs_of}
use Rattle.compact.specs.OneThread.{Answer, one_thread, outputs_answer}
use Rattle.compact.specs.OutputTables.{outputs_from}
use Rattle.compact.specs.Request.{RequestView}
use Rattle.c_api.specs.Merges.{AskedMerge, context_at, inputs_result, request_result, table_at}
use Rattle.c_api.specs.Requests.{files_of, options_of, picked_with, pointer_of}
use Rattle.c_api.specs.Runs.{arrays_of}
use Rattle.c_api.specs.ToldRuns.{run_told}

-- what one thread is asked for, with the level's compact pointer and these numbers
abbrev pub thread_request : KeyOrder → AskedMerge → List ℕ → ℕ → ℕ → ℕ → RequestView
thread_request cmp m key first log previous = record {
  picked = picked_with cmp m.keys m.request.level (files_of m.inputs) m.deeper key;
  tables = map (table_at m.tables) m.inputs;
  snapshots = m.snapshots;
  first_number = first;
  log_number = log;
  previous_log = previous;
  last_sequence = m.request.last_sequence;
  options = options_of m.request;
}

-- what the merge of a range answers, if the request passed its tests
abbrev pub range_reading : KeyOrder → AskedMerge → KeyRange → Result Run Fault
range_reading cmp m range = do
  entries ← inputs_result m cmp
  range_run cmp (context_at cmp m) entries range

-- what the merges of ranges answer: their runs, or the first refusal in the order of the ranges
abbrev pub merges_reading : KeyOrder → AskedMerge → List KeyRange → Result (List Run) Fault
merges_reading cmp m [] = Ok []
merges_reading cmp m (range ∷ ranges) = do
  run ← range_reading cmp m range
  runs ← merges_reading cmp m ranges
  Ok (run ∷ runs)

-- what the outputs of runs answer, one run after the other: their tables and their edit, or their
-- refusal
abbrev pub host_answer : KeyOrder → ShortKeys → RequestView → List Run → Result Answer Fault
host_answer cmp short_keys r runs = outputs_answer r
    (outputs_from (table cmp short_keys r.options) r.first_number
    (outputs_of r.picked.grandparents r.options (joined_run runs)))

-- A host that makes these calls gets what one thread answers, wherever it parts its inputs.
pub record HostLaw (cmp : KeyOrder) (short_keys : ShortKeys) : Type 0 where
  -- a request that is refused
  pub tested : (m : AskedMerge) (key : List ℕ) (first log previous : ℕ) (e : Fault) →
      pointer_of cmp m.keys m.request.level (files_of m.inputs) ≡ Some key →
      request_result m cmp ≡ Err e →
      one_thread cmp short_keys (thread_request cmp m key first log previous) ≡ Err e
  -- a range that is refused
  pub refused : (m : AskedMerge) (key : List ℕ) (first log previous : ℕ)
      (boundaries : List (List ℕ)) (e : Fault) →
      pointer_of cmp m.keys m.request.level (files_of m.inputs) ≡ Some key →
      request_result m cmp ≡ Ok tt → IsSplit cmp boundaries →
      merges_reading cmp m (ranges_of boundaries) ≡ Err e →
      one_thread cmp short_keys (thread_request cmp m key first log previous) ≡ Err e
  -- the runs of all ranges
  pub merged : (m : AskedMerge) (key : List ℕ) (first log previous : ℕ)
      (boundaries : List (List ℕ)) (runs : List Run) →
      pointer_of cmp m.keys m.request.level (files_of m.inputs) ≡ Some key →
      request_result m cmp ≡ Ok tt → IsSplit cmp boundaries →
      merges_reading cmp m (ranges_of boundaries) ≡ Ok runs →
      one_thread cmp short_keys (thread_request cmp m key first log previous)
      ≡ host_answer cmp short_keys (thread_request cmp m key first log previous) runs
  -- what a merge writes of a run is read back as that run
  pub read_back : (run : Run) → run_told (arrays_of run) ≡ run
