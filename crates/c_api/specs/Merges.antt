-- What the merge of a range answers.
use Rattle.std.specs.Prelude.{◌≡◌, ℕ, Bool, ◌&&◌, if◌then◌else◌, List, map, Result, Ok, Err}
use Rattle.std.specs.List.{AllByRecursion, list_all}
use Rattle.ikey.specs.Answers.{◌>>=◌}
use Rattle.ikey.specs.fault.Fault.{Fault}
use Rattle.ikey.specs.Comparator.{KeyOrder}
use Rattle.edit.specs.declared.meta.FileMeta.{FileMeta}
use Rattle.reads.specs.EncodedEntry.{Entry}
use Rattle.keep.specs.Marks.{CompactionContext}
use Rattle.keep.specs.Readable.{readable_of}
use Rattle.keep.specs.Runs.{Run, range_run}
use Rattle.compact.specs.Inputs.{inputs_reading}
use Rattle.compact.specs.snapshots.Snapshots.{Snapshots}
use Rattle.c_api.specs.Codes.{coded}
use Rattle.c_api.specs.Files.{has_keys, meta_at}
use Rattle.c_api.specs.Orders.{by_order}
use Rattle.c_api.specs.Places.{part_at}
use Rattle.c_api.specs.Ranges.{is_range, range_in}
use Rattle.c_api.specs.Requests.{files_of, grandparents_of, input_file, request_reading}
use Rattle.c_api.specs.Requests.{snapshots_of}
use Rattle.c_api.specs.Tables.{is_input, table_answer}
use Rattle.c_api.specs.declared.code.TheConstants.{MISUSE}
use Rattle.c_api.specs.declared.file.File.{File}
use Rattle.c_api.specs.declared.input.Input.{Input}
use Rattle.c_api.specs.declared.lent.Lent.{Lent}
use Rattle.c_api.specs.declared.request.HostRequest.{HostRequest}
use Rattle.c_api.specs.declared.user_range.UserRange.{UserRange}

-- a merge that is asked for: its request, what is lent, and its range
pub record AskedMerge : Type 0 where
  pub request : HostRequest
  pub snapshots : Snapshots
  pub keys : List ℕ
  pub tables : List ℕ
  pub inputs : List Input
  pub deeper : List File
  pub range : UserRange

-- what is lent, as a merge that is asked for
abbrev pub asked_in : Lent → AskedMerge
asked_in l = record {
  request = l.request;
  snapshots = snapshots_of l.request l.snapshots;
  keys = l.keys.now;
  tables = l.tables.now;
  inputs = l.inputs.now;
  deeper = l.deeper.now;
  range = l.range;
}

-- whether each input lies in what is lent
abbrev pub are_inputs : List ℕ → List ℕ → List Input → Bool
are_inputs keys tables inputs = list_all (is_input keys tables) inputs

-- whether each place lies in what is lent
abbrev pub is_lent : AskedMerge → Bool
is_lent m = are_inputs m.keys m.tables m.inputs && list_all (has_keys m.keys) m.deeper
    && is_range m.keys m.range

-- the bytes of an input's table
abbrev pub table_at : List ℕ → Input → List ℕ
table_at tables i = part_at tables i.table

-- what the version states of the deeper files
abbrev pub deeper_of : AskedMerge → List FileMeta
deeper_of m = map (meta_at m.keys) m.deeper

-- the grandparents
abbrev pub grandparents_in : KeyOrder → AskedMerge → List FileMeta
grandparents_in cmp m = grandparents_of cmp m.keys m.request.level (files_of m.inputs) m.deeper

-- what the drop rule needs to know: the readable sequences, the deeper files, and the grandparents
abbrev pub context_at : KeyOrder → AskedMerge → CompactionContext
context_at cmp m = record {
  readable = readable_of m.snapshots m.request.last_sequence;
  deeper = deeper_of m;
  grandparents = grandparents_in cmp m;
}

-- the tests of the request without its tables
abbrev pub request_result : AskedMerge → KeyOrder → Result (Unit {0}) Fault
request_result m cmp = request_reading m.keys m.request m.snapshots (files_of m.inputs) m.deeper cmp

-- the entries of each input, or the first refusal of one
abbrev pub inputs_result : AskedMerge → KeyOrder → Result (List (List Entry)) Fault
inputs_result m cmp = inputs_reading cmp 0 (map (input_file m.keys) (files_of m.inputs))
    (map (table_at m.tables) m.inputs)

-- the run of a range of the inputs, or the first refusal of an input, or Duplicate
abbrev pub run_reading : AskedMerge → KeyOrder → Result Run Fault
run_reading m cmp = do
  entries ← inputs_result m cmp
  range_run cmp (context_at cmp m) entries (range_in m.keys m.range)

-- the same, if the request passes its tests; else its first refusal
abbrev pub merge_reading : AskedMerge → KeyOrder → Result Run Fault
merge_reading m cmp = do
  _ ← request_result m cmp
  run_reading m cmp

-- the same in the request's order; MISUSE if a place isn't lent
abbrev pub merge_answer : AskedMerge → Result Run ℕ
merge_answer m =
    if is_lent m then coded (by_order m.request.order (merge_reading m)) else Err MISUSE

-- each input was checked in the order of this number, and has what its check counted
abbrev pub AreChecked : ℕ → List ℕ → List ℕ → List Input → Type 0
AreChecked order keys tables inputs =
    AllByRecursion (λ (i : Input). table_answer order keys tables i ≡ Ok i.counts) inputs
