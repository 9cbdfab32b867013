-- The host's request, as a compaction's request.
use Rattle.std.specs.Prelude.{ℕ, ◌+◌, nat_eq, nat_le, Bool, ◌&&◌, if◌then◌else◌, List, [], ◌∷◌, map}
use Rattle.std.specs.Prelude.{filter, Option, None, Some, Result, Err}
use Rattle.std.specs.Borrow.{Bor}
use Rattle.std.specs.List.{list_all}
use Rattle.ikey.specs.Answers.{fault}
use Rattle.ikey.specs.fault.Fault.{Fault}
use Rattle.ikey.specs.fault.FaultName.TheVariants.{NoInput, Level}
use Rattle.ikey.specs.Comparator.{KeyOrder}
use Rattle.table.specs.declared.options.Options as declared
use Rattle.edit.specs.declared.meta.FileMeta.{FileMeta}
use Rattle.pick.specs.Boundaries.{largest_key}
use Rattle.pick.specs.PickedInputs.{PickedInputs}
use Rattle.pick.specs.Ranges.{overlaps}
use Rattle.pick.specs.declared.input_choice.TheConstants.{LAST_INPUT_LEVEL}
use Rattle.pick.specs.declared.picked_inputs.InputFile.{InputFile}
use Rattle.compact.specs.snapshots.Snapshots.{Snapshots}
use Rattle.compact.specs.snapshots.Snapshots.TheVariants.{From, Listed}
use Rattle.compact.specs.Request.{RequestView, request_test}
use Rattle.c_api.specs.Codes.{coded}
use Rattle.c_api.specs.Files.{has_keys, meta_at}
use Rattle.c_api.specs.Orders.{by_order}
use Rattle.c_api.specs.declared.code.TheConstants.{MISUSE}
use Rattle.c_api.specs.declared.file.File.{File}
use Rattle.c_api.specs.declared.input.Input.{Input}
use Rattle.c_api.specs.declared.request.HostRequest.{HostRequest}

-- the options of the outputs
abbrev pub options_of : HostRequest → declared.Options
options_of r = record {
  block_size = r.block_size;
  restart_interval = r.restart_interval;
  file_size = r.file_size;
}

-- which sequences stay readable, if these are listed
abbrev pub snapshots_of : HostRequest → Bor (List ℕ) → Snapshots
snapshots_of r listed = if nat_eq r.is_listed 0 then From r.oldest else Listed listed

-- whether a file is of a level
abbrev pub is_of : ℕ → File → Bool
is_of level file = nat_eq file.level level

-- the files of a level
abbrev pub metas_of : List ℕ → ℕ → List File → List FileMeta
metas_of keys level files = map (meta_at keys) (filter (is_of level) files)

-- a file as an input
abbrev pub input_file : List ℕ → File → InputFile
input_file keys file = record { level = file.level; meta = meta_at keys file }

-- the files of inputs
abbrev pub files_of : List Input → List File
files_of inputs = map (λ (i : Input). i.file) inputs

-- the greatest of the level's largest keys; none if no input is of the level
abbrev pub pointer_of : KeyOrder → List ℕ → ℕ → List File → Option (List ℕ)
pointer_of cmp keys level files = largest_key cmp (metas_of keys level files)

-- the grandparents: of the deeper files those of level + 2 whose range overlaps that of the inputs
abbrev pub grandparents_of : KeyOrder → List ℕ → ℕ → List File → List File → List FileMeta
grandparents_of cmp keys level files deeper =
    if nat_le level LAST_INPUT_LEVEL
    then filter (overlaps cmp (map (meta_at keys) files)) (metas_of keys (level + 2) deeper)
    else []

-- the inputs, what is known of the deeper files, and the compact pointer `key`
abbrev pub picked_with : KeyOrder → List ℕ → ℕ → List File → List File → List ℕ → PickedInputs
picked_with cmp keys level files deeper key = record {
  level = level;
  files = map (input_file keys) files;
  grandparents = grandparents_of cmp keys level files deeper;
  deeper = map (meta_at keys) deeper;
  pointer = record { level = level; key = key };
}

-- the table of an input of which no byte is lent yet
abbrev pub no_table : File → List ℕ
no_table file = []

-- The compaction's request without its tables, which are as many empty ones; its numbers are 0.
abbrev pub request_with : KeyOrder → List ℕ → HostRequest → Snapshots → List File → List File →
    List ℕ → RequestView
request_with cmp keys r snapshots files deeper key = record {
  picked = picked_with cmp keys r.level files deeper key;
  tables = map no_table files;
  snapshots = snapshots;
  first_number = 0;
  log_number = 0;
  previous_log = 0;
  last_sequence = r.last_sequence;
  options = options_of r;
}

-- The tests of a request without its tables, if the level's new compact pointer is known. Without
-- an input of the level it is NoInput or Level.
abbrev pub pointed_test : KeyOrder → List ℕ → HostRequest → Snapshots → List File → List File →
    Option (List ℕ) → Result (Unit {0}) Fault
pointed_test cmp keys r snapshots files deeper (Some key) =
    request_test cmp (request_with cmp keys r snapshots files deeper key)
pointed_test cmp keys r snapshots [] deeper None = Err (fault NoInput)
pointed_test cmp keys r snapshots (f ∷ fs) deeper None = Err (fault Level)

-- the tests of a request without its tables, in an order
abbrev pub request_reading : List ℕ → HostRequest → Snapshots → List File → List File → KeyOrder →
    Result (Unit {0}) Fault
request_reading keys r snapshots files deeper cmp =
    pointed_test cmp keys r snapshots files deeper (pointer_of cmp keys r.level files)

-- the same in the request's order; MISUSE if some key isn't an internal key that is lent
abbrev pub request_answer : List ℕ → HostRequest → Snapshots → List File → List File →
    Result (Unit {0}) ℕ
request_answer keys r snapshots files deeper =
    if list_all (has_keys keys) files && list_all (has_keys keys) deeper
    then coded (by_order r.order (request_reading keys r snapshots files deeper))
    else Err MISUSE
