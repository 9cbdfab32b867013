-- What a compaction is asked for, and its tests.
use Rattle.std.specs.Prelude.{ℕ, ◌+◌, nat_eq, nat_lt, nat_le, Bool, true, ◌&&◌, ◌||◌}
use Rattle.std.specs.Prelude.{List, [], ◌∷◌, length, map, Result}
use Rattle.std.specs.List.{list_all}
use Rattle.ikey.specs.Answers.{◌>>=◌}
use Rattle.ikey.specs.fault.Fault.{Fault}
use Rattle.ikey.specs.fault.FaultName.TheVariants.{NoInput, Level, Options, Snapshot}
use Rattle.ikey.specs.fault.FaultName.TheVariants.{SnapshotList}
use Rattle.table.specs.Options.{are_in_limits}
use Rattle.table.specs.declared.options.Options as declared
use Rattle.table.specs.TestResult.{test_result}
use Rattle.table.specs.EntryTests.{is_some_list}
use Rattle.pick.specs.PickedInputs.{PickedInputs, picked_in}
use Rattle.pick.specs.declared.picked_inputs.InputFile.{InputFile}
use Rattle.pick.specs.declared.input_choice.TheConstants.{LAST_INPUT_LEVEL}
use Rattle.keep.specs.Readable.{readable_of}
use Rattle.keep.specs.Marks.{CompactionContext, largest_rise}
use Rattle.keep.specs.RisesBy.{rises_by}
use Rattle.keep.specs.declared.snapshots.Snapshots.{Snapshots}
use Rattle.keep.specs.declared.snapshots.Snapshots.TheVariants.{From, Listed}
use Rattle.compact.specs.declared.request.Request.{Request}
use Rattle.ikey.specs.declared.key.TheConstants.{MAX_SEQUENCE}
use Rattle.ikey.specs.Comparator.{KeyOrder}
use Rattle.compact.specs.declared.request_conditions.TheConstants.{MAX_INPUTS, MAX_SNAPSHOTS}

-- a request as contracts see it: its bytes, not where they are in memory
pub record RequestView : Type 0 where
  pub picked : PickedInputs
  pub tables : List (List ℕ)
  pub snapshots : Snapshots
  pub first_number : ℕ
  pub log_number : ℕ
  pub previous_log : ℕ
  pub last_sequence : ℕ
  pub options : declared.Options

-- the request that the code holds
abbrev pub request_in : Request → RequestView
request_in r = record {
  picked = picked_in r.picked.now;
  tables = map (λ t. t.now) r.tables.now;
  snapshots = r.snapshots;
  first_number = r.first_number;
  log_number = r.log_number;
  previous_log = r.previous_log;
  last_sequence = r.last_sequence;
  options = r.options;
}

-- what the drop rule needs to know of a request: the readable sequences, the deeper files, and the
-- grandparents
abbrev pub below_request : RequestView → CompactionContext
below_request r = record {
  readable = readable_of r.snapshots r.last_sequence;
  deeper = r.picked.deeper;
  grandparents = r.picked.grandparents;
}

-- whether the level is from 0 to 5, and each input is of it or of the next
abbrev pub has_levels : PickedInputs → Bool
has_levels p = nat_le p.level LAST_INPUT_LEVEL
    && list_all (λ (i : InputFile). nat_eq i.level p.level || nat_eq i.level (p.level + 1)) p.files

-- whether the options are in their limits, there are at most 256 inputs with a table each, and the
-- largest keys of the grandparents rise
abbrev pub has_options : KeyOrder → RequestView → Bool
has_options cmp r = are_in_limits r.options && nat_le (length r.picked.files) MAX_INPUTS
    && nat_eq (length r.tables) (length r.picked.files) && largest_rise cmp r.picked.grandparents

-- the snapshots that a request names
abbrev pub named_by : Snapshots → List ℕ
named_by (From oldest) = oldest ∷ []
named_by (Listed list) = list.now

-- Whether the snapshots and the last sequence are below MAX_SEQUENCE. Why: LevelDB begins the last
-- sequence of a user key there, so such a snapshot would drop every entry.
abbrev pub has_snapshots : RequestView → Bool
has_snapshots r = list_all (λ n. nat_lt n MAX_SEQUENCE) (r.last_sequence ∷ named_by r.snapshots)

-- whether listed snapshots are at most 4,096, rise strictly, and none is above the last sequence
abbrev pub is_snapshot_list : Snapshots → ℕ → Bool
is_snapshot_list (From oldest) last = true
is_snapshot_list (Listed list) last = nat_le (length list.now) MAX_SNAPSHOTS
    && rises_by nat_lt list.now && list_all (λ n. nat_le n last) list.now

-- the tests of a request in their order; the first refusal counts
abbrev pub request_test : KeyOrder → RequestView → Result (Unit {0}) Fault
request_test cmp r = do
  _ ← test_result (is_some_list r.picked.files) NoInput
  _ ← test_result (has_levels r.picked) Level
  _ ← test_result (has_options cmp r) Options
  _ ← test_result (has_snapshots r) Snapshot
  test_result (is_snapshot_list r.snapshots r.last_sequence) SnapshotList
