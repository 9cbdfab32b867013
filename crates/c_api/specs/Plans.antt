-- The plan of the outputs of runs.
use Rattle.std.specs.Prelude.{ℕ, ◌+◌, Bool, ◌&&◌, if◌then◌else◌, List, [], ◌∷◌, length, map, Result}
use Rattle.std.specs.Prelude.{Ok, Err}
use Rattle.std.specs.List.{list_all}
use Rattle.coding.specs.Saturated.{saturated}
use Rattle.ikey.specs.Answers.{◌>>=◌}
use Rattle.ikey.specs.fault.Fault.{Fault}
use Rattle.ikey.specs.fault.FaultName.TheVariants.{Options}
use Rattle.ikey.specs.Comparator.{KeyOrder, ShortKeys}
use Rattle.table.specs.Options.{are_in_limits}
use Rattle.table.specs.Table.{table}
use Rattle.table.specs.TestResult.{test_result}
use Rattle.edit.specs.declared.meta.FileMeta.{FileMeta}
use Rattle.keep.specs.Runs.{Run, joined_run}
use Rattle.cut.specs.Outputs.{outputs_of}
use Rattle.cut.specs.Plan.{OutputView, plan_of}
use Rattle.c_api.specs.Codes.{coded}
use Rattle.c_api.specs.Files.{has_keys}
use Rattle.c_api.specs.Orders.{by_orders}
use Rattle.c_api.specs.Requests.{grandparents_of, options_of}
use Rattle.c_api.specs.Runs.{Arrays}
use Rattle.c_api.specs.ToldRuns.{arrays_lent, is_run, run_at}
use Rattle.c_api.specs.declared.code.TheConstants.{MISUSE}
use Rattle.c_api.specs.declared.file.File.{File}
use Rattle.c_api.specs.declared.lent.Lent.{Lent}
use Rattle.c_api.specs.declared.plan_calls.LentRuns.{LentRuns}
use Rattle.c_api.specs.declared.plan_calls.PlannedOutput.{PlannedOutput}
use Rattle.c_api.specs.declared.request.HostRequest.{HostRequest}
use Rattle.c_api.specs.declared.run_places.RunPlaces.{RunPlaces}

-- a plan that is asked for: its request, the files of the inputs and the deeper ones, and the runs
-- of all ranges
pub record AskedPlan : Type 0 where
  pub request : HostRequest
  pub keys : List ℕ
  pub files : List File
  pub deeper : List File
  pub arrays : Arrays
  pub runs : List RunPlaces

-- what is lent, as a plan that is asked for over these files of the inputs
abbrev pub plan_over : Lent → List File → LentRuns → AskedPlan
plan_over l files r = record {
  request = l.request;
  keys = l.keys.now;
  files = files;
  deeper = l.deeper.now;
  arrays = arrays_lent r.arrays;
  runs = r.runs.now;
}

-- whether each place lies in what is lent, and a run is told at each
abbrev pub is_plan_lent : AskedPlan → Bool
is_plan_lent m = list_all (has_keys m.keys) m.files && list_all (has_keys m.keys) m.deeper
    && list_all (is_run m.arrays) m.runs

-- the grandparents, which the marks of the runs count
abbrev pub planned_over : KeyOrder → AskedPlan → List FileMeta
planned_over cmp m = grandparents_of cmp m.keys m.request.level m.files m.deeper

-- the runs, one after the other
abbrev pub whole_run : AskedPlan → Run
whole_run m = joined_run (map (run_at m.arrays) m.runs)

-- What is told of outputs, with `first` entries before them: how many entries lie before each (2 ^
-- 64 - 1 if they are more), how many it has, and the length of its table.
abbrev pub outputs_told : ℕ → List OutputView → List PlannedOutput
outputs_told first [] = []
outputs_told first (p ∷ ps) =
    record { first = first; entries = length p.entries; len = p.length }
    ∷ outputs_told (saturated (first + length p.entries)) ps

-- what is told of outputs that were planned, or the plan's refusal
abbrev pub answer_told : Result (List OutputView) Fault → Result (List PlannedOutput) Fault
answer_told planned = planned >>= λ outputs. Ok (outputs_told 0 outputs)

-- The outputs of the runs. The first refusal that applies: Options if an option is outside its
-- limits; then Numbers and TooLarge of the outputs, as one thread has them.
abbrev pub plan_reading : AskedPlan → KeyOrder → ShortKeys → Result (List PlannedOutput) Fault
plan_reading m cmp short_keys = do
  _ ← test_result (are_in_limits (options_of m.request)) Options
  answer_told (plan_of (table cmp short_keys (options_of m.request)) (options_of m.request)
      m.request.first_number (outputs_of (planned_over cmp m) (options_of m.request) (whole_run m)))

-- the same in the request's order; MISUSE if a place isn't lent or a run isn't told
abbrev pub plan_answer : AskedPlan → Result (List PlannedOutput) ℕ
plan_answer m =
    if is_plan_lent m then coded (by_orders m.request.order (plan_reading m)) else Err MISUSE
