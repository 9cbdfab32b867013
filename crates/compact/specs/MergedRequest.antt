-- The state of a merged request, and what it answers.
use Rattle.std.specs.Prelude.{◌≡◌, ℕ, ◌≤◌, true, List, map, Result}
use Rattle.ikey.specs.fault.Fault.{Fault}
use Rattle.table.specs.Options.{AreInLimits}
use Rattle.table.specs.Table.{table}
use Rattle.ikey.specs.Comparator.{KeyOrder, ShortKeys}
use Rattle.keep.specs.Runs.{Run, joined_run}
use Rattle.cut.specs.Outputs.{outputs_of}
use Rattle.cut.specs.OutputPlan.{PlanSeen}
use Rattle.cut.specs.Plan.{plan_tables}
use Rattle.compact.specs.Request.{RequestView, has_levels}
use Rattle.compact.specs.OneThread.{Answer}
use Rattle.compact.specs.WrittenOutputs.{written_of}
use Rattle.board.specs.declared.limits.TheConstants.{MAX_WORKERS}

-- what a request whose runs are these answers
abbrev pub runs_answer : KeyOrder → ShortKeys → RequestView → List Run → Result Answer Fault
runs_answer cmp short_keys r runs = written_of (table cmp short_keys r.options) r
    (outputs_of r.picked.grandparents r.options (joined_run runs))

-- a request that passed its tests, and its number of workers
pub record IsMerged (r : RequestView) (workers : ℕ) : Type 0 where
  pub limits : AreInLimits r.options
  pub levels : has_levels r.picked ≡ true
  pub some : 1 ≤ workers
  pub limited : workers ≤ MAX_WORKERS

-- the tables of plans, those of each plan a group
abbrev pub group_tables : KeyOrder → ShortKeys → List PlanSeen → List (List (ℕ × List ℕ))
group_tables cmp short_keys plans =
    map (λ (p : PlanSeen). plan_tables (table cmp short_keys p.options) p.outputs) plans

-- a number of workers from 1 to 64
pub record AreWorkers (workers : ℕ) : Type 0 where
  pub some : 1 ≤ workers
  pub limited : workers ≤ MAX_WORKERS
