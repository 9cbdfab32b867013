-- The answers of the jobs of a compaction's runs, each at the number of its job.
use Rattle.std.specs.Prelude.{ℕ, ◌+◌, List, [], ◌∷◌, map, Result, Ok}
use Rattle.ikey.specs.fault.Fault.{Fault}
use Rattle.ikey.specs.Comparator.{KeyOrder}
use Rattle.table.specs.EncodedEntry.{Entry}
use Rattle.pick.specs.declared.picked_inputs.InputFile.{InputFile}
use Rattle.keep.specs.Marks.{CompactionContext}
use Rattle.keep.specs.Runs.{Run, range_run, ranges_of}
use Rattle.cut.specs.Plan.{OutputView, encoded_blocks, plan_tables}
use Rattle.cut.specs.OutputPlan.{PlanSeen, lists_in}
use Rattle.compact.specs.Inputs.{result_at_input, input_reading}

-- the answer for each input, of which the first is at this place
abbrev pub input_answers : KeyOrder → ℕ → List InputFile → List (List ℕ) →
    List (Result (List Entry) Fault)
input_answers cmp place (i ∷ is) (bytes ∷ others) =
    result_at_input place (input_reading cmp i.meta bytes) ∷ input_answers cmp (place + 1) is others
input_answers cmp place _ _ = []

-- the answer for each range between boundaries
abbrev pub range_answers : KeyOrder → CompactionContext → List (List ℕ) → List (List Entry) →
    List (Result Run Fault)
range_answers cmp b boundaries inputs = map (range_run cmp b inputs) (ranges_of boundaries)

-- the answer for each data block, its bytes and its trailer
abbrev pub block_answers : PlanSeen → List (Result (List ℕ) Fault)
block_answers p = map (λ (bytes : List ℕ). Ok bytes) (encoded_blocks p.options (lists_in p.outputs))

-- the answer for each output of a plan, its number and its table
abbrev pub output_answers : (List Entry → List ℕ) → List OutputView →
    List (Result (ℕ × List ℕ) Fault)
output_answers table_of outputs =
    map (λ (table : ℕ × List ℕ). Ok table) (plan_tables table_of outputs)

-- What the second run merges: what the drop rule and the marks need to know, the boundaries, and
-- the entries of each input.
pub record RangeMerge : Type 0 where
  pub below : CompactionContext
  pub boundaries : List (List ℕ)
  pub inputs : List (List Entry)
