-- The answers for the data blocks of a plan, and for its outputs, one by one.
use Rattle.std.proofs.Common.{◌≡◌, ℕ, List, [], ◌∷◌, map, length, Result, Ok, refl, ap, ◌∙◌}
use Rattle.std.proofs.lemmas.List.{length-map}
use Rattle.ikey.specs.fault.Fault.{Fault}
use Rattle.ikey.specs.Answers.{◌>>=◌}
use Rattle.board.specs.CollectedResults.{collected_results}
use Rattle.table.specs.EncodedEntry.{Entry}
use Rattle.cut.specs.Plan.{OutputView, encoded_blocks, jobs, parts, plan_tables}
use Rattle.cut.specs.OutputPlan.{PlanSeen, lists_in}
use Rattle.compact.specs.JobAnswers.{block_answers, output_answers}

abbrev good : {X : Type 0} → X → Result X Fault
good value = Ok value

-- answers without a refusal are collected as they are
pub all_good : {X : Type 0} (values : List X) → collected_results (map good values) ≡ Ok values
all_good [] = refl
all_good {X} (v ∷ vs) = ap (λ (rest : Result (List X) Fault). good v >>= λ value. rest >>= λ values. Ok (value ∷ values)) (all_good vs)

pub blocks_collected : (p : PlanSeen) → collected_results (block_answers p) ≡ Ok (encoded_blocks p.options (lists_in p.outputs))
blocks_collected p = all_good (encoded_blocks p.options (lists_in p.outputs))

pub blocks_length : (p : PlanSeen) → length (block_answers p) ≡ jobs p.options (lists_in p.outputs)
blocks_length p =
    length-map (encoded_blocks p.options (lists_in p.outputs)) good ∙ length-map (parts p.options (lists_in p.outputs)) _

-- ---- the answers for the outputs of a plan

pub tables_collected : (table_of : List Entry → List ℕ) (outputs : List OutputView) → collected_results (output_answers table_of outputs) ≡ Ok (plan_tables table_of outputs)
tables_collected table_of outputs = all_good (plan_tables table_of outputs)

pub tables_length : (table_of : List Entry → List ℕ) (outputs : List OutputView) → length (output_answers table_of outputs) ≡ length outputs
tables_length table_of outputs = length-map (plan_tables table_of outputs) good ∙ length-map outputs _
