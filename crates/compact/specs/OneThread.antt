-- What one thread answers to a request, and what a compaction answers.
use Rattle.std.specs.Prelude.{ℕ, nat_le, ◌&&◌, List, Result, Ok}
use Rattle.ikey.specs.Answers.{◌>>=◌}
use Rattle.ikey.specs.fault.Fault.{Fault}
use Rattle.ikey.specs.fault.FaultName.TheVariants.{Workers}
use Rattle.table.specs.EncodedEntry.{Entry}
use Rattle.table.specs.Table.{table}
use Rattle.table.specs.TestResult.{test_result}
use Rattle.edit.specs.Edit.{edit_bytes}
use Rattle.cut.specs.Outputs.{outputs}
use Rattle.compact.specs.Request.{RequestView, below_request, request_test}
use Rattle.compact.specs.Inputs.{inputs_reading, union_reading}
use Rattle.compact.specs.EditOf.{edit_of, new_files}
use Rattle.compact.specs.OutputTables.{Output, numbered_tables, outputs_from, outputs_test}
use Rattle.ikey.specs.Comparator.{KeyOrder, ShortKeys}

-- the tables with their numbers, and the bytes of the edit
pub record Answer : Type 0 where
  pub tables : List (ℕ × List ℕ)
  pub edit : List ℕ

-- how the table of an output is written
abbrev pub table_for : KeyOrder → ShortKeys → RequestView → List Entry → List ℕ
table_for cmp short_keys r = table cmp short_keys r.options

-- the answer with these outputs: their refusal, or their tables and the bytes of the edit that has
-- them as new files
abbrev pub outputs_answer : RequestView → List Output → Result Answer Fault
outputs_answer r outputs = do
  _ ← outputs_test r.options r.first_number outputs
  Ok (record {
    tables = numbered_tables outputs;
    edit = edit_bytes (edit_of r (new_files r outputs));
  })

-- What one thread answers: the first refusal of the request, then of the inputs in order, then
-- Duplicate, then Numbers and TooLarge of the outputs. Else the table of each output with its
-- number, and the bytes of the edit. It knows neither ranges nor workers.
abbrev pub one_thread : KeyOrder → ShortKeys → RequestView → Result Answer Fault
one_thread cmp short_keys r = do
  _ ← request_test cmp r
  inputs ← inputs_reading cmp 0 r.picked.files r.tables
  union ← union_reading cmp inputs
  outputs_answer r
      (outputs_from (table_for cmp short_keys r) r.first_number
      (outputs cmp (below_request r) r.options union))

-- What a compaction by `workers` workers answers: Workers unless they are from 1 to 64, else what
-- one thread answers.
abbrev pub compaction_result : KeyOrder → ShortKeys → ℕ → RequestView → Result Answer Fault
compaction_result cmp short_keys workers r = do
  _ ← test_result (nat_le 1 workers && nat_le workers 64) Workers
  one_thread cmp short_keys r
