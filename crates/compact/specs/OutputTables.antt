-- The outputs of a compaction, each with its table, and their tests.
use Rattle.std.specs.Prelude.{ℕ, ◌+◌, ◌^◌, nat_lt, nat_le, ◌&&◌, List, [], ◌∷◌, length, map, Result}
use Rattle.std.specs.List.{list_all, sum_by}
use Rattle.ikey.specs.Answers.{◌>>=◌}
use Rattle.ikey.specs.fault.Fault.{Fault}
use Rattle.ikey.specs.fault.FaultName.TheVariants.{Numbers, TooLarge}
use Rattle.table.specs.EncodedEntry.{Entry}
use Rattle.table.specs.declared.options.Options.{Options}
use Rattle.table.specs.DataBlocks.{data_blocks}
use Rattle.table.specs.TestResult.{test_result}
use Rattle.table.specs.declared.table_check.TheConstants.{MAX_TABLE_LEN}
use Rattle.cut.specs.declared.output_plan.TheConstants.{MAX_BLOCKS}

-- an output: the number of its file, its entries, and the bytes of its table
pub record Output : Type 0 where
  pub number : ℕ
  pub entries : List Entry
  pub bytes : List ℕ

-- the outputs of these lists of entries, numbered from `number` on, each with its table
abbrev pub outputs_from : (List Entry → List ℕ) → ℕ → List (List Entry) → List Output
outputs_from table_of number [] = []
outputs_from table_of number (q ∷ qs) =
    record { number = number; entries = q; bytes = table_of q }
    ∷ outputs_from table_of (number + 1) qs

-- how many data blocks all outputs have
abbrev pub data_block_count : Options → List Output → ℕ
data_block_count o outputs = sum_by (λ (w : Output). length (data_blocks o w.entries)) outputs

-- The tests of outputs that are numbered from the first number on. The first that applies:
-- - Numbers, if the number after the last exceeds 2 ^ 64 - 1.
-- - TooLarge, if a table exceeds MAX_TABLE_LEN bytes, or if the outputs have more than MAX_BLOCKS
--   data blocks together.
abbrev pub outputs_test : Options → ℕ → List Output → Result (Unit {0}) Fault
outputs_test o first outputs = do
  _ ← test_result (nat_lt (first + length outputs) (2 ^ 64)) Numbers
  test_result
      (list_all (λ (w : Output). nat_le (length w.bytes) MAX_TABLE_LEN) outputs
      && nat_le (data_block_count o outputs) MAX_BLOCKS)
      TooLarge

-- the number of each output, and its table
abbrev pub numbered_tables : List Output → List (ℕ × List ℕ)
numbered_tables outputs = map (λ (w : Output). (w.number, w.bytes)) outputs
