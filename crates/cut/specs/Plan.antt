-- The plan of the outputs: numbers, data blocks, exact lengths, and the bytes of each data block.
use Rattle.std.specs.Prelude.{ℕ, ◌+◌, ◌^◌, nat_lt, nat_le, ◌&&◌, List, [], ◌∷◌, length, map}
use Rattle.std.specs.Prelude.{flat_map, Result, Ok}
use Rattle.std.specs.List.{list_all}
use Rattle.coding.specs.Answers.{◌>>=◌}
use Rattle.coding.specs.declared.fault.Fault.{Fault}
use Rattle.coding.specs.declared.fault.FaultName.TheVariants.{Numbers, TooLarge}
use Rattle.block.specs.EncodedEntry.{Entry}
use Rattle.block.specs.BlockFormat.{block}
use Rattle.table.specs.declared.options.Options.{Options}
use Rattle.table.specs.DataBlocks.{data_blocks}
use Rattle.table.specs.TestResult.{test_result}
use Rattle.table.specs.Trailer.{stored_block}
use Rattle.table.specs.declared.table_check.TheConstants.{MAX_TABLE_LEN}
use Rattle.cut.specs.declared.output_plan.TheConstants.{MAX_BLOCKS}

-- an output: the number of its file, its entries, the place after the last entry of each data
-- block, and the length of its table
pub record OutputView : Type 0 where
  pub number : ℕ
  pub entries : List Entry
  pub blocks : List ℕ
  pub length : ℕ

-- the place after the last entry of each part, with `at` entries before the first part
abbrev pub block_ends_from : ℕ → List (List Entry) → List ℕ
block_ends_from at [] = []
block_ends_from at (p ∷ ps) = (at + length p) ∷ block_ends_from (at + length p) ps

-- the place after the last entry of each data block of an output's entries
abbrev pub block_ends : Options → List Entry → List ℕ
block_ends o q = block_ends_from 0 (data_blocks o q)

-- the outputs of these lists of entries, numbered from `number` on; `table_of` is how a table is
-- written
abbrev pub planned_from : (List Entry → List ℕ) → Options → ℕ → List (List Entry) → List OutputView
planned_from table_of o number [] = []
planned_from table_of o number (q ∷ qs) =
    record {
      number = number;
      entries = q;
      blocks = block_ends o q;
      length =
          length (table_of q);
    }
    ∷ planned_from table_of o (number + 1) qs

-- the data blocks of all outputs, in order
abbrev pub parts : Options → List (List Entry) → List (List Entry)
parts o outputs = flat_map (data_blocks o) outputs

-- The plan of outputs, numbered from `first` on. Numbers if the number after the last exceeds 2 ^
-- 64 - 1; else TooLarge if a table exceeds MAX_TABLE_LEN bytes or there are more than MAX_BLOCKS
-- data blocks.
abbrev pub plan_of : (List Entry → List ℕ) → Options → ℕ → List (List Entry) →
    Result (List OutputView) Fault
plan_of table_of o first outputs = do
  _ ← test_result (nat_lt (first + length outputs) (2 ^ 64)) Numbers
  _ ← test_result (list_all (λ q. nat_le (length (table_of q)) MAX_TABLE_LEN) outputs
      && nat_le (length (parts o outputs)) MAX_BLOCKS) TooLarge
  Ok (planned_from table_of o first outputs)

-- the number of each output, and its table
abbrev pub plan_tables : (List Entry → List ℕ) → List OutputView → List (ℕ × List ℕ)
plan_tables table_of plan = map (λ (p : OutputView). (p.number, table_of p.entries)) plan

-- how many data blocks all outputs have
abbrev pub jobs : Options → List (List Entry) → ℕ
jobs o outputs = length (parts o outputs)

-- the bytes of each data block of all outputs, with its trailer
abbrev pub encoded_blocks : Options → List (List Entry) → List (List ℕ)
encoded_blocks o outputs = map (λ p. stored_block (block o.restart_interval p)) (parts o outputs)
