-- The data blocks of all outputs, numbered from 0 on.
use Rattle.std.specs.Prelude.{ℕ, ◌+◌, List, [], ◌∷◌, length, flat_map}
use Rattle.cut.specs.declared.planned_block.PlannedBlock.{PlannedBlock}
use Rattle.cut.specs.declared.planned_output.PlannedOutput.{PlannedOutput}

-- the data blocks of outputs, in order
abbrev pub planned_blocks : List PlannedOutput → List PlannedBlock
planned_blocks outputs = flat_map (λ (p : PlannedOutput). p.blocks.items) outputs

-- after how many data blocks each output ends, with `at` of them before the first output
abbrev pub output_ends : ℕ → List PlannedOutput → List ℕ
output_ends at [] = []
output_ends at (p ∷ ps) =
    (at + length p.blocks.items) ∷ output_ends (at + length p.blocks.items) ps
