use Rattle.std.proofs.Common.{◌≡◌, ◌+◌, take}
use Rattle.std.specs.List.{sum_by}
use Rattle.pick.specs.declared.picked_inputs.InputFile.{InputFile}
use Rattle.levels.proofs.level_parts.have_at_most.Given as goal

-- the bytes of the files so far, and what is left of all
abbrev pub invariant-loop-input : goal.invariant-loop-input
invariant-loop-input l = sum_by (λ (i : InputFile). i.meta.size) (take l.input-index l.inputs) + l.left ≡ l.memory
