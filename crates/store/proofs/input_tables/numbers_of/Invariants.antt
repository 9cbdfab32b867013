use Rattle.std.proofs.Common.{◌≡◌, map, take}
use Rattle.pick.specs.declared.picked_inputs.InputFile.{InputFile}
use Rattle.store.proofs.input_tables.numbers_of.Given as goal

abbrev pub invariant-loop-input : goal.invariant-loop-input
invariant-loop-input l = l.numbers.items ≡ map (λ (i : InputFile). i.meta.number) (take l.input-index l.inputs)
