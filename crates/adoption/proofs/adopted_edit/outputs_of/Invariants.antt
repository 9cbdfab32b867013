use Rattle.std.proofs.Common.{◌≡◌, ◌++◌}
use Rattle.adoption.specs.Adoption.{outputs_in_edit}
use Rattle.adoption.proofs.adopted_edit.outputs_of.Given as goal

-- with those that are left, these are all
abbrev pub invariant-loop-file : goal.invariant-loop-file
invariant-loop-file l = l.outputs.items ++ outputs_in_edit l.file-iterator.rest.items ≡ outputs_in_edit l.fn.added.items
