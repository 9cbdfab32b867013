use Rattle.std.proofs.Common.{Bor, ◌≡◌, ◌++◌, take, map}
use Rattle.edit.specs.declared.meta.FileMeta.{FileMeta}
use Rattle.pick.specs.PickedInputs.{input_at}
use Rattle.pick.proofs.file_copies.push_inputs.Given as goal

-- the inputs before, and the files so far
abbrev pub invariant-loop-file : goal.invariant-loop-file
invariant-loop-file l = l.inputs.items ≡ l.initial.inputs.items ++ map (λ (f : Bor FileMeta). input_at l.level f.now) (take l.file-index l.files)
