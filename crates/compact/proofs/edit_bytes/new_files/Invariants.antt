use Rattle.std.proofs.Common.{◌≡◌, map, take}
use Rattle.compact.specs.WrittenOutputs.{planned_file}
use Rattle.compact.proofs.edit_bytes.new_files.Given as goal

-- the outputs so far are new files
abbrev pub invariant-loop-place : goal.invariant-loop-place
invariant-loop-place g l = l.files.items ≡ map (planned_file l.level) (take l.place l.plan.outputs)
