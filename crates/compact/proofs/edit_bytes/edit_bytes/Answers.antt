use Rattle.std.proofs.Common.{◌+◌, ◌≤◌, map, subst}
use Rattle.std.specs.List.{All}
use Rattle.keep.proofs.OnAnswers.{same_ok}
use Rattle.edit.specs.declared.meta.NewFile.{NewFile}
use Rattle.pick.specs.PickedInputs.{PickedInputs, picked_in}
use Rattle.compact.specs.WrittenOutputs.{planned_file}
use Rattle.compact.proofs.NewFiles.{low_level, low_files}
use Rattle.compact.proofs.edit_bytes.edit_bytes.Goals as goal

pub encode-requires-clause-levels : goal.encode-requires-clause-levels
encode-requires-clause-levels g c =
    let p : PickedInputs = picked_in c.args.request.now.picked.now in
    c.in_ok-edit.ensures.levels c.requires.levels
    (subst (All (λ (f : NewFile). f.level ≤ 6)) (same_ok (map (planned_file (p.level + 1)) c.args.plan.now.outputs) c.in_ok-files.files.items c.in_ok-files.ensures)
    (low_files (p.level + 1) (low_level p c.requires.levels) c.args.plan.now.outputs))
