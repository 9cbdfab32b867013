use Rattle.std.proofs.Common.{◌≡◌, ◌<◌, ◌++◌, ◌∷◌, [], List, map, take, length, sym, ap, ◌∙◌, arith}
use Rattle.edit.specs.declared.meta.NewFile.{NewFile}
use Rattle.cut.specs.Plan.{OutputView}
use Rattle.compact.specs.WrittenOutputs.{planned_file}
use Rattle.compact.proofs.NewFiles.{one_more}
use Rattle.compact.proofs.edit_bytes.new_files.Goals as goal

pub loop-place-preserved : goal.loop-place-preserved
loop-place-preserved g c =
    let outputs : List OutputView = c.args.plan.now.outputs in
    let file : NewFile = c.in_ok-new_file.field-0 in
    let within : c.loop-place.place < length outputs = omega (arith, c.loop-place-test.true, c.len-place-end.ensures) in
    let pushed : c.push.new.self.items ≡ c.loop-place.files.items ++ file ∷ [] = c.in_ok-push.ensures.items in
    let before : c.loop-place.files.items ≡ map (planned_file c.args.level) (take c.loop-place.place outputs) = c.loop-place.invariant in
    pushed ∙ ap (λ (fs : List NewFile). fs ++ file ∷ []) before
    ∙ sym (one_more c.args.level outputs c.loop-place.place c.output-output.result file within c.output-output.ensures.meta c.in_ok-new_file.ensures.ok)
