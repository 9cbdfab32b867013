use Rattle.std.proofs.Common.{Bor, List, ◌++◌, map, ap, sym, ◌∙◌, arith}
use Rattle.std.proofs.lemmas.List.{take_all}
use Rattle.edit.proofs.Binds.{ok_is}
use Rattle.edit.specs.declared.meta.FileMeta.{FileMeta}
use Rattle.pick.specs.PickedInputs.{input_at}
use Rattle.pick.specs.declared.picked_inputs.InputFile.{InputFile}
use Rattle.pick.proofs.Lists.{pushed_more}
use Rattle.pick.proofs.file_copies.push_inputs.Goals as goal

pub loop-file-preserved : goal.loop-file-preserved
loop-file-preserved c =
    let file = c.file-item.result in
    pushed_more (λ (f : Bor FileMeta). input_at c.args.level f.now) c.args.inputs.now.items c.loop-file.inputs.items c.push.new.self.items (input_at c.args.level c.in_ok-meta.meta) c.args.files.now c.loop-file.file-index file c.loop-file-test.true c.file-item.is
    c.in_ok-push.ensures.items c.loop-file.invariant (ap (input_at c.args.level) (sym (ok_is file.now c.in_ok-meta.meta c.in_ok-meta.ensures)))

pub returns-clause-ok : goal.returns-clause-ok
returns-clause-ok c =
    let inputs : List (Bor FileMeta) → List InputFile = λ fs. c.args.inputs.now.items ++ map (λ (f : Bor FileMeta). input_at c.args.level f.now) fs in
    c.loop-file.invariant ∙ ap inputs (take_all c.loop-file.file-index c.args.files.now (omega arith))
