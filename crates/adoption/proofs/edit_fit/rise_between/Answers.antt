use Rattle.std.proofs.Common.{sym, ◌∙◌}
use Rattle.adoption.proofs.EditFitLemmas.{rises_not, rises_on}
use Rattle.adoption.proofs.edit_fit.rise_between.Goals as goal

pub returns-then-not-is_between : goal.returns-then-not-is_between
returns-then-not-is_between c =
    sym (c.loop-file.invariant ∙ rises_not c.loop-file.last c.args.high c.args.files.now c.loop-file.file-index c.file-item.result c.loop-file-test.true c.file-item.is (sym c.is_between.ensures ∙ c.if-not-is_between.true))

pub loop-file-preserved : goal.loop-file-preserved
loop-file-preserved c =
    c.loop-file.invariant ∙ rises_on c.loop-file.last c.args.high c.args.files.now c.loop-file.file-index c.file-item.result c.loop-file-test.true c.file-item.is (sym c.is_between.ensures ∙ c.if-not-is_between.false)
