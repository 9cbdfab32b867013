use Rattle.std.proofs.Common.{subst, sym}
use Rattle.checks.specs.TestedTables.{IsTested}
use Rattle.folder.specs.OpenAnswer.{FolderAnswers}
use Rattle.folder.specs.Orders.{order_cmp}
use Rattle.folder.specs.ReadsAs.{IsFileIn}
use Rattle.folder.specs.declared.order.Order.{Order}
use Rattle.checks.proofs.version_test.test_by_order.Goals as goal

pub returns-in-Bytewise-clause-answer : goal.returns-in-Bytewise-clause-answer
returns-in-Bytewise-clause-answer g c files told =
    let failed = g.F.Folder.failed in
    let v = c.args.version.now in
    subst (λ (order : Order). FolderAnswers (λ tested. tested) (failed c.args.folder.now) (failed c.test_version.new.folder) c.test_version.result (IsTested (IsFileIn files) (order_cmp order) v))
    (sym c.in-Bytewise.is) (c.test_version.ensures.answer files told)

pub returns-in-Shortlex-clause-answer : goal.returns-in-Shortlex-clause-answer
returns-in-Shortlex-clause-answer g c files told =
    let failed = g.F.Folder.failed in
    let v = c.args.version.now in
    subst (λ (order : Order). FolderAnswers (λ tested. tested) (failed c.args.folder.now) (failed c.test_version-in-Shortlex.new.folder) c.test_version-in-Shortlex.result (IsTested (IsFileIn files) (order_cmp order) v))
    (sym c.in-Shortlex.is) (c.test_version-in-Shortlex.ensures.answer files told)
