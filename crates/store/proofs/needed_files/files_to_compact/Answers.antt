use Rattle.std.proofs.Common.{subst, sym}
use Rattle.folder.specs.OpenAnswer.{FolderAnswers}
use Rattle.folder.specs.Orders.{order_cmp}
use Rattle.folder.specs.declared.order.Order.{Order}
use Rattle.store.specs.FilesToCompact.{AreFilesToCompact}
use Rattle.store.proofs.needed_files.files_to_compact.Goals as goal

pub returns-in-Bytewise-clause-answer : goal.returns-in-Bytewise-clause-answer
returns-in-Bytewise-clause-answer g c files told =
    let o = c.args.opened.now in
    let failed = g.F.Folder.failed in
    subst (λ (order : Order). FolderAnswers (λ v. v.items) (failed c.args.folder.now) (failed c.level_files.new.folder) c.level_files.result (AreFilesToCompact (order_cmp order) files o.version o.manifest c.args.level))
    (sym c.in-Bytewise.is) (c.level_files.ensures.answer files told)

pub returns-in-Shortlex-clause-answer : goal.returns-in-Shortlex-clause-answer
returns-in-Shortlex-clause-answer g c files told =
    let o = c.args.opened.now in
    let failed = g.F.Folder.failed in
    subst (λ (order : Order). FolderAnswers (λ v. v.items) (failed c.args.folder.now) (failed c.level_files-in-Shortlex.new.folder) c.level_files-in-Shortlex.result (AreFilesToCompact (order_cmp order) files o.version o.manifest c.args.level))
    (sym c.in-Shortlex.is) (c.level_files-in-Shortlex.ensures.answer files told)
