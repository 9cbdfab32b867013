use Rattle.std.proofs.Common.{sym, subst}
use Rattle.folder.specs.Orders.{order_cmp}
use Rattle.folder.specs.declared.order.Order.{Order}
use Rattle.adoption.specs.BothFolders.{AnswersFrom, HasEitherFailed}
use Rattle.adoption.specs.TakenIn.{IsTakingEnd, outcome_taken, version_in}
use Rattle.adoption.specs.TakenOutcomes.{IsTakenFrom}
use Rattle.adoption.proofs.outcome_taking.take_outcome.Goals as goal

pub returns-in-Bytewise-clause-answer : goal.returns-in-Bytewise-clause-answer
returns-in-Bytewise-clause-answer g c files source told told_source =
    let t = c.args.taken in
    subst (λ (order : Order). AnswersFrom outcome_taken (HasEitherFailed g.F.Folder g.G.Folder c.args.folder.now c.take_from.new.folder c.args.source.now c.take_from.new.source) c.take_from.result (IsTakenFrom (order_cmp order) files source t.opened.now.version (version_in t) t.comparison))
    (sym c.in-Bytewise.is) (c.take_from.ensures.answer files source told told_source)

pub returns-in-Bytewise-clause-taken : goal.returns-in-Bytewise-clause-taken
returns-in-Bytewise-clause-taken g c first =
    subst (λ (order : Order). IsTakingEnd g.F.Folder (order_cmp order) first c.args.folder.now c.take_from.new.folder c.args.taken c.take_from.result)
    (sym c.in-Bytewise.is) (c.take_from.ensures.taken first)

pub returns-in-Shortlex-clause-answer : goal.returns-in-Shortlex-clause-answer
returns-in-Shortlex-clause-answer g c files source told told_source =
    let t = c.args.taken in
    subst (λ (order : Order). AnswersFrom outcome_taken (HasEitherFailed g.F.Folder g.G.Folder c.args.folder.now c.take_from-in-Shortlex.new.folder c.args.source.now c.take_from-in-Shortlex.new.source) c.take_from-in-Shortlex.result
    (IsTakenFrom (order_cmp order) files source t.opened.now.version (version_in t) t.comparison))
    (sym c.in-Shortlex.is) (c.take_from-in-Shortlex.ensures.answer files source told told_source)

pub returns-in-Shortlex-clause-taken : goal.returns-in-Shortlex-clause-taken
returns-in-Shortlex-clause-taken g c first =
    subst (λ (order : Order). IsTakingEnd g.F.Folder (order_cmp order) first c.args.folder.now c.take_from-in-Shortlex.new.folder c.args.taken c.take_from-in-Shortlex.result)
    (sym c.in-Shortlex.is) (c.take_from-in-Shortlex.ensures.taken first)
