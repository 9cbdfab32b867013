use Rattle.std.proofs.Common.{Ok, IfOk, subst, sym}
use Rattle.checks.specs.LawfulTables.{IsLawfulTables}
use Rattle.compact.specs.AnswerIn.{answer_in}
use Rattle.folder.specs.Answers.{IsThen}
use Rattle.folder.specs.Levels.{file_numbers}
use Rattle.folder.specs.LoadedTables.{IsLoaded}
use Rattle.folder.specs.OpenAnswer.{FolderAnswers}
use Rattle.folder.specs.Orders.{order_cmp, order_short_keys}
use Rattle.folder.specs.ReadsAs.{IsFileIn}
use Rattle.folder.specs.declared.order.Order.{Order}
use Rattle.folder.specs.declared.order.Order.TheVariants.{Bytewise, Shortlex}
use Rattle.install.specs.Install.{version_with}
use Rattle.pick.specs.PickedInputs.{PickedInputs}
use Rattle.store.specs.Choice.{IsChosen}
use Rattle.store.specs.OrderView.{order_view}
use Rattle.store.specs.Outcome.{ChosenCompaction, IsOutcome, IsTestAnswer, outcome_in}
use Rattle.store.proofs.chosen_outcome.outcome.Goals as goal

pub returns-in-Bytewise-clause-answer : goal.returns-in-Bytewise-clause-answer
returns-in-Bytewise-clause-answer g c files told =
    let failed = g.F.Folder.failed in
    let v = c.args.opened.now.version in
    subst (λ (order : Order). FolderAnswers outcome_in (failed c.args.folder.now) (failed c.version_outcome.new.folder) c.version_outcome.result
    (IsThen (IsTestAnswer c.args.test files (order_cmp order) v) (λ passed. IsOutcome c.args.asked.now.first (order_cmp order) (order_short_keys order) files v c.args.choice c.args.asked.now.settings)))
    (sym c.in-Bytewise.is) (c.version_outcome.ensures.answer files told)

pub returns-in-Bytewise-clause-compacted : goal.returns-in-Bytewise-clause-compacted
returns-in-Bytewise-clause-compacted g c files loaded tables told held sound =
    let v = c.args.opened.now.version in
    let is = c.in-Bytewise.is in
    subst (λ (order : Order). IfOk c.version_outcome.result (λ o. (p : PickedInputs) × ChosenCompaction (order_view order) (version_with v loaded) (IsChosen (order_cmp order) v c.args.choice) c.args.asked.now.first c.args.asked.now.settings p (answer_in o.outcome)))
    (sym is) (c.version_outcome.ensures.compacted files Bytewise loaded tables told (subst (λ (order : Order). IsLoaded (IsFileIn files) (file_numbers (order_cmp order) v) (Ok loaded)) is held) (subst (λ (order : Order). IsLawfulTables (order_cmp order) v loaded (Ok tables)) is sound))

pub returns-in-Shortlex-clause-answer : goal.returns-in-Shortlex-clause-answer
returns-in-Shortlex-clause-answer g c files told =
    let failed = g.F.Folder.failed in
    let v = c.args.opened.now.version in
    subst (λ (order : Order). FolderAnswers outcome_in (failed c.args.folder.now) (failed c.version_outcome-in-Shortlex.new.folder) c.version_outcome-in-Shortlex.result
    (IsThen (IsTestAnswer c.args.test files (order_cmp order) v) (λ passed. IsOutcome c.args.asked.now.first (order_cmp order) (order_short_keys order) files v c.args.choice c.args.asked.now.settings)))
    (sym c.in-Shortlex.is) (c.version_outcome-in-Shortlex.ensures.answer files told)

pub returns-in-Shortlex-clause-compacted : goal.returns-in-Shortlex-clause-compacted
returns-in-Shortlex-clause-compacted g c files loaded tables told held sound =
    let v = c.args.opened.now.version in
    let is = c.in-Shortlex.is in
    subst (λ (order : Order). IfOk c.version_outcome-in-Shortlex.result (λ o. (p : PickedInputs) × ChosenCompaction (order_view order) (version_with v loaded) (IsChosen (order_cmp order) v c.args.choice) c.args.asked.now.first c.args.asked.now.settings p (answer_in o.outcome)))
    (sym is) (c.version_outcome-in-Shortlex.ensures.compacted files Shortlex loaded tables told (subst (λ (order : Order). IsLoaded (IsFileIn files) (file_numbers (order_cmp order) v) (Ok loaded)) is held) (subst (λ (order : Order). IsLawfulTables (order_cmp order) v loaded (Ok tables)) is sound))
