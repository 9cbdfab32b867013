use Rattle.std.proofs.Common.{◌≡◌, None, Ok, refl, subst, sym}
use Rattle.folder.specs.OpenAnswer.{FolderAnswers, IsOpened}
use Rattle.folder.specs.ReadsAs.{IsFileIn}
use Rattle.folder.specs.declared.order.Order.{Order}
use Rattle.folder.specs.declared.order.Order.TheVariants.{Bytewise, Shortlex}
use Rattle.store.specs.OrderView.{order_view}
use Rattle.store.specs.Answers.{IsCompacted}
use Rattle.store.specs.Runs.{IsLevelRun}
use Rattle.folder.specs.Orders.{order_cmp, order_short_keys}
use Rattle.store.specs.Step.{step_in}
use Rattle.store.specs.StepLeft.{IsVersionLeft, PassesTest}
use Rattle.install.proofs.Changes.{change_by}
use Rattle.store.proofs.folder_compaction.compact_opened.Goals as goal

pub returns-in-Bytewise-clause-answer : goal.returns-in-Bytewise-clause-answer
returns-in-Bytewise-clause-answer g c files told current =
    let failed = g.F.Folder.failed in
    subst (λ (order : Order). FolderAnswers step_in (failed c.args.folder.now) (failed c.compact_version.new.folder) c.compact_version.result
    (IsCompacted c.args.test (order_cmp order) (order_short_keys order) files c.args.opened.now.version c.args.level c.args.settings.now))
    (sym c.in-Bytewise.is) (c.compact_version.ensures.answer files told current)

pub returns-in-Shortlex-clause-answer : goal.returns-in-Shortlex-clause-answer
returns-in-Shortlex-clause-answer g c files told current =
    let failed = g.F.Folder.failed in
    subst (λ (order : Order). FolderAnswers step_in (failed c.args.folder.now) (failed c.compact_version-in-Shortlex.new.folder) c.compact_version-in-Shortlex.result
    (IsCompacted c.args.test (order_cmp order) (order_short_keys order) files c.args.opened.now.version c.args.level c.args.settings.now))
    (sym c.in-Shortlex.is) (c.compact_version-in-Shortlex.ensures.answer files told current)

pub returns-in-Bytewise-clause-runs : goal.returns-in-Bytewise-clause-runs
returns-in-Bytewise-clause-runs g c =
    let calls = g.F.Folder.calls in
    let tells = g.F.Folder.tells in
    subst (λ (order : Order). IsLevelRun order c.args.opened.now.version c.args.level c.args.settings.now (change_by (calls c.args.folder.now) (calls c.compact_version.new.folder) (tells c.args.folder.now) (tells c.compact_version.new.folder)) c.compact_version.result)
    (sym c.in-Bytewise.is) c.compact_version.ensures.runs

pub returns-in-Shortlex-clause-runs : goal.returns-in-Shortlex-clause-runs
returns-in-Shortlex-clause-runs g c =
    let calls = g.F.Folder.calls in
    let tells = g.F.Folder.tells in
    subst (λ (order : Order). IsLevelRun order c.args.opened.now.version c.args.level c.args.settings.now (change_by (calls c.args.folder.now) (calls c.compact_version-in-Shortlex.new.folder) (tells c.args.folder.now) (tells c.compact_version-in-Shortlex.new.folder)) c.compact_version-in-Shortlex.result)
    (sym c.in-Shortlex.is) c.compact_version-in-Shortlex.ensures.runs

pub returns-in-Bytewise-clause-left : goal.returns-in-Bytewise-clause-left
returns-in-Bytewise-clause-left g c files told current opened passes =
    let v = c.args.opened.now.version in
    let calls = g.F.Folder.calls in
    let tells = g.F.Folder.tells in
    let is = c.in-Bytewise.is in
    subst (λ (order : Order). IsVersionLeft (order_view order) v files c.args.level c.args.settings.now (change_by (calls c.args.folder.now) (calls c.compact_version.new.folder) (tells c.args.folder.now) (tells c.compact_version.new.folder)) c.compact_version.result) (sym is)
    (c.compact_version.ensures.left files Bytewise told current refl (subst (λ (order : Order). IsOpened (IsFileIn files) (Ok (order, v))) is opened)
    (subst (λ (order : Order). c.args.test ≡ None → PassesTest files (order_cmp order) v) is passes))

pub returns-in-Shortlex-clause-left : goal.returns-in-Shortlex-clause-left
returns-in-Shortlex-clause-left g c files told current opened passes =
    let v = c.args.opened.now.version in
    let calls = g.F.Folder.calls in
    let tells = g.F.Folder.tells in
    let is = c.in-Shortlex.is in
    subst (λ (order : Order). IsVersionLeft (order_view order) v files c.args.level c.args.settings.now (change_by (calls c.args.folder.now) (calls c.compact_version-in-Shortlex.new.folder) (tells c.args.folder.now) (tells c.compact_version-in-Shortlex.new.folder)) c.compact_version-in-Shortlex.result) (sym is)
    (c.compact_version-in-Shortlex.ensures.left files Shortlex told current refl (subst (λ (order : Order). IsOpened (IsFileIn files) (Ok (order, v))) is opened)
    (subst (λ (order : Order). c.args.test ≡ None → PassesTest files (order_cmp order) v) is passes))
