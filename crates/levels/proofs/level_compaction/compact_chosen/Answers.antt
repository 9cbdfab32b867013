use Rattle.std.proofs.Common.{Ok, map, refl, subst, sym}
use Rattle.folder.specs.Manifest.{order_name}
use Rattle.folder.specs.OpenAnswer.{FolderAnswers}
use Rattle.folder.specs.Orders.{order_cmp, order_short_keys}
use Rattle.folder.specs.ReadsAs.{ReadsAs}
use Rattle.folder.specs.declared.order.Order.{Order}
use Rattle.folder.specs.declared.order.Order.TheVariants.{Bytewise, Shortlex}
use Rattle.install.proofs.Changes.{change_by}
use Rattle.install.specs.Install.{version_with}
use Rattle.pick.specs.PickedInputs.{picked_in}
use Rattle.checks.specs.LawfulTables.{IsLawfulTables}
use Rattle.store.specs.OrderView.{order_view}
use Rattle.store.specs.Step.{step_in}
use Rattle.levels.specs.LevelTaken.{IsLevelLeft}
use Rattle.levels.specs.WholeAnswer.{AreSelected, IsWholeCompacted}
use Rattle.levels.specs.WholeRuns.{IsWholeRun}
use Rattle.levels.proofs.level_compaction.compact_chosen.Goals as goal

pub returns-in-Bytewise-clause-answer : goal.returns-in-Bytewise-clause-answer
returns-in-Bytewise-clause-answer g c selection level files loaded tables chosen told current reads sound =
    let failed = g.F.Folder.failed in
    let v = c.args.opened.now.version in
    subst (λ (order : Order). FolderAnswers step_in (failed c.args.folder.now) (failed c.compact_lawful.new.folder) c.compact_lawful.result (IsWholeCompacted (order_cmp order) (order_short_keys order) files v (AreSelected selection (order_cmp order) v level) c.args.settings.now))
    (sym c.in-Bytewise.is) (c.compact_lawful.ensures.answer selection level files Bytewise loaded tables (subst (λ (order : Order). AreSelected selection (order_cmp order) c.args.opened.now.version level (Ok (map picked_in c.args.parts.now))) c.in-Bytewise.is chosen) told current (subst (λ (order : Order). ReadsAs (order_cmp order) order v loaded files) c.in-Bytewise.is reads) (subst (λ (order : Order). IsLawfulTables (order_cmp order) v loaded (Ok tables)) c.in-Bytewise.is sound))

pub returns-in-Shortlex-clause-answer : goal.returns-in-Shortlex-clause-answer
returns-in-Shortlex-clause-answer g c selection level files loaded tables chosen told current reads sound =
    let failed = g.F.Folder.failed in
    let v = c.args.opened.now.version in
    subst (λ (order : Order). FolderAnswers step_in (failed c.args.folder.now) (failed c.compact_lawful-in-Shortlex.new.folder) c.compact_lawful-in-Shortlex.result (IsWholeCompacted (order_cmp order) (order_short_keys order) files v (AreSelected selection (order_cmp order) v level) c.args.settings.now))
    (sym c.in-Shortlex.is) (c.compact_lawful-in-Shortlex.ensures.answer selection level files Shortlex loaded tables (subst (λ (order : Order). AreSelected selection (order_cmp order) c.args.opened.now.version level (Ok (map picked_in c.args.parts.now))) c.in-Shortlex.is chosen) told current (subst (λ (order : Order). ReadsAs (order_cmp order) order v loaded files) c.in-Shortlex.is reads) (subst (λ (order : Order). IsLawfulTables (order_cmp order) v loaded (Ok tables)) c.in-Shortlex.is sound))

pub returns-in-Bytewise-clause-runs : goal.returns-in-Bytewise-clause-runs
returns-in-Bytewise-clause-runs g c selection level chosen =
    subst (λ (order : Order). IsWholeRun g.F.Folder (order_name order) (order_cmp order) (order_short_keys order) c.args.opened.now.version (AreSelected selection (order_cmp order) c.args.opened.now.version level) c.args.settings.now c.args.folder.now c.compact_lawful.new.folder c.compact_lawful.result)
    (sym c.in-Bytewise.is) (c.compact_lawful.ensures.runs selection level (subst (λ (order : Order). AreSelected selection (order_cmp order) c.args.opened.now.version level (Ok (map picked_in c.args.parts.now))) c.in-Bytewise.is chosen))

pub returns-in-Shortlex-clause-runs : goal.returns-in-Shortlex-clause-runs
returns-in-Shortlex-clause-runs g c selection level chosen =
    subst (λ (order : Order). IsWholeRun g.F.Folder (order_name order) (order_cmp order) (order_short_keys order) c.args.opened.now.version (AreSelected selection (order_cmp order) c.args.opened.now.version level) c.args.settings.now c.args.folder.now c.compact_lawful-in-Shortlex.new.folder c.compact_lawful-in-Shortlex.result)
    (sym c.in-Shortlex.is) (c.compact_lawful-in-Shortlex.ensures.runs selection level (subst (λ (order : Order). AreSelected selection (order_cmp order) c.args.opened.now.version level (Ok (map picked_in c.args.parts.now))) c.in-Shortlex.is chosen))

pub returns-in-Bytewise-clause-left : goal.returns-in-Bytewise-clause-left
returns-in-Bytewise-clause-left g c selection level files loaded tables chosen told current reads sound =
    let v = c.args.opened.now.version in
    let calls = g.F.Folder.calls in
    let tells = g.F.Folder.tells in
    let is = c.in-Bytewise.is in
    subst (λ (order : Order). IsLevelLeft selection (order_view order) (version_with v loaded) level c.args.settings.now (change_by (calls c.args.folder.now) (calls c.compact_lawful.new.folder) (tells c.args.folder.now) (tells c.compact_lawful.new.folder)) c.compact_lawful.result) (sym is)
    (c.compact_lawful.ensures.left selection level files Bytewise loaded tables (subst (λ (order : Order). AreSelected selection (order_cmp order) c.args.opened.now.version level (Ok (map picked_in c.args.parts.now))) c.in-Bytewise.is chosen) told current refl (subst (λ (order : Order). ReadsAs (order_cmp order) order v loaded files) is reads) (subst (λ (order : Order). IsLawfulTables (order_cmp order) v loaded (Ok tables)) is sound))

pub returns-in-Shortlex-clause-left : goal.returns-in-Shortlex-clause-left
returns-in-Shortlex-clause-left g c selection level files loaded tables chosen told current reads sound =
    let v = c.args.opened.now.version in
    let calls = g.F.Folder.calls in
    let tells = g.F.Folder.tells in
    let is = c.in-Shortlex.is in
    subst (λ (order : Order). IsLevelLeft selection (order_view order) (version_with v loaded) level c.args.settings.now (change_by (calls c.args.folder.now) (calls c.compact_lawful-in-Shortlex.new.folder) (tells c.args.folder.now) (tells c.compact_lawful-in-Shortlex.new.folder)) c.compact_lawful-in-Shortlex.result) (sym is)
    (c.compact_lawful-in-Shortlex.ensures.left selection level files Shortlex loaded tables (subst (λ (order : Order). AreSelected selection (order_cmp order) c.args.opened.now.version level (Ok (map picked_in c.args.parts.now))) c.in-Shortlex.is chosen) told current refl (subst (λ (order : Order). ReadsAs (order_cmp order) order v loaded files) is reads) (subst (λ (order : Order). IsLawfulTables (order_cmp order) v loaded (Ok tables)) is sound))

pub returns-in-Bytewise-clause-other : goal.returns-in-Bytewise-clause-other
returns-in-Bytewise-clause-other g c = c.compact_lawful.ensures.other

pub returns-in-Shortlex-clause-other : goal.returns-in-Shortlex-clause-other
returns-in-Shortlex-clause-other g c = c.compact_lawful-in-Shortlex.ensures.other
