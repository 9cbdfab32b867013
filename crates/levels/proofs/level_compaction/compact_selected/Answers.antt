use Rattle.std.proofs.Common.{List, Ok, Option, inl, inr, refl, map, subst, sym}
use Rattle.std.specs.Global.{Vec}
use Rattle.folder.proofs.ReportLemmas.{reports_steady}
use Rattle.folder.specs.Orders.{order_cmp}
use Rattle.install.specs.FolderChange.{change_of}
use Rattle.install.specs.Install.{version_with}
use Rattle.pick.specs.PickedInputs.{picked_in}
use Rattle.pick.specs.declared.picked_inputs.Inputs.{Inputs}
use Rattle.store.proofs.Flow.{no_value}
use Rattle.store.proofs.NoDevice.{handed_other}
use Rattle.store.proofs.StepPart.{step_left}
use Rattle.store.specs.OrderView.{order_view}
use Rattle.levels.specs.LevelTaken.{AreTaken}
use Rattle.levels.specs.WholeAnswer.{AreSelected}
use Rattle.levels.proofs.OpenedNext.{picked_left}
use Rattle.levels.proofs.PartsOver.{selected_other}
use Rattle.levels.proofs.Untested.{choice_refused, passes_test, picked_step, whole_step_of}
use Rattle.levels.proofs.level_compaction.compact_selected.Goals as goal

-- ---- the choice is refused

pub returns-in_err-parts-clause-answer : goal.returns-in_err-parts-clause-answer
returns-in_err-parts-clause-answer g c files loaded tables told current reads sound =
    let o = c.args.opened.now in
    let failed = g.F.Folder.failed in
    choice_refused c.args.selection o.order files o.version c.args.level c.args.settings.now loaded tables reads.loaded sound (failed c.args.folder.now) (failed c.args.folder.now)
    c.from_residual.result c.in_err-parts.field-0.0 c.from_residual.ensures.1 c.in_err-parts.ensures

pub returns-in_err-parts-clause-left : goal.returns-in_err-parts-clause-left
returns-in_err-parts-clause-left g c files loaded tables told current reads sound =
    inl (record { calls = refl; same = λ name held. ((λ x. x), (λ x. x)); refused = no_value c.from_residual.result _ c.from_residual.ensures.1 })

pub returns-in_err-parts-clause-runs : goal.returns-in_err-parts-clause-runs
returns-in_err-parts-clause-runs g c =
    inr (inl (record { calls = refl; same = λ name held. ((λ x. x), (λ x. x)); refused = no_value c.from_residual.result _ c.from_residual.ensures.1 }))

pub returns-in_err-parts-clause-other : goal.returns-in_err-parts-clause-other
returns-in_err-parts-clause-other g c files told other = no_value c.from_residual.result _ c.from_residual.ensures.1

pub returns-in_err-parts-clause-device : goal.returns-in_err-parts-clause-device
returns-in_err-parts-clause-device g c =
    let o = c.args.opened.now in
    let e = c.in_err-parts.field-0.0 in
    reports_steady c.from_residual.result refl (handed_other c.from_residual.result e _ c.from_residual.ensures.1 (selected_other (order_cmp o.order) o.version c.args.level e c.args.selection) c.in_err-parts.ensures)

-- ---- no part fits

pub returns-in_default-clause-answer : goal.returns-in_default-clause-answer
returns-in_default-clause-answer g c files loaded tables told current reads sound =
    let o = c.args.opened.now in
    let failed = g.F.Folder.failed in
    let picks = subst (λ (taken : Option (Vec Inputs)). AreTaken c.args.selection (order_cmp o.order) o.version c.args.level (Ok taken)) c.in_default.is c.in_ok-parts.ensures in
    picked_step c.args.selection o.order files o.version c.args.level c.args.settings.now (failed c.args.folder.now) (failed c.compact_opened.new.folder) c.compact_opened.ensures.device.later c.compact_opened.result picks
    (c.compact_opened.ensures.answer files told current)

pub returns-in_default-clause-left : goal.returns-in_default-clause-left
returns-in_default-clause-left g c files loaded tables told current reads sound =
    let o = c.args.opened.now in
    let change = change_of g.F.Folder c.args.folder.now c.compact_opened.new.folder in
    let picks = subst (λ (taken : Option (Vec Inputs)). AreTaken c.args.selection (order_cmp o.order) o.version c.args.level (Ok taken)) c.in_default.is c.in_ok-parts.ensures in
    picked_left c.args.selection (order_view o.order) (version_with o.version loaded) c.args.level c.args.settings.now (change_of g.F.Folder c.args.folder.now c.compact_opened.new.folder) c.compact_opened.result picks
    (step_left (order_view o.order) files o.version loaded c.args.level c.args.settings.now (change_of g.F.Folder c.args.folder.now c.compact_opened.new.folder) c.compact_opened.result reads
    (c.compact_opened.ensures.left files told current reads.opened (λ none. passes_test (order_cmp o.order) files o.version loaded tables reads.loaded sound)))

pub returns-in_default-clause-runs : goal.returns-in_default-clause-runs
returns-in_default-clause-runs g c =
    let o = c.args.opened.now in
    inl (subst (λ (taken : Option (Vec Inputs)). AreTaken c.args.selection (order_cmp o.order) o.version c.args.level (Ok taken)) c.in_default.is c.in_ok-parts.ensures, c.compact_opened.ensures.runs)

-- ---- chosen parts

pub compact_chosen-requires-clause-chosen : goal.compact_chosen-requires-clause-chosen
compact_chosen-requires-clause-chosen g c κs within =
    let o = c.args.opened.now in
    let chosen = subst (λ (taken : Option (Vec Inputs)). AreTaken c.args.selection (order_cmp o.order) o.version c.args.level (Ok taken)) c.in-Some.is c.in_ok-parts.ensures in
    (c.args.selection, c.args.level, subst (λ (ps : List Inputs). AreSelected c.args.selection (order_cmp o.order) o.version c.args.level (Ok (map picked_in ps))) (sym c.deref.ensures.value) chosen)

pub returns-clause-answer : goal.returns-clause-answer
returns-clause-answer g c files loaded tables told current reads sound =
    let o = c.args.opened.now in
    let failed = g.F.Folder.failed in
    let chosen = subst (λ (taken : Option (Vec Inputs)). AreTaken c.args.selection (order_cmp o.order) o.version c.args.level (Ok taken)) c.in-Some.is c.in_ok-parts.ensures in
    whole_step_of c.args.selection o.order files o.version c.args.level c.args.settings.now (failed c.args.folder.now) (failed c.compact_chosen.new.folder) c.compact_chosen.ensures.device.later c.compact_chosen.result
    (c.compact_chosen.ensures.answer c.args.selection c.args.level files loaded tables (subst (λ (ps : List Inputs). AreSelected c.args.selection (order_cmp o.order) o.version c.args.level (Ok (map picked_in ps))) (sym c.deref.ensures.value) chosen) told current reads sound)

pub returns-clause-left : goal.returns-clause-left
returns-clause-left g c files loaded tables told current reads sound =
    let o = c.args.opened.now in
    let chosen = subst (λ (taken : Option (Vec Inputs)). AreTaken c.args.selection (order_cmp o.order) o.version c.args.level (Ok taken)) c.in-Some.is c.in_ok-parts.ensures in
    c.compact_chosen.ensures.left c.args.selection c.args.level files loaded tables (subst (λ (ps : List Inputs). AreSelected c.args.selection (order_cmp o.order) o.version c.args.level (Ok (map picked_in ps))) (sym c.deref.ensures.value) chosen) told current reads sound

pub returns-clause-runs : goal.returns-clause-runs
returns-clause-runs g c =
    let o = c.args.opened.now in
    let chosen = subst (λ (taken : Option (Vec Inputs)). AreTaken c.args.selection (order_cmp o.order) o.version c.args.level (Ok taken)) c.in-Some.is c.in_ok-parts.ensures in
    inr (c.compact_chosen.ensures.runs c.args.selection c.args.level (subst (λ (ps : List Inputs). AreSelected c.args.selection (order_cmp o.order) o.version c.args.level (Ok (map picked_in ps))) (sym c.deref.ensures.value) chosen))
