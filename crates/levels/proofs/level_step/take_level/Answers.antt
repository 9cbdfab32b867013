use Rattle.std.proofs.Common.{Err, ap, inl, inr, refl, ◌∙◌, ◌⊎◌}
use Rattle.std.proofs.lemmas.Result.{err_from_is_err_and}
use Rattle.edit.proofs.Refusals.{unless_from}
use Rattle.edit.specs.fault.Fault.{Fault}
use Rattle.folder.proofs.ReportLemmas.{reports_after, reports_handed}
use Rattle.folder.specs.OpenAnswer.{IsStopped}
use Rattle.install.proofs.Changes.{change_by}
use Rattle.install.specs.Install.{version_with}
use Rattle.store.proofs.NoDevice.{never_device_at}
use Rattle.store.specs.OpenedAfter.{IsOpenedAfter}
use Rattle.levels.proofs.DescentRows.{made_refused, made_told}
use Rattle.levels.proofs.OpenedNext.{installed_of, memory_only, opened_next, opened_other}
use Rattle.levels.specs.LevelMade.{IsLevelStep, IsRefusedSo, way_by}
use Rattle.levels.proofs.level_step.take_level.Goals as goal

pub returns-in_err-step-clause-left : goal.returns-in_err-step-clause-left
returns-in_err-step-clause-left g c bottom files loaded tables told current reads sound =
    let o = c.args.opened.now in
    let failed = g.F.Folder.failed in
    let selection = c.args.descent.now.selection in
    let s = c.args.descent.now.settings in
    let e = c.in_err-step.field-0.0 in
    let p = err_from_is_err_and c.from_residual.result c.from_residual.ensures.1 in
    let stopped = IsStopped (failed c.args.folder.now) (failed c.compact_selected.new.folder) e in
    inl (record {
      e = e;
      is = p.1 ∙ ap (λ (f : Fault). Err f) p.2;
      left = c.in_err-step.ensures.left files loaded tables told current reads sound;
      why = unless_from e (stopped ⊎ IsLevelStep selection o.order files o.version c.args.level s (Err e)) (stopped ⊎ IsRefusedSo selection o.order (version_with o.version loaded) c.args.level s e)
          (λ h. elim h [ inl was ↦ inl was | inr so ↦ inr (record { files = files; reads = reads; refused = so }) ])
          (c.in_err-step.ensures.answer files loaded tables told current reads sound);
    })

pub returns-in_err-step-clause-device : goal.returns-in_err-step-clause-device
returns-in_err-step-clause-device g c = reports_handed c.from_residual.result c.in_err-step.was c.compact_selected.ensures.device c.from_residual.ensures.1

pub returns-clause-left : goal.returns-clause-left
returns-clause-left g c bottom files loaded tables told current reads sound =
    let o = c.args.opened.now in
    let calls = g.F.Folder.calls in
    let tells = g.F.Folder.tells in
    let selection = c.args.descent.now.selection in
    let s = c.args.descent.now.settings in
    let v = version_with o.version loaded in
    let change = change_by (calls c.args.folder.now) (calls c.compact_selected.new.folder) (tells c.args.folder.now) (tells c.compact_selected.new.folder) in
    let step = c.in_ok-step.step in
    let i = installed_of selection o.order v c.args.level s change step (c.in_ok-step.ensures.left files loaded tables told current reads sound) in
    inr (record {
      step = step;
      installed = i;
      opened = opened_next selection o.order v c.args.level s change step i c.tell_step.result c.tell_step.ensures.after;
      memory = memory_only selection o.order v c.args.level s change step i c.tell_step.result c.tell_step.ensures.refused;
    })

pub returns-clause-device : goal.returns-clause-device
returns-clause-device g c =
    let o = c.args.opened.now in
    let failed = g.F.Folder.failed in
    reports_after c.tell_step.result c.in_ok-step.was c.compact_selected.ensures.device
    (never_device_at (failed c.args.folder.now) (failed c.compact_selected.new.folder) c.tell_step.result (λ e. IsOpenedAfter o.order o.version c.in_ok-step.step.edit.items (Err e))
    (opened_other o.order o.version c.in_ok-step.step.edit.items) c.tell_step.ensures.refused)

pub returns-in_err-step-clause-runs : goal.returns-in_err-step-clause-runs
returns-in_err-step-clause-runs g c bottom =
    let o = c.args.opened.now in
    let way = way_by c.args.descent.now.selection o.order c.args.descent.now.settings bottom in
    made_refused g.F.Folder g.T.InstallWatch.tells way o.version c.args.level c.args.folder.now c.compact_selected.new.folder c.args.told.now c.args.told.now
    c.compact_selected.result c.from_residual.result c.in_err-step.field-0.0 c.in_err-step.was refl c.from_residual.ensures.1 c.compact_selected.ensures.runs

pub returns-clause-runs : goal.returns-clause-runs
returns-clause-runs g c bottom =
    let o = c.args.opened.now in
    let way = way_by c.args.descent.now.selection o.order c.args.descent.now.settings bottom in
    made_told g.F.Folder g.T.InstallWatch.tells way o.version c.args.level c.args.folder.now c.compact_selected.new.folder c.args.told.now c.tell_step.new.told
    c.compact_selected.result c.tell_step.result c.in_ok-step.step c.in_ok-step.was c.tell_step.ensures.told.0 c.tell_step.ensures.told.1 c.tell_step.ensures.told.2 c.tell_step.ensures.after c.compact_selected.ensures.runs
