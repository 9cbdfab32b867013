use Rattle.std.proofs.Common.{ℕ, Some, Result, Ok, codes, refl, subst, arith, inl}
use Rattle.table.specs.TableBytes.{AreBytes}
use Rattle.folder.specs.fault.Fault.{Fault}
use Rattle.compact.specs.GroupedAnswer.{joined_answer}
use Rattle.folder.proofs.ReportLemmas.{reports_after, reports_handed, reports_steady}
use Rattle.folder.specs.Names.{current_text}
use Rattle.install.specs.Install.{manifest_bytes}
use Rattle.pick.specs.PickedInputs.{picked_in}
use Rattle.store.specs.FoundInputs.{IsAnsweredBy}
use Rattle.store.specs.Step.{step_in, step_of}
use Rattle.store.specs.declared.compaction_step.CompactionStep.{CompactionStep}
use Rattle.store.proofs.Answered.{equal_value, memory_alone_at}
use Rattle.store.proofs.Flow.{no_value, stopped_on}
use Rattle.store.proofs.InstallPart.{Promises, refused_ok, refused_on, stopped_named, valued_on}
use Rattle.store.proofs.NoDevice.{handed_other}
use Rattle.store.proofs.PlannedPart.{memory_answers, memory_apart, step_refused, step_value, unchanged}
use Rattle.store.proofs.RunPart.{install_done, install_refused}
use Rattle.store.proofs.StepPart.{current_named, no_ok, step_installed}
use Rattle.store.proofs.planned_installation.install_merged.Goals as goal

-- ---- the plan

pub returns-in_err-planned-clause-answer : goal.returns-in_err-planned-clause-answer
returns-in_err-planned-clause-answer g c files told current =
    let failed = g.F.Folder.failed in
    step_refused step_in (failed c.args.folder.now) (failed c.args.folder.now) c.from_residual.result c.in_err-planned.field-0.0 c.args.opened.now.version (picked_in c.args.picked.now) c.args.merged.now
    c.from_residual.ensures.1 c.in_err-planned.ensures.answer

pub returns-in_err-planned-clause-left : goal.returns-in_err-planned-clause-left
returns-in_err-planned-clause-left g c files order loaded level s told current named can =
    inl (unchanged (g.F.Folder.calls c.args.folder.now) (g.F.Folder.tells c.args.folder.now) c.from_residual.result _ c.from_residual.ensures.1)

pub returns-in_err-planned-clause-runs : goal.returns-in_err-planned-clause-runs
returns-in_err-planned-clause-runs g c =
    inl (unchanged (g.F.Folder.calls c.args.folder.now) (g.F.Folder.tells c.args.folder.now) c.from_residual.result _ c.from_residual.ensures.1)

pub returns-in_err-planned-clause-other : goal.returns-in_err-planned-clause-other
returns-in_err-planned-clause-other g c files told other = no_value c.from_residual.result _ c.from_residual.ensures.1

pub returns-in_err-planned-clause-device : goal.returns-in_err-planned-clause-device
returns-in_err-planned-clause-device g c =
    let e = c.in_err-planned.field-0.0 in
    reports_steady c.from_residual.result refl (handed_other c.from_residual.result e _ c.from_residual.ensures.1 (c.requires.other e) c.in_err-planned.ensures.answer)

-- ---- its step

pub returns-in_err-step-clause-answer : goal.returns-in_err-step-clause-answer
returns-in_err-step-clause-answer g c files told current =
    let failed = g.F.Folder.failed in
    memory_answers step_in (failed c.args.folder.now) (failed c.args.folder.now) c.from_residual-in_err-step.result c.in_err-step.field-0.0 _ c.from_residual-in_err-step.ensures.1 (memory_alone_at _ c.in_err-step.field-0.0 c.in_err-step.ensures)

pub returns-in_err-step-clause-left : goal.returns-in_err-step-clause-left
returns-in_err-step-clause-left g c files order loaded level s told current named can =
    inl (unchanged (g.F.Folder.calls c.args.folder.now) (g.F.Folder.tells c.args.folder.now) c.from_residual-in_err-step.result _ c.from_residual-in_err-step.ensures.1)

pub returns-in_err-step-clause-runs : goal.returns-in_err-step-clause-runs
returns-in_err-step-clause-runs g c =
    inl (unchanged (g.F.Folder.calls c.args.folder.now) (g.F.Folder.tells c.args.folder.now) c.from_residual-in_err-step.result _ c.from_residual-in_err-step.ensures.1)

pub returns-in_err-step-clause-other : goal.returns-in_err-step-clause-other
returns-in_err-step-clause-other g c files told other = no_value c.from_residual-in_err-step.result _ c.from_residual-in_err-step.ensures.1

pub returns-in_err-step-clause-device : goal.returns-in_err-step-clause-device
returns-in_err-step-clause-device g c =
    reports_steady c.from_residual-in_err-step.result refl (memory_apart c.from_residual-in_err-step.result c.in_err-step.field-0.0 c.from_residual-in_err-step.ensures.1 (memory_alone_at _ c.in_err-step.field-0.0 c.in_err-step.ensures))

-- ---- its installation

pub returns-in_err-install_planned-clause-answer : goal.returns-in_err-install_planned-clause-answer
returns-in_err-install_planned-clause-answer g c files told current =
    let failed = g.F.Folder.failed in
    stopped_on step_in (failed c.args.folder.now) (failed c.args.folder.now) (failed c.install_planned.new.folder) c.from_residual-in_err-install_planned.result c.in_err-install_planned.field-0.0 _
    c.from_residual-in_err-install_planned.ensures.1 (omega arith) c.install_planned.ensures.run.device.later (c.in_err-install_planned.ensures.run.same_current files told current)

pub returns-in_err-install_planned-clause-left : goal.returns-in_err-install_planned-clause-left
returns-in_err-install_planned-clause-left g c files order loaded level s told current named can =
    let cmp = g.C.Comparator.cmp in
    let name = g.C.Comparator.name_bytes in
    let v = c.args.opened.now.version in
    let calls = g.F.Folder.calls in
    let tells = g.F.Folder.tells in
    let failed = g.F.Folder.failed in
    let a = c.args.folder.now in
    let n = c.install_planned.new.folder in
    let answer = joined_answer c.in_ok-planned.planned in
    let q = c.from_residual-in_err-install_planned.result in
    let e = c.in_err-install_planned.field-0.0 in
    let h = c.from_residual-in_err-install_planned.ensures.1 in
    let promises = subst (λ (m : ℕ). Promises name cmp v m answer (calls a) (calls n) (tells a) (tells n) c.install_planned.result) c.manifest_of-number.ensures c.install_planned.ensures.survives in
    step_installed name order cmp g.C.Comparator.short_keys v loaded level s (picked_in c.args.picked.now) answer
    (calls a) (calls a) (calls n) (tells a) (tells a) (tells n) c.install_planned.result q
    named (can answer c.in_ok-planned.ensures.answer)
    (λ P x. refused_on c.install_planned.result q e P h x) refl (λ name held. ((λ x. x), (λ x. x)))
    (no_ok _ q e h) (refused_ok q e _ h)
    (stopped_named (failed a) (failed n) q e h (c.in_err-install_planned.ensures.run.same_current files told current)) promises

pub returns-in_err-install_planned-clause-runs : goal.returns-in_err-install_planned-clause-runs
returns-in_err-install_planned-clause-runs g c =
    let v = c.args.opened.now.version in
    let calls = g.F.Folder.calls in
    let tells = g.F.Folder.tells in
    let failed = g.F.Folder.failed in
    let a = c.args.folder.now in
    let n = c.install_planned.new.folder in
    let planned = c.in_ok-planned.planned in
    let answer = joined_answer planned in
    let p = picked_in c.args.picked.now in
    let done = c.install_planned.ensures.run in
    install_refused (IsAnsweredBy p c.args.merged.now) g.C.Comparator.name_bytes g.C.Comparator.cmp v c.manifest_of-number.result planned.groups p answer
    (calls a) (calls n) (tells a) (tells n) (failed a) (failed n) c.install_planned.result c.from_residual-in_err-install_planned.result c.in_err-install_planned.field-0.0
    c.manifest_of-number.ensures refl (refl, c.in_ok-planned.ensures.answer) c.sets_internal_key.ensures (subst AreBytes c.edit.ensures c.edit_is_bytes.ensures) c.in_err-install_planned.was c.from_residual-in_err-install_planned.ensures.1
    done.runs done.left done.refused

pub returns-in_err-install_planned-clause-other : goal.returns-in_err-install_planned-clause-other
returns-in_err-install_planned-clause-other g c files told other = no_value c.from_residual-in_err-install_planned.result _ c.from_residual-in_err-install_planned.ensures.1

pub returns-in_err-install_planned-clause-device : goal.returns-in_err-install_planned-clause-device
returns-in_err-install_planned-clause-device g c =
    reports_handed c.from_residual-in_err-install_planned.result c.in_err-install_planned.was c.install_planned.ensures.run.device c.from_residual-in_err-install_planned.ensures.1

-- ---- at Ok

pub returns-clause-answer : goal.returns-clause-answer
returns-clause-answer g c files told current =
    let v = c.args.opened.now.version in
    let p = picked_in c.args.picked.now in
    let answer = joined_answer c.in_ok-planned.planned in
    step_value v p c.args.merged.now answer (step_in c.in_ok-step.step) c.in_ok-planned.ensures.answer (equal_value step_in (step_of v p answer) c.in_ok-step.step c.in_ok-step.ensures)

pub returns-clause-left : goal.returns-clause-left
returns-clause-left g c files order loaded level s told current named can =
    let cmp = g.C.Comparator.cmp in
    let name = g.C.Comparator.name_bytes in
    let v = c.args.opened.now.version in
    let calls = g.F.Folder.calls in
    let tells = g.F.Folder.tells in
    let a = c.args.folder.now in
    let n = c.install_planned.new.folder in
    let planned = c.in_ok-planned.planned in
    let answer = joined_answer planned in
    let p = picked_in c.args.picked.now in
    let q : Result CompactionStep Fault = Ok c.in_ok-step.step in
    let promises = subst (λ (m : ℕ). Promises name cmp v m answer (calls a) (calls n) (tells a) (tells n) c.install_planned.result) c.manifest_of-number.ensures c.install_planned.ensures.survives in
    let now = subst (λ (m : ℕ). tells n (codes "CURRENT") (Some (current_text m))) c.manifest_of-number.ensures
    (current_named c.manifest_of-number.result planned.groups (manifest_bytes name cmp v planned.edit) (calls a) (calls n) (tells a) (tells n) c.install_planned.result _ files c.in_ok-install_planned.was c.install_planned.ensures.run.runs told) in
    step_installed name order cmp g.C.Comparator.short_keys v loaded level s p answer
    (calls a) (calls a) (calls n) (tells a) (tells a) (tells n) c.install_planned.result q
    named (can answer c.in_ok-planned.ensures.answer)
    (λ P x. valued_on c.install_planned.result _ q P c.in_ok-install_planned.was x) refl (λ name held. ((λ x. x), (λ x. x)))
    now (equal_value step_in (step_of v p answer) c.in_ok-step.step c.in_ok-step.ensures) tt promises

pub returns-clause-runs : goal.returns-clause-runs
returns-clause-runs g c =
    let v = c.args.opened.now.version in
    let calls = g.F.Folder.calls in
    let tells = g.F.Folder.tells in
    let a = c.args.folder.now in
    let n = c.install_planned.new.folder in
    let planned = c.in_ok-planned.planned in
    let answer = joined_answer planned in
    let p = picked_in c.args.picked.now in
    install_done (IsAnsweredBy p c.args.merged.now) g.C.Comparator.name_bytes g.C.Comparator.cmp v c.manifest_of-number.result planned.groups p answer
    (calls a) (calls n) (tells a) (tells n) c.install_planned.result _ c.in_ok-step.step
    c.manifest_of-number.ensures refl (refl, c.in_ok-planned.ensures.answer) c.sets_internal_key.ensures (subst AreBytes c.edit.ensures c.edit_is_bytes.ensures) c.in_ok-install_planned.was
    c.install_planned.ensures.run.runs (equal_value step_in (step_of v p answer) c.in_ok-step.step c.in_ok-step.ensures)

pub returns-clause-other : goal.returns-clause-other
returns-clause-other g c files told other = c.in_ok-install_planned.ensures.run.other_current files told other

pub returns-clause-device : goal.returns-clause-device
returns-clause-device g c =
    let q : Result CompactionStep Fault = Ok c.in_ok-step.step in
    reports_after q c.in_ok-install_planned.was c.install_planned.ensures.run.device tt
