use Rattle.std.proofs.Common.{◌≡◌, None, Result, Ok, Err, refl, sym, subst, arith, inl}
use Rattle.folder.specs.fault.Fault.{Fault}
use Rattle.folder.specs.LoadedTables.{IsLoaded}
use Rattle.folder.specs.ReadsAs.{IsFileIn}
use Rattle.folder.proofs.OpeningLemmas.{hands_on, answers_since, refuses}
use Rattle.folder.proofs.ReportLemmas.{reports_handed, reports_steady, reports_then}
use Rattle.pick.specs.PickedInputs.{IsPicked, PickedInputs, picked_in}
use Rattle.checks.specs.HeldBytes.{held_bytes}
use Rattle.checks.specs.HeldTables.{IsCheckedAnswer}
use Rattle.store.specs.FoundInputs.{IsAnswerForInputs, IsAnswerForThese}
use Rattle.store.specs.InputsCompaction.{IsChoiceAnswer, IsChosenAnswer, IsInputsCompacted, IsPickedAnswer, IsReadAnswer, input_numbers}
use Rattle.store.specs.Runs.{IsAnswerForLevel}
use Rattle.store.specs.Step.{IsStepFor, StepView, step_in, step_of}
use Rattle.store.specs.declared.choice.Choice.TheVariants.{Picked}
use Rattle.store.proofs.Answered.{made_as}
use Rattle.store.proofs.ChosenInputs.{choice_chosen}
use Rattle.store.proofs.Compactions.{picked_of}
use Rattle.store.proofs.Descending.{same_tells}
use Rattle.store.proofs.Flow.{first_passed, first_refused, no_value, told_still}
use Rattle.store.proofs.HeldInputs.{checked_loaded, checked_refused}
use Rattle.store.proofs.NoDevice.{handed_other}
use Rattle.store.proofs.PartRefusals.{choice_other}
use Rattle.store.proofs.RunPart.{run_as, run_since}
use Rattle.store.proofs.PlannedPart.{answers_as, step_since}
use Rattle.store.proofs.input_compaction.compact_step.Goals as goal

pub returns-in_err-picked-clause-answer : goal.returns-in_err-picked-clause-answer
returns-in_err-picked-clause-answer g c files told current are =
    let cmp = g.C.Comparator.cmp in
    let keys = g.C.Comparator.short_keys in
    let v = c.args.opened.now.version in
    let s = c.args.settings.now in
    let failed = g.F.Folder.failed in
    let e = c.in_err-picked.field-0.0 in
    let level = Picked c.args.level in
    refuses step_in (failed c.args.folder.now) (failed c.args.folder.now) c.from_residual.result e (IsChoiceAnswer cmp v level) (IsInputsCompacted cmp keys files v c.args.level s)
    c.from_residual.ensures.1 c.in_err-picked.ensures
    (λ h. first_refused (IsChosenAnswer None cmp keys files v level s) (λ made (step : Result StepView Fault). step ≡ Ok (step_of v made.0 made.1)) e
    (first_refused (IsChoiceAnswer cmp v level) (IsPickedAnswer None cmp keys files v s) e h))

pub returns-in_err-picked-clause-left : goal.returns-in_err-picked-clause-left
returns-in_err-picked-clause-left g c files order loaded tables told current are named reads sound =
    inl (record { calls = refl; same = same_tells (g.F.Folder.tells c.args.folder.now); refused = no_value c.from_residual.result _ c.from_residual.ensures.1 })

pub returns-in_err-picked-clause-runs : goal.returns-in_err-picked-clause-runs
returns-in_err-picked-clause-runs g c are =
    inl (record { calls = refl; same = same_tells (g.F.Folder.tells c.args.folder.now); refused = no_value c.from_residual.result _ c.from_residual.ensures.1 })

pub returns-in_err-picked-clause-other : goal.returns-in_err-picked-clause-other
returns-in_err-picked-clause-other g c files told other = no_value c.from_residual.result _ c.from_residual.ensures.1

pub returns-in_err-picked-clause-device : goal.returns-in_err-picked-clause-device
returns-in_err-picked-clause-device g c =
    let cmp = g.C.Comparator.cmp in
    let v = c.args.opened.now.version in
    let e = c.in_err-picked.field-0.0 in
    let level = Picked c.args.level in
    reports_steady c.from_residual.result refl
    (handed_other c.from_residual.result e (IsChoiceAnswer cmp v level (Err e)) c.from_residual.ensures.1 (choice_other cmp v level e) c.in_err-picked.ensures)

pub held_inputs-requires-clause-chosen : goal.held_inputs-requires-clause-chosen
held_inputs-requires-clause-chosen g c κs within =
    let level = Picked c.args.level in
    (level, choice_chosen g.C.Comparator.cmp c.args.opened.now.version level (picked_in c.in_ok-picked.picked) c.in_ok-picked.ensures)

pub returns-in_err-tables-clause-answer : goal.returns-in_err-tables-clause-answer
returns-in_err-tables-clause-answer g c files told current are =
    let cmp = g.C.Comparator.cmp in
    let keys = g.C.Comparator.short_keys in
    let v = c.args.opened.now.version in
    let s = c.args.settings.now in
    let failed = g.F.Folder.failed in
    let e = c.in_err-tables.field-0.0 in
    let p = picked_in c.in_ok-picked.picked in
    let level = Picked c.args.level in
    hands_on step_in (failed c.args.folder.now) (failed c.args.folder.now) (failed c.held_inputs.new.folder) c.from_residual-in_err-tables.result e (IsCheckedAnswer cmp files (input_numbers p.files))
    (IsInputsCompacted cmp keys files v c.args.level s)
    c.from_residual-in_err-tables.ensures.1 (omega arith) c.held_inputs.ensures.device.later (c.in_err-tables.ensures.answer files told are)
    (λ h. first_refused (IsChosenAnswer None cmp keys files v level s) (λ made (step : Result StepView Fault). step ≡ Ok (step_of v made.0 made.1)) e
    (first_passed (IsChoiceAnswer cmp v level) (IsPickedAnswer None cmp keys files v s) p (Err e) c.in_ok-picked.ensures (checked_refused cmp None keys files v s p e h)))

pub returns-in_err-tables-clause-left : goal.returns-in_err-tables-clause-left
returns-in_err-tables-clause-left g c files order loaded tables told current are named reads sound =
    inl (record { calls = c.held_inputs.ensures.reads.calls; same = c.held_inputs.ensures.reads.same; refused = no_value c.from_residual-in_err-tables.result _ c.from_residual-in_err-tables.ensures.1 })

pub returns-in_err-tables-clause-runs : goal.returns-in_err-tables-clause-runs
returns-in_err-tables-clause-runs g c are =
    inl (record { calls = c.held_inputs.ensures.reads.calls; same = c.held_inputs.ensures.reads.same; refused = no_value c.from_residual-in_err-tables.result _ c.from_residual-in_err-tables.ensures.1 })

pub returns-in_err-tables-clause-other : goal.returns-in_err-tables-clause-other
returns-in_err-tables-clause-other g c files told other = no_value c.from_residual-in_err-tables.result _ c.from_residual-in_err-tables.ensures.1

pub returns-in_err-tables-clause-device : goal.returns-in_err-tables-clause-device
returns-in_err-tables-clause-device g c = reports_handed c.from_residual-in_err-tables.result c.in_err-tables.was c.held_inputs.ensures.device c.from_residual-in_err-tables.ensures.1

pub returns-clause-answer : goal.returns-clause-answer
returns-clause-answer g c files told current are =
    let cmp = g.C.Comparator.cmp in
    let keys = g.C.Comparator.short_keys in
    let v = c.args.opened.now.version in
    let s = c.args.settings.now in
    let failed = g.F.Folder.failed in
    let tells = g.F.Folder.tells in
    let p = picked_in c.in_ok-picked.picked in
    let held = c.in_ok-tables.tables in
    let level = Picked c.args.level in
    let loaded = checked_loaded cmp files (input_numbers p.files) held (c.in_ok-tables.ensures.answer files told are) in
    let now = told_still (tells c.args.folder.now) (tells c.held_inputs.new.folder) files c.held_inputs.ensures.reads.same told in
    answers_since step_in (failed c.args.folder.now) (failed c.held_inputs.new.folder) (failed c.install_held.new.folder) c.install_held.result (IsInputsCompacted cmp keys files v c.args.level s) (IsInputsCompacted cmp keys files v c.args.level s) (λ a h. h)
    c.held_inputs.ensures.device.later c.install_held.ensures.device.later
    (answers_as step_in (failed c.held_inputs.new.folder) (failed c.install_held.new.folder) c.install_held.result (IsStepFor v (IsReadAnswer None cmp keys v s p (held_bytes held))) (IsInputsCompacted cmp keys files v c.args.level s)
    (λ x h. made_as (IsReadAnswer None cmp keys v s p (held_bytes held)) (IsChosenAnswer None cmp keys files v level s) (λ made (step : Result StepView Fault). step ≡ Ok (step_of v made.0 made.1)) x
    (λ r a. first_passed (IsChoiceAnswer cmp v level) (IsPickedAnswer None cmp keys files v s) p r c.in_ok-picked.ensures
    (first_passed (IsLoaded (IsFileIn files) (input_numbers p.files)) (IsReadAnswer None cmp keys v s p) (held_bytes held) r loaded a)) h)
    (c.install_held.ensures.answer files now current))

pub returns-clause-left : goal.returns-clause-left
returns-clause-left g c files order loaded tables told current are named reads sound =
    let cmp = g.C.Comparator.cmp in
    let keys = g.C.Comparator.short_keys in
    let v = c.args.opened.now.version in
    let s = c.args.settings.now in
    let calls = g.F.Folder.calls in
    let tells = g.F.Folder.tells in
    let p = picked_in c.in_ok-picked.picked in
    let held = c.in_ok-tables.tables in
    let own = held_bytes held in
    let level = Picked c.args.level in
    let given = choice_chosen cmp v level p c.in_ok-picked.ensures in
    let read = checked_loaded cmp files (input_numbers p.files) held (c.in_ok-tables.ensures.answer files told are) in
    let now = told_still (tells c.args.folder.now) (tells c.held_inputs.new.folder) files c.held_inputs.ensures.reads.same told in
    step_since order cmp keys v loaded c.args.level s (calls c.args.folder.now) (calls c.held_inputs.new.folder) (calls c.install_held.new.folder) (tells c.args.folder.now) (tells c.held_inputs.new.folder) (tells c.install_held.new.folder) c.install_held.result
    c.held_inputs.ensures.reads.calls c.held_inputs.ensures.reads.same
    (c.install_held.ensures.left files order loaded c.args.level now current named
    (λ answer is log previous.
    c.chosen_is_installed.ensures order None files v loaded own tables level p s answer reads.loaded sound c.version_is_state.ensures given c.sets_internal_key.ensures read log previous is))

pub returns-clause-runs : goal.returns-clause-runs
returns-clause-runs g c are =
    let cmp = g.C.Comparator.cmp in
    let keys = g.C.Comparator.short_keys in
    let v = c.args.opened.now.version in
    let s = c.args.settings.now in
    let name = g.C.Comparator.name_bytes in
    let calls = g.F.Folder.calls in
    let tells = g.F.Folder.tells in
    let p = picked_in c.in_ok-picked.picked in
    let held = c.in_ok-tables.tables in
    let own = held_bytes held in
    let told = tells c.args.folder.now in
    let level = IsAnswerForLevel cmp keys told v c.args.level s in
    let is_picked = picked_of cmp v c.args.level p (choice_chosen cmp v (Picked c.args.level) p c.in_ok-picked.ensures) in
    run_since level name cmp v (calls c.args.folder.now) (calls c.held_inputs.new.folder) (calls c.install_held.new.folder) (tells c.args.folder.now) (tells c.held_inputs.new.folder) (tells c.install_held.new.folder) c.install_held.result
    c.held_inputs.ensures.reads.calls c.held_inputs.ensures.reads.same
    (run_as (IsAnswerForThese (IsAnswerForInputs cmp keys v own s) p) level name cmp v (calls c.held_inputs.new.folder) (calls c.install_held.new.folder) (tells c.held_inputs.new.folder) (tells c.install_held.new.folder) c.install_held.result
    (λ q answer h. (
      subst (IsPicked cmp v c.args.level) (sym h.0) is_picked,
      record {
        loaded = own;
        read = subst (λ (x : PickedInputs). IsLoaded told (input_numbers x.files) (Ok own)) (sym h.0) (c.in_ok-tables.ensures.read are);
        contents = h.1.contents;
        stated = h.1.stated;
        answered = h.1.answered;
      },
    ))
    c.install_held.ensures.runs)

pub returns-clause-other : goal.returns-clause-other
returns-clause-other g c files told other =
    c.install_held.ensures.other files (told_still (g.F.Folder.tells c.args.folder.now) (g.F.Folder.tells c.held_inputs.new.folder) files c.held_inputs.ensures.reads.same told) other

pub returns-clause-device : goal.returns-clause-device
returns-clause-device g c = reports_then c.in_ok-tables.was c.held_inputs.ensures.device c.install_held.ensures.device
