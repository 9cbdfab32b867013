use Rattle.std.proofs.Common.{◌≡◌, List, None, length, map, Result, Ok, Err, refl, sym, ap, subst, ◌∙◌, inl}
use Rattle.folder.proofs.Refusals.{unless_from}
use Rattle.folder.specs.Answers.{UnlessMemory}
use Rattle.folder.specs.fault.Fault.{Fault}
use Rattle.folder.proofs.OpeningLemmas.{refuses}
use Rattle.folder.proofs.ReportLemmas.{reports_steady}
use Rattle.reads.specs.TableContents.{Contents}
use Rattle.install.specs.Install.{table_bytes_of}
use Rattle.pick.specs.PickedInputs.{PickedInputs, picked_in}
use Rattle.pick.specs.declared.picked_inputs.InputFile.{InputFile}
use Rattle.checks.specs.HeldBytes.{held_bytes}
use Rattle.compact.specs.Inputs.{inputs_reading}
use Rattle.store.specs.FolderRequest.{compaction_from}
use Rattle.store.specs.InputsCompaction.{IsReadAnswer, input_tables}
use Rattle.store.specs.FoundInputs.{IsAnswerForInputs, IsAnswerForThese, IsAnsweredBy, step_result}
use Rattle.store.specs.Step.{IsStepFor, StepView, step_in}
use Rattle.store.proofs.Answered.{read_answered, read_refused, step_made}
use Rattle.store.proofs.CheckedInputs.{held_length, read_as_inputs, read_bytes, same_read}
use Rattle.store.proofs.Flow.{no_value}
use Rattle.store.proofs.NoDevice.{handed_other, step_other}
use Rattle.store.proofs.PlannedPart.{answers_as, unchanged}
use Rattle.store.proofs.RunPart.{run_as}
use Rattle.store.proofs.held_compaction.install_held.Goals as goal

pub stated_tables-requires : goal.stated_tables-requires
stated_tables-requires g c = record {
  lengths = held_length c.args.held.now c.args.picked.now.files.items (λ i. table_bytes_of (held_bytes c.args.held.now) i.meta.number) c.requires.bytes ∙ ap length (sym c.deref.ensures.value);
}

pub returns-in_err-tables-clause-answer : goal.returns-in_err-tables-clause-answer
returns-in_err-tables-clause-answer g c files told current =
    let cmp = g.C.Comparator.cmp in
    let keys = g.C.Comparator.short_keys in
    let v = c.args.opened.now.version in
    let loaded = held_bytes c.args.held.now in
    let p = picked_in c.args.picked.now in
    let s = c.args.settings.now in
    let failed = g.F.Folder.failed in
    let e = c.in_err-tables.field-0.0 in
    refuses step_in (failed c.args.folder.now) (failed c.args.folder.now) c.from_residual.result e (λ read. input_tables cmp p.files loaded ≡ read) (IsStepFor v (IsReadAnswer None cmp keys v s p loaded))
    c.from_residual.ensures.1 (subst (λ (fs : List InputFile). UnlessMemory e (input_tables cmp fs loaded ≡ Err e)) c.deref.ensures.value c.in_err-tables.ensures)
    (read_refused cmp keys v s p loaded e)

pub returns-in_err-tables-clause-left : goal.returns-in_err-tables-clause-left
returns-in_err-tables-clause-left g c files order loaded level told current named can =
    inl (unchanged (g.F.Folder.calls c.args.folder.now) (g.F.Folder.tells c.args.folder.now) c.from_residual.result _ c.from_residual.ensures.1)

pub returns-in_err-tables-clause-runs : goal.returns-in_err-tables-clause-runs
returns-in_err-tables-clause-runs g c =
    inl (unchanged (g.F.Folder.calls c.args.folder.now) (g.F.Folder.tells c.args.folder.now) c.from_residual.result _ c.from_residual.ensures.1)

pub returns-in_err-tables-clause-other : goal.returns-in_err-tables-clause-other
returns-in_err-tables-clause-other g c files told other = no_value c.from_residual.result _ c.from_residual.ensures.1

pub returns-in_err-tables-clause-device : goal.returns-in_err-tables-clause-device
returns-in_err-tables-clause-device g c =
    let cmp = g.C.Comparator.cmp in
    let keys = g.C.Comparator.short_keys in
    let v = c.args.opened.now.version in
    let loaded = held_bytes c.args.held.now in
    let p = picked_in c.args.picked.now in
    let s = c.args.settings.now in
    let e = c.in_err-tables.field-0.0 in
    reports_steady c.from_residual.result refl
    (handed_other c.from_residual.result e (IsStepFor v (IsReadAnswer None cmp keys v s p loaded) (Err e)) c.from_residual.ensures.1 (step_other None cmp keys v p s loaded e)
    (unless_from e (input_tables cmp p.files loaded ≡ Err e) (IsStepFor v (IsReadAnswer None cmp keys v s p loaded) (Err e)) (read_refused cmp keys v s p loaded e)
    (subst (λ (fs : List InputFile). UnlessMemory e (input_tables cmp fs loaded ≡ Err e)) c.deref.ensures.value c.in_err-tables.ensures)))

pub install_checked-requires-clause-read : goal.install_checked-requires-clause-read
install_checked-requires-clause-read g c κs within =
    let cmp = g.C.Comparator.cmp in
    let files = c.args.picked.now.files.items in
    let loaded = held_bytes c.args.held.now in
    let found = subst (λ (fs : List InputFile). input_tables cmp fs loaded ≡ Ok c.in_ok-tables.tables.items) c.deref.ensures.value c.in_ok-tables.ensures in
    subst (λ (ts : List Contents). inputs_reading cmp 0 files (map (λ (t : Contents). t.bytes) ts) ≡ Ok (map (λ (t : Contents). t.entries) ts)) (sym c.deref-2.ensures.value)
    (read_as_inputs cmp files loaded c.in_ok-tables.tables.items (same_read (held_bytes c.args.held.now) files (λ i. table_bytes_of loaded i.meta.number) c.requires.bytes) found)

pub install_checked-requires-clause-bytes : goal.install_checked-requires-clause-bytes
install_checked-requires-clause-bytes g c κs within =
    let cmp = g.C.Comparator.cmp in
    let loaded = held_bytes c.args.held.now in
    let p = picked_in c.args.picked.now in
    let found = subst (λ (fs : List InputFile). input_tables cmp fs loaded ≡ Ok c.in_ok-tables.tables.items) c.deref.ensures.value c.in_ok-tables.ensures in
    (loaded, ap (map (λ (t : Contents). t.bytes)) c.deref-2.ensures.value ∙ read_bytes cmp p.files loaded c.in_ok-tables.tables.items found ∙ c.requires.bytes)

pub returns-clause-answer : goal.returns-clause-answer
returns-clause-answer g c files told current =
    let cmp = g.C.Comparator.cmp in
    let keys = g.C.Comparator.short_keys in
    let v = c.args.opened.now.version in
    let loaded = held_bytes c.args.held.now in
    let p = picked_in c.args.picked.now in
    let s = c.args.settings.now in
    let failed = g.F.Folder.failed in
    let found = subst (λ (fs : List InputFile). input_tables cmp fs loaded ≡ Ok c.in_ok-tables.tables.items) c.deref.ensures.value c.in_ok-tables.ensures in
    let bytes = ap (map (λ (t : Contents). t.bytes)) c.deref-2.ensures.value ∙ read_bytes cmp p.files loaded c.in_ok-tables.tables.items found ∙ c.requires.bytes in
    let answered = compaction_from None cmp keys v loaded p s in
    answers_as step_in (failed c.args.folder.now) (failed c.install_checked.new.folder) c.install_checked.result (λ (x : Result StepView Fault). x ≡ step_result v p answered) (IsStepFor v (IsReadAnswer None cmp keys v s p loaded))
    (λ x h. step_made v p (IsReadAnswer None cmp keys v s p loaded) answered x (read_answered None cmp keys v s p loaded c.in_ok-tables.tables.items found) h)
    (c.install_checked.ensures.answer files loaded told current bytes)

pub returns-clause-left : goal.returns-clause-left
returns-clause-left g c files order loaded level told current named can =
    let cmp = g.C.Comparator.cmp in
    let own = held_bytes c.args.held.now in
    let p = picked_in c.args.picked.now in
    let found = subst (λ (fs : List InputFile). input_tables cmp fs own ≡ Ok c.in_ok-tables.tables.items) c.deref.ensures.value c.in_ok-tables.ensures in
    let bytes = ap (map (λ (t : Contents). t.bytes)) c.deref-2.ensures.value ∙ read_bytes cmp p.files own c.in_ok-tables.tables.items found ∙ c.requires.bytes in
    c.install_checked.ensures.left files order own loaded level told current bytes named can

pub returns-clause-runs : goal.returns-clause-runs
returns-clause-runs g c =
    let cmp = g.C.Comparator.cmp in
    let keys = g.C.Comparator.short_keys in
    let v = c.args.opened.now.version in
    let own = held_bytes c.args.held.now in
    let p = picked_in c.args.picked.now in
    let s = c.args.settings.now in
    let calls = g.F.Folder.calls in
    let tells = g.F.Folder.tells in
    let contents = c.in_ok-tables.tables.items in
    let found = subst (λ (fs : List InputFile). input_tables cmp fs own ≡ Ok contents) c.deref.ensures.value c.in_ok-tables.ensures in
    let bytes = ap (map (λ (t : Contents). t.bytes)) c.deref-2.ensures.value ∙ read_bytes cmp p.files own contents found ∙ c.requires.bytes in
    run_as (IsAnsweredBy p (compaction_from None cmp keys v own p s)) (IsAnswerForThese (IsAnswerForInputs cmp keys v own s) p)
    g.C.Comparator.name_bytes cmp v (calls c.args.folder.now) (calls c.install_checked.new.folder) (tells c.args.folder.now) (tells c.install_checked.new.folder) c.install_checked.result
    (λ q answer h. (h.0, subst (λ (x : PickedInputs). IsAnswerForInputs cmp keys v own s x answer) (sym h.0) (record { contents = contents; stated = found; answered = h.1 })))
    (c.install_checked.ensures.runs own bytes)
