use Rattle.std.proofs.Common.{◌≡◌, Bor, List, ℕ, None, Result, Ok, map, refl, sym, ap, subst, ◌∙◌, inl}
use Rattle.std.specs.Prelude.{◌&&◌, nat_le}
use Rattle.folder.proofs.Binds.{ok_is}
use Rattle.folder.specs.Answers.{FailsOrMemory, ◌>>=◌}
use Rattle.folder.specs.fault.Fault.{Fault}
use Rattle.folder.specs.fault.FaultName.TheVariants.{SplitCount}
use Rattle.folder.proofs.ReportLemmas.{reports_steady}
use Rattle.reads.specs.TestResult.{test_result}
use Rattle.reads.specs.TableContents.{Contents}
use Rattle.pick.specs.PickedInputs.{picked_in}
use Rattle.pick.specs.declared.picked_inputs.Inputs.{Inputs}
use Rattle.compact.specs.Inputs.{inputs_reading}
use Rattle.compact.specs.OneThread.{Answer, compaction_result}
use Rattle.compact.specs.Request.{RequestView, request_in}
use Rattle.store.specs.FolderRequest.{compaction_from, numbered_request}
use Rattle.store.specs.FoundInputs.{IsAnsweredBy, step_result}
use Rattle.store.specs.Step.{StepView, step_in}
use Rattle.store.proofs.Compactions.{answer_behind, refused_behind}
use Rattle.store.proofs.Flow.{no_value}
use Rattle.store.proofs.NoDevice.{compaction_other, handed_other}
use Rattle.store.proofs.PlannedPart.{answers_as, never_refused, step_refused, split_refused, unchanged}
use Rattle.store.proofs.RunPart.{run_as}
use Rattle.store.proofs.held_compaction.install_checked.Goals as goal

-- ---- the split

pub returns-in_err-split-clause-answer : goal.returns-in_err-split-clause-answer
returns-in_err-split-clause-answer g c files loaded told current bytes =
    let v = c.args.opened.now.version in
    let p = picked_in c.args.picked.now in
    let s = c.args.settings.now in
    let failed = g.F.Folder.failed in
    let e = c.in_err-split.field-0.0 in
    let cmp = g.C.Comparator.cmp in
    let keys = g.C.Comparator.short_keys in
    step_refused step_in (failed c.args.folder.now) (failed c.args.folder.now) c.from_residual.result e v p (compaction_from None cmp keys v loaded p s)
    c.from_residual.ensures.1 (split_refused cmp keys v loaded p s None e c.in_err-split.ensures)

pub returns-in_err-split-clause-left : goal.returns-in_err-split-clause-left
returns-in_err-split-clause-left g c files order own loaded level told current bytes named can =
    inl (unchanged (g.F.Folder.calls c.args.folder.now) (g.F.Folder.tells c.args.folder.now) c.from_residual.result _ c.from_residual.ensures.1)

pub returns-in_err-split-clause-runs : goal.returns-in_err-split-clause-runs
returns-in_err-split-clause-runs g c own bytes =
    inl (unchanged (g.F.Folder.calls c.args.folder.now) (g.F.Folder.tells c.args.folder.now) c.from_residual.result _ c.from_residual.ensures.1)

pub returns-in_err-split-clause-other : goal.returns-in_err-split-clause-other
returns-in_err-split-clause-other g c files told other = no_value c.from_residual.result _ c.from_residual.ensures.1

pub returns-in_err-split-clause-device : goal.returns-in_err-split-clause-device
returns-in_err-split-clause-device g c =
    let v = c.args.opened.now.version in
    let p = picked_in c.args.picked.now in
    let s = c.args.settings.now in
    let e = c.in_err-split.field-0.0 in
    let cmp = g.C.Comparator.cmp in
    let keys = g.C.Comparator.short_keys in
    let own = c.requires.bytes.0 in
    reports_steady c.from_residual.result refl
    (handed_other c.from_residual.result e _ c.from_residual.ensures.1 (compaction_other cmp keys None v own p s e) (split_refused cmp keys v own p s None e c.in_err-split.ensures))

-- ---- their bytes

pub returns-in_err-bytes-clause-answer : goal.returns-in_err-bytes-clause-answer
returns-in_err-bytes-clause-answer g c files loaded told current bytes =
    let v = c.args.opened.now.version in
    let p = picked_in c.args.picked.now in
    let failed = g.F.Folder.failed in
    let e = c.in_err-bytes.field-0.0 in
    let compacted = compaction_from None g.C.Comparator.cmp g.C.Comparator.short_keys v loaded p c.args.settings.now in
    step_refused step_in (failed c.args.folder.now) (failed c.args.folder.now) c.from_residual-in_err-bytes.result e v p compacted
    c.from_residual-in_err-bytes.ensures.1 (never_refused (map (λ (t : Contents). t.bytes) c.args.tables.now) e compacted c.in_err-bytes.ensures)

pub returns-in_err-bytes-clause-left : goal.returns-in_err-bytes-clause-left
returns-in_err-bytes-clause-left g c files order own loaded level told current bytes named can =
    inl (unchanged (g.F.Folder.calls c.args.folder.now) (g.F.Folder.tells c.args.folder.now) c.from_residual-in_err-bytes.result _ c.from_residual-in_err-bytes.ensures.1)

pub returns-in_err-bytes-clause-runs : goal.returns-in_err-bytes-clause-runs
returns-in_err-bytes-clause-runs g c own bytes =
    inl (unchanged (g.F.Folder.calls c.args.folder.now) (g.F.Folder.tells c.args.folder.now) c.from_residual-in_err-bytes.result _ c.from_residual-in_err-bytes.ensures.1)

pub returns-in_err-bytes-clause-other : goal.returns-in_err-bytes-clause-other
returns-in_err-bytes-clause-other g c files told other = no_value c.from_residual-in_err-bytes.result _ c.from_residual-in_err-bytes.ensures.1

pub returns-in_err-bytes-clause-device : goal.returns-in_err-bytes-clause-device
returns-in_err-bytes-clause-device g c =
    let v = c.args.opened.now.version in
    let p = picked_in c.args.picked.now in
    let s = c.args.settings.now in
    let e = c.in_err-bytes.field-0.0 in
    let cmp = g.C.Comparator.cmp in
    let keys = g.C.Comparator.short_keys in
    let own = c.requires.bytes.0 in
    reports_steady c.from_residual-in_err-bytes.result refl
    (handed_other c.from_residual-in_err-bytes.result e _ c.from_residual-in_err-bytes.ensures.1 (compaction_other cmp keys None v own p s e)
    (never_refused (map (λ (t : Contents). t.bytes) c.args.tables.now) e (compaction_from None cmp keys v own p s) c.in_err-bytes.ensures))

-- ---- the request

pub returns-in_err-request-clause-answer : goal.returns-in_err-request-clause-answer
returns-in_err-request-clause-answer g c files loaded told current given =
    let cmp = g.C.Comparator.cmp in
    let keys = g.C.Comparator.short_keys in
    let v = c.args.opened.now.version in
    let p = picked_in c.args.picked.now in
    let s = c.args.settings.now in
    let failed = g.F.Folder.failed in
    let e = c.in_err-request.field-0.0 in
    let bytes = ap (map (λ (b : Bor (List ℕ)). b.now)) c.deref.ensures.value ∙ sym (ok_is _ _ c.in_ok-bytes.ensures) ∙ given in
    step_refused step_in (failed c.args.folder.now) (failed c.args.folder.now) c.from_residual-in_err-request.result e v p (compaction_from None cmp keys v loaded p s)
    c.from_residual-in_err-request.ensures.1
    (refused_behind (test_result (nat_le 1 s.ranges && nat_le s.ranges 4096) SplitCount) (numbered_request None v loaded p s) (λ (r : RequestView). compaction_result cmp keys s.workers r) e c.in_ok-split.ensures (c.in_err-request.ensures.asked loaded bytes))

pub returns-in_err-request-clause-left : goal.returns-in_err-request-clause-left
returns-in_err-request-clause-left g c files order own loaded level told current bytes named can =
    inl (unchanged (g.F.Folder.calls c.args.folder.now) (g.F.Folder.tells c.args.folder.now) c.from_residual-in_err-request.result _ c.from_residual-in_err-request.ensures.1)

pub returns-in_err-request-clause-runs : goal.returns-in_err-request-clause-runs
returns-in_err-request-clause-runs g c own bytes =
    inl (unchanged (g.F.Folder.calls c.args.folder.now) (g.F.Folder.tells c.args.folder.now) c.from_residual-in_err-request.result _ c.from_residual-in_err-request.ensures.1)

pub returns-in_err-request-clause-other : goal.returns-in_err-request-clause-other
returns-in_err-request-clause-other g c files told other = no_value c.from_residual-in_err-request.result _ c.from_residual-in_err-request.ensures.1

pub returns-in_err-request-clause-device : goal.returns-in_err-request-clause-device
returns-in_err-request-clause-device g c =
    let cmp = g.C.Comparator.cmp in
    let keys = g.C.Comparator.short_keys in
    let v = c.args.opened.now.version in
    let p = picked_in c.args.picked.now in
    let s = c.args.settings.now in
    let e = c.in_err-request.field-0.0 in
    let own = c.requires.bytes.0 in
    let bytes = ap (map (λ (b : Bor (List ℕ)). b.now)) c.deref.ensures.value ∙ sym (ok_is _ _ c.in_ok-bytes.ensures) ∙ c.requires.bytes.1 in
    reports_steady c.from_residual-in_err-request.result refl
    (handed_other c.from_residual-in_err-request.result e _ c.from_residual-in_err-request.ensures.1 (compaction_other cmp keys None v own p s e)
    (refused_behind (test_result (nat_le 1 s.ranges && nat_le s.ranges 4096) SplitCount) (numbered_request None v own p s) (λ (r : RequestView). compaction_result cmp keys s.workers r) e c.in_ok-split.ensures (c.in_err-request.ensures.asked own bytes)))

-- ---- the merge

pub merge_request-requires-clause-read : goal.merge_request-requires-clause-read
merge_request-requires-clause-read g c κs within =
    let cmp = g.C.Comparator.cmp in
    let files = c.args.picked.now.files.items in
    let bytes : map (λ (b : Bor (List ℕ)). b.now) c.deref.result.now ≡ map (λ (t : Contents). t.bytes) c.args.tables.now =
    ap (map (λ (b : Bor (List ℕ)). b.now)) c.deref.ensures.value ∙ sym (ok_is _ _ c.in_ok-bytes.ensures) in
    let lent = c.in_ok-request.ensures.lent in
    ap (λ (p : Inputs). inputs_reading cmp 0 p.files.items (map (λ (b : Bor (List ℕ)). b.now) c.in_ok-request.request.tables.now)) lent.0
    ∙ ap (λ (ts : List (Bor (List ℕ))). inputs_reading cmp 0 files (map (λ (b : Bor (List ℕ)). b.now) ts)) lent.1
    ∙ ap (inputs_reading cmp 0 files) bytes
    ∙ c.requires.read

pub returns-in_err-merged-clause-answer : goal.returns-in_err-merged-clause-answer
returns-in_err-merged-clause-answer g c files loaded told current given =
    let cmp = g.C.Comparator.cmp in
    let keys = g.C.Comparator.short_keys in
    let v = c.args.opened.now.version in
    let p = picked_in c.args.picked.now in
    let s = c.args.settings.now in
    let failed = g.F.Folder.failed in
    let e = c.in_err-merged.field-0.0 in
    let bytes = ap (map (λ (b : Bor (List ℕ)). b.now)) c.deref.ensures.value ∙ sym (ok_is _ _ c.in_ok-bytes.ensures) ∙ given in
    let is = answer_behind (test_result (nat_le 1 s.ranges && nat_le s.ranges 4096) SplitCount) (numbered_request None v loaded p s) (λ (r : RequestView). compaction_result cmp keys s.workers r) (request_in c.in_ok-request.request) c.in_ok-split.ensures (c.in_ok-request.ensures.asked loaded bytes) in
    step_refused step_in (failed c.args.folder.now) (failed c.args.folder.now) c.from_residual-in_err-merged.result e v p (compaction_from None cmp keys v loaded p s)
    c.from_residual-in_err-merged.ensures.1 (subst (λ (a : Result Answer Fault). FailsOrMemory e a) (sym is) c.in_err-merged.ensures.refused)

pub returns-in_err-merged-clause-left : goal.returns-in_err-merged-clause-left
returns-in_err-merged-clause-left g c files order own loaded level told current bytes named can =
    inl (unchanged (g.F.Folder.calls c.args.folder.now) (g.F.Folder.tells c.args.folder.now) c.from_residual-in_err-merged.result _ c.from_residual-in_err-merged.ensures.1)

pub returns-in_err-merged-clause-runs : goal.returns-in_err-merged-clause-runs
returns-in_err-merged-clause-runs g c own bytes =
    inl (unchanged (g.F.Folder.calls c.args.folder.now) (g.F.Folder.tells c.args.folder.now) c.from_residual-in_err-merged.result _ c.from_residual-in_err-merged.ensures.1)

pub returns-in_err-merged-clause-other : goal.returns-in_err-merged-clause-other
returns-in_err-merged-clause-other g c files told other = no_value c.from_residual-in_err-merged.result _ c.from_residual-in_err-merged.ensures.1

pub returns-in_err-merged-clause-device : goal.returns-in_err-merged-clause-device
returns-in_err-merged-clause-device g c =
    let cmp = g.C.Comparator.cmp in
    let keys = g.C.Comparator.short_keys in
    let v = c.args.opened.now.version in
    let p = picked_in c.args.picked.now in
    let s = c.args.settings.now in
    let e = c.in_err-merged.field-0.0 in
    let own = c.requires.bytes.0 in
    let bytes = ap (map (λ (b : Bor (List ℕ)). b.now)) c.deref.ensures.value ∙ sym (ok_is _ _ c.in_ok-bytes.ensures) ∙ c.requires.bytes.1 in
    let is = answer_behind (test_result (nat_le 1 s.ranges && nat_le s.ranges 4096) SplitCount) (numbered_request None v own p s) (λ (r : RequestView). compaction_result cmp keys s.workers r) (request_in c.in_ok-request.request) c.in_ok-split.ensures (c.in_ok-request.ensures.asked own bytes) in
    reports_steady c.from_residual-in_err-merged.result refl
    (handed_other c.from_residual-in_err-merged.result e _ c.from_residual-in_err-merged.ensures.1 (compaction_other cmp keys None v own p s e)
    (subst (λ (a : Result Answer Fault). FailsOrMemory e a) (sym is) c.in_err-merged.ensures.refused))

-- ---- the installation

pub install_merged-requires-clause-other : goal.install_merged-requires-clause-other
install_merged-requires-clause-other g c κs within e is =
    let cmp = g.C.Comparator.cmp in
    let keys = g.C.Comparator.short_keys in
    let v = c.args.opened.now.version in
    let p = picked_in c.args.picked.now in
    let s = c.args.settings.now in
    let own = c.requires.bytes.0 in
    let bytes = ap (map (λ (b : Bor (List ℕ)). b.now)) c.deref.ensures.value ∙ sym (ok_is _ _ c.in_ok-bytes.ensures) ∙ c.requires.bytes.1 in
    let same = answer_behind (test_result (nat_le 1 s.ranges && nat_le s.ranges 4096) SplitCount) (numbered_request None v own p s) (λ (r : RequestView). compaction_result cmp keys s.workers r) (request_in c.in_ok-request.request) c.in_ok-split.ensures (c.in_ok-request.ensures.asked own bytes) in
    compaction_other cmp keys None v own p s e (same ∙ sym c.in_ok-merged.ensures.merged ∙ is)

pub returns-clause-answer : goal.returns-clause-answer
returns-clause-answer g c files loaded told current given =
    let cmp = g.C.Comparator.cmp in
    let keys = g.C.Comparator.short_keys in
    let v = c.args.opened.now.version in
    let p = picked_in c.args.picked.now in
    let s = c.args.settings.now in
    let failed = g.F.Folder.failed in
    let bytes = ap (map (λ (b : Bor (List ℕ)). b.now)) c.deref.ensures.value ∙ sym (ok_is _ _ c.in_ok-bytes.ensures) ∙ given in
    let is = answer_behind (test_result (nat_le 1 s.ranges && nat_le s.ranges 4096) SplitCount) (numbered_request None v loaded p s) (λ (r : RequestView). compaction_result cmp keys s.workers r) (request_in c.in_ok-request.request) c.in_ok-split.ensures (c.in_ok-request.ensures.asked loaded bytes) in
    let same : c.in_ok-merged.merged ≡ compaction_from None cmp keys v loaded p s = c.in_ok-merged.ensures.merged ∙ sym is in
    answers_as step_in (failed c.args.folder.now) (failed c.install_merged.new.folder) c.install_merged.result
    (λ (x : Result StepView Fault). x ≡ step_result v p c.in_ok-merged.merged) (λ (x : Result StepView Fault). x ≡ step_result v p (compaction_from None cmp keys v loaded p s))
    (λ x h. h ∙ ap (step_result v p) same) (c.install_merged.ensures.answer files told current)

pub returns-clause-left : goal.returns-clause-left
returns-clause-left g c files order own loaded level told current given named can =
    let cmp = g.C.Comparator.cmp in
    let keys = g.C.Comparator.short_keys in
    let v = c.args.opened.now.version in
    let p = picked_in c.args.picked.now in
    let s = c.args.settings.now in
    let bytes = ap (map (λ (b : Bor (List ℕ)). b.now)) c.deref.ensures.value ∙ sym (ok_is _ _ c.in_ok-bytes.ensures) ∙ given in
    let is = answer_behind (test_result (nat_le 1 s.ranges && nat_le s.ranges 4096) SplitCount) (numbered_request None v own p s) (λ (r : RequestView). compaction_result cmp keys s.workers r) (request_in c.in_ok-request.request) c.in_ok-split.ensures (c.in_ok-request.ensures.asked own bytes) in
    let same : c.in_ok-merged.merged ≡ compaction_from None cmp keys v own p s = c.in_ok-merged.ensures.merged ∙ sym is in
    let logs = c.in_ok-request.ensures.logs in
    c.install_merged.ensures.left files order loaded level s told current named
    (λ answer merged. can answer (sym same ∙ merged) logs.0 logs.1)

pub returns-clause-runs : goal.returns-clause-runs
returns-clause-runs g c own given =
    let cmp = g.C.Comparator.cmp in
    let keys = g.C.Comparator.short_keys in
    let v = c.args.opened.now.version in
    let p = picked_in c.args.picked.now in
    let s = c.args.settings.now in
    let calls = g.F.Folder.calls in
    let tells = g.F.Folder.tells in
    let bytes = ap (map (λ (b : Bor (List ℕ)). b.now)) c.deref.ensures.value ∙ sym (ok_is _ _ c.in_ok-bytes.ensures) ∙ given in
    let is = answer_behind (test_result (nat_le 1 s.ranges && nat_le s.ranges 4096) SplitCount) (numbered_request None v own p s) (λ (r : RequestView). compaction_result cmp keys s.workers r) (request_in c.in_ok-request.request) c.in_ok-split.ensures (c.in_ok-request.ensures.asked own bytes) in
    let same : c.in_ok-merged.merged ≡ compaction_from None cmp keys v own p s = c.in_ok-merged.ensures.merged ∙ sym is in
    run_as (IsAnsweredBy p c.in_ok-merged.merged) (IsAnsweredBy p (compaction_from None cmp keys v own p s))
    g.C.Comparator.name_bytes cmp v (calls c.args.folder.now) (calls c.install_merged.new.folder) (tells c.args.folder.now) (tells c.install_merged.new.folder) c.install_merged.result
    (λ q answer h. (h.0, sym same ∙ h.1))
    c.install_merged.ensures.runs
