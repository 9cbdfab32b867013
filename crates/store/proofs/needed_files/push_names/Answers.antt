use Rattle.std.proofs.Common.{◌≡◌, ◌+◌, ◌∷◌, ℕ, List, length, drop, suc, Result, sym, ap, ◌∙◌, arith, drop-cons}
use Rattle.std.proofs.Math.Seq.{drop-length}
use Rattle.std.specs.Prelude.{string_bytes}
use Rattle.folder.specs.fault.Fault.{Fault}
use Rattle.folder.proofs.CountLemmas.{steady}
use Rattle.folder.proofs.OpeningLemmas.{hands_on}
use Rattle.folder.proofs.ReportLemmas.{reads_then, reports_handed, reports_on}
use Rattle.pick.specs.declared.picked_inputs.InputFile.{InputFile}
use Rattle.store.specs.InputsCompaction.{input_numbers}
use Rattle.store.specs.NameLines.{line_after, lines_after}
use Rattle.store.proofs.Flow.{told_still}
use Rattle.store.proofs.NamesThere.{line_refused, line_written, no_lines}
use Rattle.store.proofs.needed_files.push_names.Goals as goal

pub returns-in_err-push_name-clause-answer : goal.returns-in_err-push_name-clause-answer
returns-in_err-push_name-clause-answer g c files told =
    let tells = g.F.Folder.tells in
    let failed = g.F.Folder.failed in
    let inputs = c.args.inputs.now in
    let i = c.loop-input.input-index in
    let input = c.input-item.result in
    let e = c.in_err-push_name.field-0.0 in
    let text = string_bytes c.loop-input.text in
    let still = told_still (tells c.args.folder.now) (tells c.loop-input.folder) files c.loop-input.invariant.reads.same told in
    let left : drop i inputs ≡ input ∷ drop (suc i) inputs = drop-cons inputs i input c.loop-input-test.true ∙ ap (λ (x : InputFile). x ∷ drop (suc i) inputs) (sym c.input-item.is) in
    hands_on (λ _. string_bytes c.push_name.new.text) (failed c.args.folder.now) (failed c.loop-input.folder) (failed c.push_name.new.folder) c.from_residual.result e
    (λ (a : Result (List ℕ) Fault). a ≡ line_after files text input.meta.number) (λ (a : Result (List ℕ) Fault). a ≡ lines_after files (string_bytes c.args.text.now) (input_numbers inputs))
    c.from_residual.ensures.1 (omega (arith, c.loop-input.invariant.failures)) c.push_name.ensures.device.later (c.in_err-push_name.ensures.answer files still)
    (λ h. sym (c.loop-input.invariant.left files told ∙ ap (λ (fs : List InputFile). lines_after files text (input_numbers fs)) left ∙ line_refused files text input.meta.number (input_numbers (drop (suc i) inputs)) e h))

pub returns-in_err-push_name-clause-device : goal.returns-in_err-push_name-clause-device
returns-in_err-push_name-clause-device g c = reports_on c.loop-input.invariant.failures (reports_handed c.from_residual.result c.in_err-push_name.was c.push_name.ensures.device c.from_residual.ensures.1)

pub returns-in_err-push_name-clause-reads : goal.returns-in_err-push_name-clause-reads
returns-in_err-push_name-clause-reads g c = reads_then c.loop-input.invariant.reads c.push_name.ensures.reads

pub loop-input-preserved : goal.loop-input-preserved
loop-input-preserved g c =
    let tells = g.F.Folder.tells in
    let failed = g.F.Folder.failed in
    let inputs = c.args.inputs.now in
    let i = c.loop-input.input-index in
    let input = c.input-item.result in
    let text = string_bytes c.loop-input.text in
    let after = string_bytes c.push_name.new.text in
    let left : drop i inputs ≡ input ∷ drop (suc i) inputs = drop-cons inputs i input c.loop-input-test.true ∙ ap (λ (x : InputFile). x ∷ drop (suc i) inputs) (sym c.input-item.is) in
    let next : suc i ≡ i + 1 = omega arith in
    record {
      left = λ files told.
          c.loop-input.invariant.left files told
          ∙ ap (λ (fs : List InputFile). lines_after files text (input_numbers fs)) left
          ∙ line_written files text after input.meta.number (input_numbers (drop (suc i) inputs))
          (c.in_ok-push_name.ensures.answer files (told_still (tells c.args.folder.now) (tells c.loop-input.folder) files c.loop-input.invariant.reads.same told))
          ∙ ap (λ (k : ℕ). lines_after files after (input_numbers (drop k inputs))) next;
      reads = reads_then c.loop-input.invariant.reads c.push_name.ensures.reads;
      failures = steady (failed c.args.folder.now) (failed c.loop-input.folder) (failed c.push_name.new.folder) c.in_ok-push_name.field-0 c.push_name.result c.in_ok-push_name.was c.loop-input.invariant.failures c.push_name.ensures.device.later c.push_name.ensures.device.at_once;
    }

pub returns-clause-answer : goal.returns-clause-answer
returns-clause-answer g c files told =
    let inputs = c.args.inputs.now in
    let past : c.loop-input.input-index ≡ length inputs = omega (arith, c.loop-input.auto.input-index-end, c.loop-input-test.false) in
    let text = string_bytes c.loop-input.text in
    sym (c.loop-input.invariant.left files told ∙ ap (λ (k : ℕ). lines_after files text (input_numbers (drop k inputs))) past ∙ ap (λ (fs : List InputFile). lines_after files text (input_numbers fs)) (drop-length inputs) ∙ no_lines files text)
