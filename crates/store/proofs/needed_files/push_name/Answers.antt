use Rattle.std.proofs.Common.{◌≡◌, ◌++◌, ℕ, List, Result, Ok, ap, ◌∙◌, arith}
use Rattle.std.proofs.lemmas.Result.{on_ok_weaker}
use Rattle.std.specs.Prelude.{string_bytes}
use Rattle.folder.specs.Answers.{◌>>=◌}
use Rattle.folder.specs.fault.Fault.{Fault}
use Rattle.folder.proofs.OpeningLemmas.{hands_on}
use Rattle.folder.proofs.ReportLemmas.{reports_after, reports_handed}
use Rattle.store.specs.FilesToCompact.{name_line, name_there}
use Rattle.store.specs.NameLines.{line_after}
use Rattle.store.proofs.NamesThere.{line_told}
use Rattle.store.proofs.NoDevice.{memory_alone}
use Rattle.store.proofs.needed_files.push_name.Goals as goal

pub returns-in_err-name-clause-answer : goal.returns-in_err-name-clause-answer
returns-in_err-name-clause-answer g c files told =
    let failed = g.F.Folder.failed in
    let e = c.in_err-name.field-0.0 in
    let text = string_bytes c.args.text.now in
    hands_on (λ _. text) (failed c.args.folder.now) (failed c.args.folder.now) (failed c.name_there.new.folder) c.from_residual.result e (λ (a : Result (List ℕ) Fault). a ≡ name_there files c.args.number)
    (λ (a : Result (List ℕ) Fault). a ≡ line_after files text c.args.number)
    c.from_residual.ensures.1 (omega arith) c.name_there.ensures.device.later (c.in_err-name.ensures.answer files told)
    (λ h. ap (λ (r : Result (List ℕ) Fault). r >>= λ name. Ok (text ++ name_line name)) h)

pub returns-in_err-name-clause-device : goal.returns-in_err-name-clause-device
returns-in_err-name-clause-device g c = reports_handed c.from_residual.result c.in_err-name.was c.name_there.ensures.device c.from_residual.ensures.1

pub returns-clause-answer : goal.returns-clause-answer
returns-clause-answer g c files told =
    let failed = g.F.Folder.failed in
    let name = string_bytes c.in_ok-name.name in
    line_told files (string_bytes c.args.text.now) (string_bytes c.push_line.new.text) name c.args.number (failed c.args.folder.now) (failed c.name_there.new.folder) c.push_line.result (c.in_ok-name.ensures.answer files told)
    (on_ok_weaker c.push_line.result (λ h. h ∙ ap (λ (n : List ℕ). string_bytes c.args.text.now ++ name_line n) c.as_str.ensures.value) c.push_line.ensures.ok) c.push_line.ensures.memory

pub returns-clause-device : goal.returns-clause-device
returns-clause-device g c =
    let failed = g.F.Folder.failed in
    reports_after c.push_line.result c.in_ok-name.was c.name_there.ensures.device (memory_alone (failed c.args.folder.now) (failed c.name_there.new.folder) c.push_line.result c.push_line.ensures.memory)
