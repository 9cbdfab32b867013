use Rattle.std.proofs.Common.{◌≡◌, ℕ, List, Ok, Err, Some, codes, string_bytes, sym, subst, ◌∙◌, arith, rules}
use Rattle.ikey.specs.Answers.{UnlessMemory}
use Rattle.folder.specs.Manifest.{IsManifestAnswer}
use Rattle.folder.specs.Names.{IsNumberAnswer, manifest_name}
use Rattle.folder.specs.OpenAnswer.{IsFileReading, IsOpened}
use Rattle.folder.proofs.OpeningLemmas.{hands_on, held_before, manifest_answers, no_current, no_manifest, no_number, refuses, version_read}
use Rattle.folder.proofs.RefusalLemmas.{device_failed, open_refused}
use Rattle.folder.proofs.ReportLemmas.{reads_then, reports_after, reports_handed, reports_then}
use Rattle.ikey.proofs.Binds.{ok_is}
use Rattle.folder.proofs.current_version.open.Goals as goal

pub returns-in_err-current-clause-answer : goal.returns-in_err-current-clause-answer
returns-in_err-current-clause-answer g c =
    let tells = g.F.Folder.tells c.args.folder.now in
    let failed = g.F.Folder.failed in
    let e = c.in_err-current.field-0.0 in
    hands_on (λ r. (r.order, r.version)) (failed c.args.folder.now) (failed c.args.folder.now) (failed c.bytes_under.new.folder) c.from_residual.result e (IsFileReading tells (codes "CURRENT")) (IsOpened tells)
    c.from_residual.ensures.1 (omega arith) c.bytes_under.ensures.device.later c.in_err-current.ensures.answer (no_current tells e)

pub returns-in_err-number-clause-answer : goal.returns-in_err-number-clause-answer
returns-in_err-number-clause-answer g c =
    let tells = g.F.Folder.tells c.args.folder.now in
    let failed = g.F.Folder.failed in
    let e = c.in_err-number.field-0.0 in
    let current = c.in_ok-current.current.items in
    let given = subst (λ (bytes : List ℕ). UnlessMemory e (IsNumberAnswer bytes (Err e))) c.deref.ensures.value c.in_err-number.ensures in
    refuses (λ r. (r.order, r.version)) (failed c.args.folder.now) (failed c.bytes_under.new.folder) c.from_residual-in_err-number.result e (IsNumberAnswer current) (IsOpened tells)
    c.from_residual-in_err-number.ensures.1 given (no_number tells current e c.in_ok-current.ensures.answer)

pub returns-in_err-manifest-clause-answer : goal.returns-in_err-manifest-clause-answer
returns-in_err-manifest-clause-answer g c =
    let tells = g.F.Folder.tells c.args.folder.now in
    let then = g.F.Folder.tells c.bytes_under.new.folder in
    let failed = g.F.Folder.failed in
    let e = c.in_err-manifest.field-0.0 in
    let current = c.in_ok-current.current.items in
    let number = c.in_ok-number.number in
    let two = subst (λ (bytes : List ℕ). IsNumberAnswer bytes (Ok number)) c.deref.ensures.value c.in_ok-number.ensures in
    let named : c.as_str.result.now ≡ manifest_name number = c.as_str.ensures.value ∙ sym (ok_is (manifest_name number) (string_bytes c.in_ok-name.name) c.in_ok-name.ensures) in
    hands_on (λ r. (r.order, r.version)) (failed c.args.folder.now) (failed c.bytes_under.new.folder) (failed c.bytes_under-2.new.folder) c.from_residual-in_err-manifest.result e (IsFileReading then c.as_str.result.now) (IsOpened tells)
    c.from_residual-in_err-manifest.ensures.1 c.bytes_under.ensures.device.later c.bytes_under-2.ensures.device.later c.in_err-manifest.ensures.answer
    (λ h. no_manifest tells current number e c.in_ok-current.ensures.answer two (held_before tells then (manifest_name number) c.as_str.result.now (Err e) c.bytes_under.ensures.reads.same named h))

pub returns-in_err-order-clause-answer : goal.returns-in_err-order-clause-answer
returns-in_err-order-clause-answer g c =
    let tells = g.F.Folder.tells c.args.folder.now in
    let failed = g.F.Folder.failed in
    let e = c.in_err-order.field-0.0 in
    let number = c.in_ok-number.number in
    let bytes = c.in_ok-manifest.manifest.items in
    let then = g.F.Folder.tells c.bytes_under.new.folder in
    let two = subst (λ (bytes : List ℕ). IsNumberAnswer bytes (Ok number)) c.deref.ensures.value c.in_ok-number.ensures in
    let named : c.as_str.result.now ≡ manifest_name number = c.as_str.ensures.value ∙ sym (ok_is (manifest_name number) (string_bytes c.in_ok-name.name) c.in_ok-name.ensures) in
    let three = held_before tells then (manifest_name number) c.as_str.result.now (Ok bytes) c.bytes_under.ensures.reads.same named c.in_ok-manifest.ensures.answer in
    let given = subst (λ (bytes : List ℕ). UnlessMemory e (IsManifestAnswer number bytes (Err e))) c.deref-2.ensures.value c.in_err-order.ensures in
    refuses (λ r. (r.order, r.version)) (failed c.args.folder.now) (failed c.bytes_under-2.new.folder) c.from_residual-in_err-order.result e (IsManifestAnswer number bytes) (IsOpened tells)
    c.from_residual-in_err-order.ensures.1 given
    (manifest_answers tells c.in_ok-current.current.items number bytes c.in_ok-current.ensures.answer two three (Err e))

pub returns-clause-answer : goal.returns-clause-answer
returns-clause-answer g c =
    let tells = g.F.Folder.tells c.args.folder.now in
    let number = c.in_ok-number.number in
    let bytes = c.in_ok-manifest.manifest.items in
    let then = g.F.Folder.tells c.bytes_under.new.folder in
    let two = subst (λ (bytes : List ℕ). IsNumberAnswer bytes (Ok number)) c.deref.ensures.value c.in_ok-number.ensures in
    let named : c.as_str.result.now ≡ manifest_name number = c.as_str.ensures.value ∙ sym (ok_is (manifest_name number) (string_bytes c.in_ok-name.name) c.in_ok-name.ensures) in
    let three = held_before tells then (manifest_name number) c.as_str.result.now (Ok bytes) c.bytes_under.ensures.reads.same named c.in_ok-manifest.ensures.answer in
    let given = subst (λ (bytes : List ℕ). IsManifestAnswer number bytes (Ok (c.in_ok-order.order, c.in_ok-order.version))) c.deref-2.ensures.value c.in_ok-order.ensures in
    manifest_answers tells c.in_ok-current.current.items number bytes c.in_ok-current.ensures.answer two three (Ok (c.in_ok-order.order, c.in_ok-order.version)) given

pub returns-clause-named : goal.returns-clause-named
returns-clause-named g c =
    subst (λ (bytes : List ℕ). g.F.Folder.tells c.args.folder.now (codes "CURRENT") (Some bytes)) (subst (λ (bytes : List ℕ). IsNumberAnswer bytes (Ok c.in_ok-number.number)) c.deref.ensures.value c.in_ok-number.ensures).1 c.in_ok-current.ensures.answer

pub returns-clause-read : goal.returns-clause-read
returns-clause-read g c =
    let number = c.in_ok-number.number in
    let one = subst (λ (bytes : List ℕ). IsNumberAnswer bytes (Ok number)) c.deref.ensures.value c.in_ok-number.ensures in
    let named : c.as_str.result.now ≡ manifest_name number = c.as_str.ensures.value ∙ sym (ok_is (manifest_name number) (string_bytes c.in_ok-name.name) c.in_ok-name.ensures) in
    version_read c.args.folder.now c.bytes_under.new.folder c.bytes_under-2.new.folder c.in_ok-order.order c.in_ok-order.version number c.in_ok-current.current.items c.as_str.result.now c.in_ok-manifest.manifest.items
    c.in_ok-current.ensures.read one.1 c.bytes_under.ensures.reads.calls c.in_ok-manifest.ensures.read named
    (subst (λ (bytes : List ℕ). IsManifestAnswer number bytes (Ok (c.in_ok-order.order, c.in_ok-order.version))) c.deref-2.ensures.value c.in_ok-order.ensures)

pub returns-in_err-current-clause-reads : goal.returns-in_err-current-clause-reads
returns-in_err-current-clause-reads g c = c.bytes_under.ensures.reads

pub returns-in_err-current-clause-device : goal.returns-in_err-current-clause-device
returns-in_err-current-clause-device g c = reports_handed c.from_residual.result c.in_err-current.was c.bytes_under.ensures.device c.from_residual.ensures.1

pub returns-in_err-number-clause-reads : goal.returns-in_err-number-clause-reads
returns-in_err-number-clause-reads g c = c.bytes_under.ensures.reads

pub returns-in_err-number-clause-device : goal.returns-in_err-number-clause-device
returns-in_err-number-clause-device g c =
    let tells = g.F.Folder.tells c.args.folder.now in
    let failed = g.F.Folder.failed in
    reports_after c.from_residual-in_err-number.result c.in_ok-current.was c.bytes_under.ensures.device
    (device_failed (λ r. (r.order, r.version)) (failed c.args.folder.now) (failed c.bytes_under.new.folder) c.from_residual-in_err-number.result (IsOpened tells) (open_refused tells) (returns-in_err-number-clause-answer g c))

pub returns-in_err-name-clause-reads : goal.returns-in_err-name-clause-reads
returns-in_err-name-clause-reads g c = c.bytes_under.ensures.reads

pub returns-in_err-name-clause-device : goal.returns-in_err-name-clause-device
returns-in_err-name-clause-device g c = reports_after c.from_residual-in_err-name.result c.in_ok-current.was c.bytes_under.ensures.device (search rules)

pub returns-in_err-manifest-clause-reads : goal.returns-in_err-manifest-clause-reads
returns-in_err-manifest-clause-reads g c = reads_then c.bytes_under.ensures.reads c.bytes_under-2.ensures.reads

pub returns-in_err-manifest-clause-device : goal.returns-in_err-manifest-clause-device
returns-in_err-manifest-clause-device g c =
    reports_then c.in_ok-current.was c.bytes_under.ensures.device
    (reports_handed c.from_residual-in_err-manifest.result c.in_err-manifest.was c.bytes_under-2.ensures.device c.from_residual-in_err-manifest.ensures.1)

pub returns-in_err-order-clause-reads : goal.returns-in_err-order-clause-reads
returns-in_err-order-clause-reads g c = reads_then c.bytes_under.ensures.reads c.bytes_under-2.ensures.reads

pub returns-in_err-order-clause-device : goal.returns-in_err-order-clause-device
returns-in_err-order-clause-device g c =
    let tells = g.F.Folder.tells c.args.folder.now in
    let failed = g.F.Folder.failed in
    let made = reports_then c.in_ok-current.was c.bytes_under.ensures.device c.bytes_under-2.ensures.device in
    reports_after c.from_residual-in_err-order.result c.in_ok-manifest.was made
    (device_failed (λ r. (r.order, r.version)) (failed c.args.folder.now) (failed c.bytes_under-2.new.folder) c.from_residual-in_err-order.result (IsOpened tells) (open_refused tells) (returns-in_err-order-clause-answer g c))

pub returns-clause-reads : goal.returns-clause-reads
returns-clause-reads g c = reads_then c.bytes_under.ensures.reads c.bytes_under-2.ensures.reads

pub returns-clause-device : goal.returns-clause-device
returns-clause-device g c =
    let made = reports_then c.in_ok-current.was c.bytes_under.ensures.device c.bytes_under-2.ensures.device in
    reports_after _ c.in_ok-manifest.was made tt
