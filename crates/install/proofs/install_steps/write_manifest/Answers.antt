use Rattle.std.proofs.Common.{◌≡◌, string_bytes, refl, sym, ◌∙◌}
use Rattle.edit.proofs.Binds.{ok_is}
use Rattle.folder.specs.Names.{manifest_name}
use Rattle.folder.proofs.RunLemmas.{runs_then}
use Rattle.install.specs.Install.{manifest_calls, temporary_calls, write_calls}
use Rattle.install.proofs.Parts.{hands_none, hands_stopped, runs_same, runs_whole, same_writes}
use Rattle.install.proofs.install_steps.write_manifest.Goals as goal

pub returns-in_err-name-clause-runs : goal.returns-in_err-name-clause-runs
returns-in_err-name-clause-runs g c =
    hands_none _ (manifest_calls c.args.number c.args.manifest.now) (g.F.Folder.calls c.args.folder.now) (g.F.Folder.tells c.args.folder.now) c.from_residual.result c.from_residual.ensures.1

pub returns-in_err-write-clause-runs : goal.returns-in_err-write-clause-runs
returns-in_err-write-clause-runs g c =
    let calls = g.F.Folder.calls in
    let tells = g.F.Folder.tells in
    let n = c.args.number in
    let a = c.args.folder.now in
    let b = c.write.new.folder in
    let named : c.as_str.result.now ≡ manifest_name n = c.as_str.ensures.value ∙ sym (ok_is (manifest_name n) (string_bytes c.in_ok-name.name) c.in_ok-name.ensures) in
    let one = write_calls (manifest_name n) c.args.manifest.now in
    hands_stopped _ one (temporary_calls n) (calls a) (calls b) (tells a) (tells b) c.in_err-write.field-0.0 c.from_residual-in_err-write.result c.from_residual-in_err-write.ensures.1
    (runs_same (write_calls c.as_str.result.now c.args.manifest.now) one (calls a) (calls b) (tells a) (tells b) _ (same_writes _ _ _ _ named refl) c.in_err-write.ensures.runs)

pub returns-clause-runs : goal.returns-clause-runs
returns-clause-runs g c =
    let calls = g.F.Folder.calls in
    let tells = g.F.Folder.tells in
    let n = c.args.number in
    let a = c.args.folder.now in
    let b = c.write.new.folder in
    let d = c.write_temporary.new.folder in
    let named : c.as_str.result.now ≡ manifest_name n = c.as_str.ensures.value ∙ sym (ok_is (manifest_name n) (string_bytes c.in_ok-name.name) c.in_ok-name.ensures) in
    let one = write_calls (manifest_name n) c.args.manifest.now in
    runs_then one (temporary_calls n) (calls a) (calls b) (calls d) (tells a) (tells b) (tells d) tt c.write_temporary.result
    (runs_whole one (calls a) (calls b) (tells a) (tells b) _ (runs_same (write_calls c.as_str.result.now c.args.manifest.now) one (calls a) (calls b) (tells a) (tells b) _ (same_writes _ _ _ _ named refl) c.in_ok-write.ensures.runs))
    c.write_temporary.ensures.runs
