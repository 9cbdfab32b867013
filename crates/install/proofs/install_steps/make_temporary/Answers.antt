use Rattle.std.proofs.Common.{◌≡◌, ◌∷◌, [], string_bytes, sym, ◌∙◌}
use Rattle.edit.proofs.Binds.{ok_is}
use Rattle.folder.specs.Calls.{FolderSynced}
use Rattle.folder.specs.Names.{current_text, temporary_name}
use Rattle.folder.proofs.RunLemmas.{runs_one, runs_then}
use Rattle.install.specs.Install.{write_calls}
use Rattle.install.proofs.Parts.{hands_stopped, runs_same, runs_whole, same_writes}
use Rattle.install.proofs.install_steps.make_temporary.Goals as goal

pub returns-in_err-write-clause-runs : goal.returns-in_err-write-clause-runs
returns-in_err-write-clause-runs g c =
    let calls = g.F.Folder.calls in
    let tells = g.F.Folder.tells in
    let n = c.args.number in
    let named : c.as_str.result.now ≡ temporary_name n = c.as_str.ensures.value ∙ sym (ok_is (temporary_name n) (string_bytes c.in_ok-name.name) c.in_ok-name.ensures) in
    let texted : c.as_bytes.result.now ≡ current_text n = c.as_bytes.ensures.value ∙ sym (ok_is (current_text n) (string_bytes c.in_ok-text.text) c.in_ok-text.ensures) in
    hands_stopped _ (write_calls (temporary_name n) (current_text n)) (FolderSynced ∷ []) (calls c.args.folder.now) (calls c.write.new.folder) (tells c.args.folder.now) (tells c.write.new.folder) c.in_err-write.field-0.0 c.from_residual-in_err-write.result c.from_residual-in_err-write.ensures.1
    (runs_same (write_calls c.as_str.result.now c.as_bytes.result.now) _ (calls c.args.folder.now) (calls c.write.new.folder) (tells c.args.folder.now) (tells c.write.new.folder) _ (same_writes _ _ _ _ named texted) c.in_err-write.ensures.runs)

pub returns-in_err-sync_folder-clause-runs : goal.returns-in_err-sync_folder-clause-runs
returns-in_err-sync_folder-clause-runs g c =
    let calls = g.F.Folder.calls in
    let tells = g.F.Folder.tells in
    let n = c.args.number in
    let named : c.as_str.result.now ≡ temporary_name n = c.as_str.ensures.value ∙ sym (ok_is (temporary_name n) (string_bytes c.in_ok-name.name) c.in_ok-name.ensures) in
    let texted : c.as_bytes.result.now ≡ current_text n = c.as_bytes.ensures.value ∙ sym (ok_is (current_text n) (string_bytes c.in_ok-text.text) c.in_ok-text.ensures) in
    let one = write_calls (temporary_name n) (current_text n) in
    runs_then one (FolderSynced ∷ []) (calls c.args.folder.now) (calls c.write.new.folder) (calls c.sync_folder.new.self) (tells c.args.folder.now) (tells c.write.new.folder) (tells c.sync_folder.new.self) tt c.from_residual-in_err-sync_folder.result
    (runs_whole one (calls c.args.folder.now) (calls c.write.new.folder) (tells c.args.folder.now) (tells c.write.new.folder) _ (runs_same (write_calls c.as_str.result.now c.as_bytes.result.now) one (calls c.args.folder.now) (calls c.write.new.folder) (tells c.args.folder.now) (tells c.write.new.folder) _ (same_writes _ _ _ _ named texted) c.in_ok-write.ensures.runs))
    (hands_stopped {T = Unit {0}} _ (FolderSynced ∷ []) [] (calls c.write.new.folder) (calls c.sync_folder.new.self) (tells c.write.new.folder) (tells c.sync_folder.new.self) c.in_err-sync_folder.field-0.0 c.from_residual-in_err-sync_folder.result c.from_residual-in_err-sync_folder.ensures.1
    (runs_one FolderSynced (calls c.write.new.folder) (calls c.sync_folder.new.self) (tells c.write.new.folder) (tells c.sync_folder.new.self) _ c.in_err-sync_folder.ensures.calls c.in_err-sync_folder.ensures.change))

pub returns-clause-runs : goal.returns-clause-runs
returns-clause-runs g c =
    let calls = g.F.Folder.calls in
    let tells = g.F.Folder.tells in
    let n = c.args.number in
    let named : c.as_str.result.now ≡ temporary_name n = c.as_str.ensures.value ∙ sym (ok_is (temporary_name n) (string_bytes c.in_ok-name.name) c.in_ok-name.ensures) in
    let texted : c.as_bytes.result.now ≡ current_text n = c.as_bytes.ensures.value ∙ sym (ok_is (current_text n) (string_bytes c.in_ok-text.text) c.in_ok-text.ensures) in
    let one = write_calls (temporary_name n) (current_text n) in
    runs_then one (FolderSynced ∷ []) (calls c.args.folder.now) (calls c.write.new.folder) (calls c.sync_folder.new.self) (tells c.args.folder.now) (tells c.write.new.folder) (tells c.sync_folder.new.self) tt _
    (runs_whole one (calls c.args.folder.now) (calls c.write.new.folder) (tells c.args.folder.now) (tells c.write.new.folder) _ (runs_same (write_calls c.as_str.result.now c.as_bytes.result.now) one (calls c.args.folder.now) (calls c.write.new.folder) (tells c.args.folder.now) (tells c.write.new.folder) _ (same_writes _ _ _ _ named texted) c.in_ok-write.ensures.runs))
    (runs_whole {T = Unit {0}} (FolderSynced ∷ []) (calls c.write.new.folder) (calls c.sync_folder.new.self) (tells c.write.new.folder) (tells c.sync_folder.new.self) tt
    (runs_one FolderSynced (calls c.write.new.folder) (calls c.sync_folder.new.self) (tells c.write.new.folder) (tells c.sync_folder.new.self) _ c.in_ok-sync_folder.ensures.calls c.in_ok-sync_folder.ensures.change))
