use Rattle.std.proofs.Common.{◌≡◌, ◌∷◌, [], ◌++◌, ℕ, List, codes, refl, string_bytes, subst, sym, ◌∙◌}
use Rattle.folder.proofs.Binds.{ok_is}
use Rattle.folder.proofs.RunLemmas.{runs_one}
use Rattle.folder.specs.CallSequence.{MakesCalls}
use Rattle.folder.specs.Calls.{FolderSynced, Synced}
use Rattle.folder.specs.Levels.{file_numbers}
use Rattle.folder.specs.Names.{manifest_name}
use Rattle.folder.specs.Orders.{order_cmp}
use Rattle.store.specs.VersionSync.{table_syncs}
use Rattle.store.proofs.Runs.{run_done, run_failed, run_handed, run_then}
use Rattle.store.proofs.version_sync.make_syncs.Goals as goal

pub returns-in_err-sync_both : goal.returns-in_err-sync_both
returns-in_err-sync_both g c =
    let calls = g.F.Folder.calls in
    let tells = g.F.Folder.tells in
    let o = c.args.opened.now in
    let a = c.args.folder.now in
    let b = c.sync_both.new.folder in
    let named : c.as_str.result.now ≡ manifest_name o.manifest = c.as_str.ensures.value ∙ sym (ok_is (manifest_name o.manifest) (string_bytes c.in_ok-manifest.manifest) c.in_ok-manifest.ensures) in
    run_failed (Synced (codes "CURRENT") ∷ Synced (manifest_name o.manifest) ∷ []) (table_syncs (file_numbers (order_cmp o.order) o.version) ++ FolderSynced ∷ []) a b
    c.sync_both.result c.in_err-sync_both.field-0.0 c.from_residual-in_err-sync_both.result c.in_err-sync_both.was c.from_residual-in_err-sync_both.ensures.1 c.sync_both.ensures.failures
    (subst (λ (n : List ℕ). MakesCalls (Synced (codes "CURRENT") ∷ Synced n ∷ []) (calls a) (calls b) (tells a) (tells b) c.sync_both.result) named c.sync_both.ensures.runs)

pub returns-in_err-sync_tables : goal.returns-in_err-sync_tables
returns-in_err-sync_tables g c =
    let calls = g.F.Folder.calls in
    let tells = g.F.Folder.tells in
    let o = c.args.opened.now in
    let a = c.args.folder.now in
    let b = c.sync_both.new.folder in
    let d = c.sync_tables.new.folder in
    let r = c.from_residual-in_err-sync_tables.result in
    let named : c.as_str.result.now ≡ manifest_name o.manifest = c.as_str.ensures.value ∙ sym (ok_is (manifest_name o.manifest) (string_bytes c.in_ok-manifest.manifest) c.in_ok-manifest.ensures) in
    let front = Synced (codes "CURRENT") ∷ Synced (manifest_name o.manifest) ∷ [] in
    let syncs = table_syncs (file_numbers (order_cmp o.order) o.version) in
    run_then {Y = Unit {0}} front (syncs ++ FolderSynced ∷ []) a b d _ tt r refl
    (run_done front a b c.sync_both.result c.in_ok-sync_both.field-0 tt c.in_ok-sync_both.was c.sync_both.ensures.failures
    (subst (λ (n : List ℕ). MakesCalls (Synced (codes "CURRENT") ∷ Synced n ∷ []) (calls a) (calls b) (tells a) (tells b) c.sync_both.result) named c.sync_both.ensures.runs))
    (run_handed syncs (FolderSynced ∷ []) b d c.sync_tables.result c.in_err-sync_tables.field-0.0 r c.in_err-sync_tables.was c.from_residual-in_err-sync_tables.ensures.1 c.sync_tables.ensures)

pub returns-in_err-sync_folder : goal.returns-in_err-sync_folder
returns-in_err-sync_folder g c =
    let calls = g.F.Folder.calls in
    let tells = g.F.Folder.tells in
    let o = c.args.opened.now in
    let a = c.args.folder.now in
    let b = c.sync_both.new.folder in
    let d = c.sync_tables.new.folder in
    let e = c.sync_folder.new.self in
    let r = c.from_residual-in_err-sync_folder.result in
    let named : c.as_str.result.now ≡ manifest_name o.manifest = c.as_str.ensures.value ∙ sym (ok_is (manifest_name o.manifest) (string_bytes c.in_ok-manifest.manifest) c.in_ok-manifest.ensures) in
    let front = Synced (codes "CURRENT") ∷ Synced (manifest_name o.manifest) ∷ [] in
    let syncs = table_syncs (file_numbers (order_cmp o.order) o.version) in
    run_then {Y = Unit {0}} front (syncs ++ FolderSynced ∷ []) a b e _ tt r refl
    (run_done front a b c.sync_both.result c.in_ok-sync_both.field-0 tt c.in_ok-sync_both.was c.sync_both.ensures.failures
    (subst (λ (n : List ℕ). MakesCalls (Synced (codes "CURRENT") ∷ Synced n ∷ []) (calls a) (calls b) (tells a) (tells b) c.sync_both.result) named c.sync_both.ensures.runs))
    (run_then syncs (FolderSynced ∷ []) b d e c.sync_tables.result c.in_ok-sync_tables.field-0 r c.in_ok-sync_tables.was c.sync_tables.ensures
    (run_failed (FolderSynced ∷ []) [] d e c.sync_folder.result c.in_err-sync_folder.field-0.0 r c.in_err-sync_folder.was c.from_residual-in_err-sync_folder.ensures.1 c.sync_folder.ensures.failures
    (runs_one FolderSynced (calls d) (calls e) (tells d) (tells e) c.sync_folder.result c.sync_folder.ensures.calls c.sync_folder.ensures.change)))

pub returns : goal.returns
returns g c =
    let calls = g.F.Folder.calls in
    let tells = g.F.Folder.tells in
    let o = c.args.opened.now in
    let a = c.args.folder.now in
    let b = c.sync_both.new.folder in
    let d = c.sync_tables.new.folder in
    let e = c.sync_folder.new.self in
    let named : c.as_str.result.now ≡ manifest_name o.manifest = c.as_str.ensures.value ∙ sym (ok_is (manifest_name o.manifest) (string_bytes c.in_ok-manifest.manifest) c.in_ok-manifest.ensures) in
    let front = Synced (codes "CURRENT") ∷ Synced (manifest_name o.manifest) ∷ [] in
    let syncs = table_syncs (file_numbers (order_cmp o.order) o.version) in
    run_then {Y = Unit {0}} front (syncs ++ FolderSynced ∷ []) a b e _ tt _ refl
    (run_done front a b c.sync_both.result c.in_ok-sync_both.field-0 tt c.in_ok-sync_both.was c.sync_both.ensures.failures
    (subst (λ (n : List ℕ). MakesCalls (Synced (codes "CURRENT") ∷ Synced n ∷ []) (calls a) (calls b) (tells a) (tells b) c.sync_both.result) named c.sync_both.ensures.runs))
    (run_then syncs (FolderSynced ∷ []) b d e c.sync_tables.result c.in_ok-sync_tables.field-0 _ c.in_ok-sync_tables.was c.sync_tables.ensures
    (run_done (FolderSynced ∷ []) d e c.sync_folder.result c.in_ok-sync_folder.field-0 tt c.in_ok-sync_folder.was c.sync_folder.ensures.failures
    (runs_one FolderSynced (calls d) (calls e) (tells d) (tells e) c.sync_folder.result c.sync_folder.ensures.calls c.sync_folder.ensures.change)))
