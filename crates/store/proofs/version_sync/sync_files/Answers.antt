use Rattle.std.proofs.Common.{◌+◌, ◌∷◌, [], Bor, ℕ, drop, map, refl, suc, take}
use Rattle.folder.specs.meta.FileMeta.{FileMeta}
use Rattle.store.specs.VersionSync.{table_syncs}
use Rattle.store.proofs.Runs.{run_handed, run_ok, run_same, run_then}
use Rattle.store.proofs.TableSyncs.{files_around, files_on}
use Rattle.store.proofs.version_sync.sync_files.Goals as goal

pub returns-in_err-sync_table : goal.returns-in_err-sync_table
returns-in_err-sync_table g c =
    let number : Bor FileMeta → ℕ = λ f. f.now.number in
    let files = c.args.files.now in
    let i = c.loop-file.file-index in
    let file = c.file-item.result in
    let r = c.from_residual.result in
    let front = table_syncs (map number (take i files)) in
    let one = table_syncs (number file ∷ []) in
    let rest = table_syncs (map number (drop (suc i) files)) in
    run_same _ (table_syncs (map number files)) c.args.folder.now c.sync_table.new.folder r (files_around number files i file c.loop-file-test.true c.file-item.is)
    (run_then front _ c.args.folder.now c.loop-file.folder c.sync_table.new.folder _ tt r refl c.loop-file.invariant
    (run_handed one rest c.loop-file.folder c.sync_table.new.folder c.sync_table.result c.in_err-sync_table.field-0.0 r c.in_err-sync_table.was c.from_residual.ensures.1 c.sync_table.ensures))

pub loop-file-preserved : goal.loop-file-preserved
loop-file-preserved g c =
    let number : Bor FileMeta → ℕ = λ f. f.now.number in
    let files = c.args.files.now in
    let i = c.loop-file.file-index in
    let file = c.file-item.result in
    let front = table_syncs (map number (take i files)) in
    let one = table_syncs (number file ∷ []) in
    run_same _ (table_syncs (map number (take (i + 1) files))) c.args.folder.now c.sync_table.new.folder _ (files_on number files i file c.loop-file-test.true c.file-item.is)
    (run_then front one c.args.folder.now c.loop-file.folder c.sync_table.new.folder _ tt _ refl c.loop-file.invariant
    (run_ok one c.loop-file.folder c.sync_table.new.folder c.sync_table.result c.in_ok-sync_table.field-0 tt c.in_ok-sync_table.was c.sync_table.ensures))
