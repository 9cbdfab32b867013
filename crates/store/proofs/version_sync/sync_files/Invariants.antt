use Rattle.std.proofs.Common.{map, take}
use Rattle.store.specs.VersionSync.{table_syncs}
use Rattle.store.proofs.Runs.{IsWholeRun}
use Rattle.store.proofs.version_sync.sync_files.Given as goal

-- the tables of the files so far were synced
abbrev pub invariant-loop-file : goal.invariant-loop-file
invariant-loop-file g l = IsWholeRun g.F.Folder (table_syncs (map (λ f. f.now.number) (take l.file-index l.files))) l.fn.folder l.folder
