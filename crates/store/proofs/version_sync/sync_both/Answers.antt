use Rattle.std.proofs.Common.{◌∷◌, []}
use Rattle.folder.specs.Calls.{Synced}
use Rattle.folder.specs.declared.folder.FolderFault.{FolderFault}
use Rattle.folder.proofs.RunLemmas.{runs_one, runs_then}
use Rattle.store.proofs.version_sync.sync_both.Goals as goal

pub returns-clause-runs : goal.returns-clause-runs
returns-clause-runs g c =
    let calls = g.F.Folder.calls in
    let tells = g.F.Folder.tells in
    let a = c.args.folder.now in
    let b = c.sync.new.self in
    let d = c.sync-2.new.self in
    let one = Synced c.args.first.now in
    let two = Synced c.args.second.now in
    runs_then {E = FolderFault} (one ∷ []) (two ∷ []) (calls a) (calls b) (calls d) (tells a) (tells b) (tells d) c.in_ok-sync.field-0 c.sync-2.result
    (runs_one one (calls a) (calls b) (tells a) (tells b) _ c.in_ok-sync.ensures.calls c.in_ok-sync.ensures.change)
    (runs_one two (calls b) (calls d) (tells b) (tells d) c.sync-2.result c.sync-2.ensures.calls c.sync-2.ensures.change)
