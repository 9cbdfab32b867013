use Rattle.std.proofs.Common.{[], ◌∷◌, codes}
use Rattle.folder.specs.Calls.{FolderSynced, Renamed}
use Rattle.folder.specs.declared.folder.FolderFault.{FolderFault}
use Rattle.folder.proofs.RunLemmas.{runs_one, runs_then}
use Rattle.store.proofs.outcome_writer.rename_edit.Goals as goal

pub returns-clause-runs : goal.returns-clause-runs
returns-clause-runs g c =
    let calls = g.F.Folder.calls in
    let tells = g.F.Folder.tells in
    let a = c.args.folder.now in
    let b = c.rename.new.self in
    let d = c.sync_folder.new.self in
    let named = Renamed (codes "EDIT.dbtmp") (codes "EDIT") in
    runs_then {E = FolderFault} (named ∷ []) (FolderSynced ∷ []) (calls a) (calls b) (calls d) (tells a) (tells b) (tells d) c.in_ok-rename.field-0 c.sync_folder.result
    (runs_one named (calls a) (calls b) (tells a) (tells b) _ c.in_ok-rename.ensures.calls c.in_ok-rename.ensures.change)
    (runs_one FolderSynced (calls b) (calls d) (tells b) (tells d) c.sync_folder.result c.sync_folder.ensures.calls c.sync_folder.ensures.change)
