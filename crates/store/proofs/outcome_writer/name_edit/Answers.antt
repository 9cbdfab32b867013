use Rattle.std.proofs.Common.{[], ◌∷◌, codes}
use Rattle.folder.specs.Calls.{FolderSynced, Renamed}
use Rattle.folder.specs.declared.folder.FolderFault.{FolderFault}
use Rattle.folder.proofs.RunLemmas.{runs_one, runs_then}
use Rattle.store.proofs.outcome_writer.name_edit.Goals as goal

pub returns-clause-runs : goal.returns-clause-runs
returns-clause-runs g c =
    let calls = g.F.Folder.calls in
    let tells = g.F.Folder.tells in
    let a = c.args.folder.now in
    let b = c.sync_folder.new.self in
    let d = c.rename_edit.new.folder in
    runs_then {E = FolderFault} (FolderSynced ∷ []) (Renamed (codes "EDIT.dbtmp") (codes "EDIT") ∷ FolderSynced ∷ []) (calls a) (calls b) (calls d) (tells a) (tells b) (tells d) c.in_ok-sync_folder.field-0 c.rename_edit.result
    (runs_one FolderSynced (calls a) (calls b) (tells a) (tells b) _ c.in_ok-sync_folder.ensures.calls c.in_ok-sync_folder.ensures.change) c.rename_edit.ensures.runs
