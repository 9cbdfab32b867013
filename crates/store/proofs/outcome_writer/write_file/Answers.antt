use Rattle.std.proofs.Common.{◌∷◌, []}
use Rattle.folder.specs.Calls.{Created, Synced}
use Rattle.folder.specs.declared.folder.FolderFault.{FolderFault}
use Rattle.folder.proofs.RunLemmas.{runs_one, runs_then}
use Rattle.store.proofs.outcome_writer.write_file.Goals as goal

pub returns-clause-runs : goal.returns-clause-runs
returns-clause-runs g c =
    let calls = g.F.Folder.calls in
    let tells = g.F.Folder.tells in
    let a = c.args.folder.now in
    let b = c.create.new.self in
    let d = c.sync.new.self in
    let name = c.args.name.now in
    let bytes = c.args.bytes.now in
    runs_then {E = FolderFault} (Created name bytes ∷ []) (Synced name ∷ []) (calls a) (calls b) (calls d) (tells a) (tells b) (tells d) c.in_ok-create.field-0 c.sync.result
    (runs_one (Created name bytes) (calls a) (calls b) (tells a) (tells b) _ c.in_ok-create.ensures.calls c.in_ok-create.ensures.change)
    (runs_one (Synced name) (calls b) (calls d) (tells b) (tells d) c.sync.result c.sync.ensures.calls c.sync.ensures.change)
