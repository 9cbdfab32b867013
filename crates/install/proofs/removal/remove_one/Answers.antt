use Rattle.folder.specs.Calls.{Removed}
use Rattle.folder.specs.declared.folder.FolderFault.{FolderFault}
use Rattle.install.proofs.Telling.{run_failed, run_removed}
use Rattle.install.proofs.removal.remove_one.Goals as goal

pub returns-in_err-remove-clause-run : goal.returns-in_err-remove-clause-run
returns-in_err-remove-clause-run g c =
    let calls = g.F.Folder.calls in
    let tells = g.F.Folder.tells in
    let a = c.args.folder.now in
    let b = c.remove.new.self in
    run_failed g.W.RemovalWatch.tells _ (Removed c.args.name.now) (calls a) (calls b) (tells a) (tells b) c.args.watch.now c.from_residual.result c.from_residual.ensures.1 c.in_err-remove.ensures.calls c.in_err-remove.ensures.change

pub returns-clause-run : goal.returns-clause-run
returns-clause-run g c =
    let calls = g.F.Folder.calls in
    let tells = g.F.Folder.tells in
    let a = c.args.folder.now in
    let b = c.remove.new.self in
    run_removed g.W.RemovalWatch.tells {E = FolderFault} c.args.name.now (calls a) (calls b) (tells a) (tells b) c.args.watch.now c.removed.new.self tt c.in_ok-remove.ensures.calls c.in_ok-remove.ensures.change c.removed.ensures
