use Rattle.std.proofs.Common.{◌≡◌, length, rules}
use Rattle.folder.specs.declared.folder.FolderFault.{FolderFault}
use Rattle.install.proofs.ObsoleteNames.{no_texts, some_texts, texts}
use Rattle.install.proofs.Telling.{all_handed, all_synced, none_removed, run_synced}
use Rattle.install.proofs.removal.remove_all.Goals as goal

pub returns-in_err-remove_each-clause-run : goal.returns-in_err-remove_each-clause-run
returns-in_err-remove_each-clause-run g c =
    let calls = g.F.Folder.calls in
    let tells = g.F.Folder.tells in
    let a = c.args.folder.now in
    let b = c.remove_each.new.folder in
    all_handed g.W.RemovalWatch.tells _ (texts c.args.names.now) (calls a) (calls b) (tells a) (tells b) c.args.watch.now c.remove_each.new.watch c.in_err-remove_each.field-0.0 c.from_residual.result c.from_residual.ensures.1 c.in_err-remove_each.ensures.run

pub returns-then-is_empty-clause-run : goal.returns-then-is_empty-clause-run
returns-then-is_empty-clause-run g c =
    let calls = g.F.Folder.calls in
    let tells = g.F.Folder.tells in
    let a = c.args.folder.now in
    let b = c.remove_each.new.folder in
    let none' : length c.args.names.now ≡ 0 = search rules in
    none_removed g.W.RemovalWatch.tells {E = FolderFault} {G = FolderFault} (texts c.args.names.now) (calls a) (calls b) (tells a) (tells b) c.args.watch.now c.remove_each.new.watch c.in_ok-remove_each.field-0 tt (no_texts c.args.names.now none') c.in_ok-remove_each.ensures.run

pub returns-clause-run : goal.returns-clause-run
returns-clause-run g c =
    let calls = g.F.Folder.calls in
    let tells = g.F.Folder.tells in
    let a = c.args.folder.now in
    let b = c.remove_each.new.folder in
    let d = c.sync_folder.new.self in
    let some : length c.args.names.now ≡ 0 → ⊥ = search rules in
    all_synced g.W.RemovalWatch.tells {E = FolderFault} (texts c.args.names.now) (calls a) (calls b) (calls d) (tells a) (tells b) (tells d) c.args.watch.now c.remove_each.new.watch c.remove_each.new.watch c.in_ok-remove_each.field-0 c.sync_folder.result
    (some_texts c.args.names.now some) c.in_ok-remove_each.ensures.run
    (run_synced g.W.RemovalWatch.tells (calls b) (calls d) (tells b) (tells d) c.remove_each.new.watch c.sync_folder.result c.sync_folder.ensures.calls c.sync_folder.ensures.change)
