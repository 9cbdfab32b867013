use Rattle.std.proofs.Common.{◌≡◌, Ok, map, take}
use Rattle.folder.specs.Calls.{Removed}
use Rattle.folder.specs.declared.folder.FolderFault.{FolderFault}
use Rattle.install.specs.Removal.{IsToldRemoval}
use Rattle.install.proofs.Changes.{change_by}
use Rattle.install.proofs.removal.remove_each.Given as goal

-- the files of the names so far were removed, and told
abbrev pub invariant-loop-name : goal.invariant-loop-name
invariant-loop-name g l =
    let calls = g.F.Folder.calls in
    let tells = g.F.Folder.tells in
    record {
      run : IsToldRemoval {T = Unit {0}} {E = FolderFault} g.W.RemovalWatch.tells (map Removed (map (λ n. n.now) (take l.name-index l.names))) (change_by (calls l.fn.folder) (calls l.folder) (tells l.fn.folder) (tells l.folder)) l.fn.watch l.watch (Ok tt);
      failures : g.F.Folder.failed l.folder ≡ g.F.Folder.failed l.fn.folder;
    }
