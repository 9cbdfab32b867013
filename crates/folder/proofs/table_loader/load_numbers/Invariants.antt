use Rattle.std.proofs.Common.{◌≡◌, map, take}
use Rattle.std.specs.List.{AllZip}
use Rattle.folder.specs.LoadedTables.{IsTableOf}
use Rattle.folder.specs.Reports.{OnlyReads}
use Rattle.folder.proofs.table_loader.load_numbers.Given as goal

-- the tables so far are those of the numbers so far
abbrev pub invariant-loop-number : goal.invariant-loop-number
invariant-loop-number g l =
    let tells = g.F.Folder.tells in
    let failed = g.F.Folder.failed in
    record {
      read : AllZip (IsTableOf (tells l.fn.folder)) (take l.number-index l.numbers) (map (λ t. (t.0, t.1.items)) l.tables.items);
      reads : OnlyReads g.F.Folder l.fn.folder l.folder;
      failures : failed l.folder ≡ failed l.fn.folder;
    }
