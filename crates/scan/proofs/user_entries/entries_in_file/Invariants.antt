use Rattle.std.proofs.Common.{◌≡◌, List}
use Rattle.folder.specs.Reports.{OnlyReads}
use Rattle.reads.specs.Lawful.{IsFileOf}
use Rattle.reads.specs.Tables.{NumberedContents, table_entries}
use Rattle.scan.specs.FolderTables.{HoldTables}
use Rattle.scan.proofs.HistorySteps.{AreWalked, NextFits, left_of}
use Rattle.scan.proofs.user_entries.entries_in_file.Given as goal

-- the newer entries were found
abbrev pub invariant-older : goal.invariant-older
invariant-older g l =
    let failed = g.F.Folder.failed in
    record {
      fits : NextFits l.next;
      walked : (tables : List NumberedContents) → HoldTables (g.F.Folder.tells l.fn.folder) tables → IsFileOf g.C.Comparator.cmp tables l.file
          → AreWalked l.user (table_entries tables l.file.number) l.next l.found.items;
      reads : OnlyReads g.F.Folder l.fn.folder l.folder;
      failures : failed l.folder ≡ failed l.fn.folder;
    }

abbrev pub decreases-older : goal.decreases-older
decreases-older g l = left_of l.next
