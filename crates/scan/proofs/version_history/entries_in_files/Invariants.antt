use Rattle.std.proofs.Common.{◌≡◌, List, map, take}
use Rattle.std.specs.List.{All, IsDistinct}
use Rattle.folder.specs.Reports.{OnlyReads}
use Rattle.reads.specs.FileList.{level_file_in, same_file}
use Rattle.reads.specs.Lawful.{IsFileOf}
use Rattle.reads.specs.Tables.{NumberedContents}
use Rattle.scan.specs.FolderTables.{HoldTables}
use Rattle.scan.specs.KeyHistory.{ArePlaced}
use Rattle.scan.specs.PlacedEntries.{same_place}
use Rattle.scan.proofs.version_history.entries_in_files.Given as goal

-- the entries of the files so far were found
abbrev pub invariant-loop-file : goal.invariant-loop-file
invariant-loop-file g l =
    let failed = g.F.Folder.failed in
    record {
      placed : (tables : List NumberedContents) → HoldTables (g.F.Folder.tells l.fn.folder) tables → All (λ f. IsFileOf g.C.Comparator.cmp tables f.meta.now) l.files → IsDistinct same_file (map level_file_in l.files)
          → ArePlaced l.user tables (map level_file_in (take l.file-index l.files)) l.found.items × IsDistinct same_place l.found.items;
      reads : OnlyReads g.F.Folder l.fn.folder l.folder;
      failures : failed l.folder ≡ failed l.fn.folder;
    }
