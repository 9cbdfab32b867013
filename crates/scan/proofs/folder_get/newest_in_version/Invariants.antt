use Rattle.std.proofs.Common.{◌≡◌, List}
use Rattle.folder.specs.Reports.{OnlyReads}
use Rattle.table.specs.Key.{user_of, sequence_of}
use Rattle.reads.specs.Lawful.{IsLawful}
use Rattle.reads.specs.Tables.{NumberedContents}
use Rattle.reads.proofs.Versions.{NoneBefore}
use Rattle.scan.specs.FolderTables.{HoldTables}
use Rattle.scan.proofs.folder_get.newest_in_version.Given as goal

-- no entry of the levels so far is visible
abbrev pub invariant-loop-level : goal.invariant-loop-level
invariant-loop-level g l =
    let failed = g.F.Folder.failed in
    record {
      none : (tables : List NumberedContents) → HoldTables (g.F.Folder.tells l.fn.folder) tables → IsLawful g.C.Comparator.cmp l.version tables
          → NoneBefore tables l.version.files (user_of l.target.bytes.now) (sequence_of l.target.bytes.now) l.level;
      reads : OnlyReads g.F.Folder l.fn.folder l.folder;
      failures : failed l.folder ≡ failed l.fn.folder;
    }
