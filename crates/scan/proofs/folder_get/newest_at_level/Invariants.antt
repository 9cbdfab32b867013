use Rattle.std.proofs.Common.{◌≡◌, List, take}
use Rattle.std.specs.List.{All, flat_map}
use Rattle.std.specs.Option.{option_map}
use Rattle.folder.specs.Reports.{OnlyReads}
use Rattle.table.specs.Key.{user_of, sequence_of}
use Rattle.reads.specs.Lawful.{IsFileOf}
use Rattle.reads.specs.Tables.{NumberedContents, table_entries}
use Rattle.reads.specs.Visible.{IsAnswer, visible_of}
use Rattle.scan.specs.FolderTables.{HoldTables}
use Rattle.scan.proofs.folder_get.newest_at_level.Given as goal

-- the newest so far is that of the files so far
abbrev pub invariant-loop-file : goal.invariant-loop-file
invariant-loop-file g l =
    let failed = g.F.Folder.failed in
    record {
      newest : (tables : List NumberedContents) → HoldTables (g.F.Folder.tells l.fn.folder) tables → All (λ f. IsFileOf g.C.Comparator.cmp tables f.now) l.files
          → IsAnswer (flat_map (λ f. table_entries tables f.now.number) (take l.file-index l.files)) (user_of l.target.bytes.now) (sequence_of l.target.bytes.now) (option_map visible_of l.newest);
      reads : OnlyReads g.F.Folder l.fn.folder l.folder;
      failures : failed l.folder ≡ failed l.fn.folder;
    }
