use Rattle.std.proofs.Common.{◌≡◌, map, take}
use Rattle.folder.specs.Calls.{Files, Tells}
use Rattle.folder.specs.Reports.{OnlyReads}
use Rattle.reads.specs.FileList.{level_file_in}
use Rattle.faults.specs.Findings.{found_file, found_in}
use Rattle.faults.proofs.table_test.tested_files.Given as goal

-- those so far were tested
abbrev pub invariant-loop-file : goal.invariant-loop-file
invariant-loop-file g l =
    let tells = g.F.Folder.tells in
    let failed = g.F.Folder.failed in
    record {
      found : (held : Files) → Tells (tells l.fn.folder) held → map found_in l.tested.items ≡ map (found_file g.C.Comparator.cmp held) (map level_file_in (take l.file-index l.files));
      files : map (λ t. level_file_in t.file) l.tested.items ≡ map level_file_in (take l.file-index l.files);
      reads : OnlyReads g.F.Folder l.fn.folder l.folder;
      failures : failed l.folder ≡ failed l.fn.folder;
    }
