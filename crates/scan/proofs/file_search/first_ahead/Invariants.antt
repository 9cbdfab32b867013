use Rattle.std.proofs.Common.{◌≡◌, ℕ, List, length}
use Rattle.std.specs.List.{AllByRecursion}
use Rattle.folder.specs.Reports.{OnlyReads}
use Rattle.table.specs.IndexWalk.{NamesBlock}
use Rattle.scan.specs.SearchAnswers.{IsFileOfBytes}
use Rattle.scan.proofs.IndexAhead.{Ahead}
use Rattle.scan.proofs.file_search.first_ahead.Given as goal

-- nothing was found in the blocks so far
abbrev pub invariant-names : goal.invariant-names
invariant-names g l =
    let cmp = g.C.Comparator.cmp in
    let failed = g.F.Folder.failed in
    record {
      ahead : (bytes : List ℕ) → IsFileOfBytes (g.F.Folder.tells l.fn.folder) l.file bytes → AllByRecursion (NamesBlock cmp bytes) l.initial.index → Ahead cmp bytes l.target.bytes.now l.initial.index l.index;
      reads : OnlyReads g.F.Folder l.fn.folder l.folder;
      failures : failed l.folder ≡ failed l.fn.folder;
    }

abbrev pub decreases-names : goal.decreases-names
decreases-names g l = length l.index
