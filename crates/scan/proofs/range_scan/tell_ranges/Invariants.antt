use Rattle.std.proofs.Common.{◌≡◌, ℕ, ◌+◌, ◌-◌, true, List, Option, length, map}
use Rattle.folder.specs.Calls.{Files, Tells}
use Rattle.folder.specs.Reports.{OnlyReads}
use Rattle.reads.specs.Ranges.{key_range}
use Rattle.reads.specs.Tables.{NumberedContents}
use Rattle.checks.specs.GroupTest.{AreTablesIn}
use Rattle.checks.specs.HeldTables.{AreHeldBy}
use Rattle.scan.specs.EntryRows.{rows_from, file_rows}
use Rattle.scan.specs.RowParts.{IsRowPart}
use Rattle.scan.specs.ToldRows.{telling_by}
use Rattle.scan.proofs.range_scan.tell_ranges.Given as goal

-- the rows of the ranges so far were told
abbrev pub invariant-loop-number : goal.invariant-loop-number
invariant-loop-number g l =
    let cmp = g.C.Comparator.cmp in
    let standing = map (λ f. f.now) l.rows.standing.now in
    let all = length l.split + 1 in
    record {
      told : (files : Files) (next : Option ℕ) (tables : List NumberedContents) → Tells (g.F.Folder.tells l.fn.folder) files → AreTablesIn cmp files next standing tables → AreHeldBy cmp (g.F.Folder.tells l.fn.folder) l.fn.held
          → IsRowPart (telling_by g.T.RowTaker.tells l.fn.taker l.taker) (rows_from (file_rows cmp tables standing l.rows.at) cmp (key_range l.rows.range) l.split 0 all) l.fn.rows.limit (rows_from (file_rows cmp tables standing l.rows.at) cmp (key_range l.rows.range) l.split l.number (all - l.number)) l.left true;
      held : AreHeldBy cmp (g.F.Folder.tells l.fn.folder) l.fn.held → AreHeldBy cmp (g.F.Folder.tells l.fn.folder) l.held;
      reads : OnlyReads g.F.Folder l.fn.folder l.folder;
      failures : g.F.Folder.failed l.folder ≡ g.F.Folder.failed l.fn.folder;
    }
