use Rattle.std.proofs.Common.{◌≡◌, ℕ, List, Option, length, map}
use Rattle.folder.specs.Calls.{Files, Tells}
use Rattle.folder.specs.Reports.{OnlyReads}
use Rattle.reads.specs.Tables.{NumberedContents}
use Rattle.checks.specs.HeldTables.{AreHeldBy}
use Rattle.scan.specs.Counts.{capped_files}
use Rattle.scan.specs.LevelCounts.{AreLevelsIn, lists_of_levels}
use Rattle.scan.proofs.LevelRanges.{AreCountedTo}
use Rattle.scan.proofs.range_counts.count_ranges.Given as goal

-- the entries of the ranges so far are counted
abbrev pub invariant-loop-number : goal.invariant-loop-number
invariant-loop-number g l =
    let cmp = g.C.Comparator.cmp in
    let levels = map (λ fs. map (λ f. f.now) fs.items) l.levels in
    record {
      number : length l.amounts.items ≡ length l.levels;
      counted : (files : Files) (next : Option ℕ) (tables : List NumberedContents) → Tells (g.F.Folder.tells l.fn.folder) files → AreLevelsIn cmp files next levels tables → AreHeldBy cmp (g.F.Folder.tells l.fn.folder) l.fn.held
          → AreCountedTo cmp l.split l.last (lists_of_levels tables levels) (map capped_files levels) l.number l.amounts.items;
      held : AreHeldBy cmp (g.F.Folder.tells l.fn.folder) l.fn.held → AreHeldBy cmp (g.F.Folder.tells l.fn.folder) l.held;
      reads : OnlyReads g.F.Folder l.fn.folder l.folder;
      failures : g.F.Folder.failed l.folder ≡ g.F.Folder.failed l.fn.folder;
    }
