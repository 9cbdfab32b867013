use Rattle.std.proofs.Common.{◌≡◌, ℕ, List, length}
use Rattle.folder.specs.Calls.{Files, Tells}
use Rattle.folder.specs.Reports.{OnlyReads}
use Rattle.checks.specs.InOrder.{AreCheckedSoFar, IsFirstRefusal}
use Rattle.checks.proofs.first_refusal.check_in_order.Given as goal

-- the tables so far are read, and their first refusal is known
abbrev pub invariant-loop-rest : goal.invariant-loop-rest
invariant-loop-rest g l =
    let tells = g.F.Folder.tells in
    let failed = g.F.Folder.failed in
    record {
      so_far : (files : Files) → Tells (tells l.fn.folder) files → AreCheckedSoFar g.C.Comparator.cmp files l.fn.numbers l.rest l.first;
      some : (before : List (ℕ × List ℕ)) × IsFirstRefusal g.C.Comparator.cmp before l.first;
      reads : OnlyReads g.F.Folder l.fn.folder l.folder;
      failures : failed l.folder ≡ failed l.fn.folder;
    }

abbrev pub decreases-loop-rest : goal.decreases-loop-rest
decreases-loop-rest g l = length l.rest
