use Rattle.std.proofs.Common.{◌≡◌, ◌*◌, ◌≤◌, ◌^◌, map}
use Rattle.folder.specs.Calls.{Files, Tells}
use Rattle.folder.specs.Reports.{OnlyReads}
use Rattle.checks.specs.GroupTest.{AreRangesSound}
use Rattle.checks.specs.HeldTables.{AreHeldBy, AreHeldIn}
use Rattle.checks.specs.InOrder.{AreSoundIn}
use Rattle.checks.proofs.range_test.test_ranges.Given as goal

-- the ranges so far are sound
abbrev pub invariant-loop-number : goal.invariant-loop-number
invariant-loop-number g l =
    let tells = g.F.Folder.tells in
    let failed = g.F.Folder.failed in
    record {
      sound : (files : Files) → Tells (tells l.fn.folder) files → AreHeldIn g.C.Comparator.cmp files l.fn.checked.held → AreRangesSound g.C.Comparator.cmp files l.next (map (λ f. f.now) l.standing) l.split l.number l.entries;
      held : AreHeldBy g.C.Comparator.cmp (tells l.fn.folder) l.fn.checked.held → AreHeldBy g.C.Comparator.cmp (tells l.fn.folder) l.checked.held;
      known : (files : Files) → Tells (tells l.fn.folder) files → AreHeldIn g.C.Comparator.cmp files l.fn.checked.held → AreSoundIn g.C.Comparator.cmp files l.fn.checked.sound.items → AreSoundIn g.C.Comparator.cmp files l.checked.sound.items;
      small : l.entries ≤ l.number * 2 ^ 100;
      reads : OnlyReads g.F.Folder l.fn.folder l.folder;
      failures : failed l.folder ≡ failed l.fn.folder;
    }
