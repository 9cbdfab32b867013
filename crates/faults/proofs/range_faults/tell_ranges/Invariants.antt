use Rattle.std.proofs.Common.{◌≡◌, ◌+◌, ◌-◌, true, length, map}
use Rattle.folder.specs.Calls.{Files, Tells}
use Rattle.folder.specs.Reports.{OnlyReads}
use Rattle.checks.specs.HeldTables.{AreHeldBy}
use Rattle.faults.specs.VersionFault.{OfKey}
use Rattle.faults.specs.KeyFaults.{misplaced_keys, read_file, searched_of}
use Rattle.faults.specs.RangeKeys.{AreSoundIn, keys_from}
use Rattle.faults.specs.ToldFaults.{IsPart}
use Rattle.faults.proofs.range_faults.tell_ranges.Given as goal

-- the keys of the ranges so far were told
abbrev pub invariant-loop-number : goal.invariant-loop-number
invariant-loop-number g l =
    let cmp = g.C.Comparator.cmp in
    let tells = g.F.Folder.tells in
    let failed = g.F.Folder.failed in
    let metas = map (λ f. f.now) l.files in
    let all = length l.split + 1 in
    record {
      told : (held : Files) → Tells (tells l.fn.folder) held → AreSoundIn cmp held metas →
          IsPart g.T.FaultTaker.tells (map OfKey (keys_from cmp l.split (misplaced_keys cmp (searched_of (map (read_file cmp held) metas))) 0 all)) l.fn.taker l.fn.told.count
          (map OfKey (keys_from cmp l.split (misplaced_keys cmp (searched_of (map (read_file cmp held) metas))) l.number (all - l.number))) l.taker l.told;
      held : AreHeldBy cmp (tells l.fn.folder) l.held;
      goes : l.told.goes ≡ true;
      reads : OnlyReads g.F.Folder l.fn.folder l.folder;
      failures : failed l.folder ≡ failed l.fn.folder;
    }
