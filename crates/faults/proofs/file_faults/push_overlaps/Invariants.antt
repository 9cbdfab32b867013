use Rattle.std.proofs.Common.{◌≡◌, ◌++◌, map, take}
use Rattle.reads.specs.FileList.{level_file_in}
use Rattle.faults.specs.FileFaults.{overlap_faults}
use Rattle.faults.proofs.file_faults.push_overlaps.Given as goal

abbrev pub invariant-loop-tested : goal.invariant-loop-tested
invariant-loop-tested g l =
    l.faults.items ≡ l.fn.faults.items ++ overlap_faults g.C.Comparator.cmp (level_file_in l.file) (map (λ t. level_file_in t.file) (take l.tested-index l.behind))
