use Rattle.std.proofs.Common.{map}
use Rattle.edit.proofs.Snapshots.{Levels}
use Rattle.reads.specs.FileList.{level_file_in}
use Rattle.reads.proofs.GatheredFiles.{AreGathered}
use Rattle.reads.proofs.file_list.all_files.Given as goal

abbrev pub invariant-loop-level : goal.invariant-loop-level
invariant-loop-level g l = record {
  gathered : AreGathered l.version.files (map level_file_in l.all.items) l.level;
  levels : Levels g.C.Comparator.cmp l.version.files (map level_file_in l.all.items) l.level;
}
