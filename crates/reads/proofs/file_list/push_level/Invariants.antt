use Rattle.std.proofs.Common.{◌≡◌, ◌++◌, map, take}
use Rattle.edit.specs.VersionOrder.{at_level}
use Rattle.reads.specs.FileList.{level_file_in}
use Rattle.reads.proofs.file_list.push_level.Given as goal

abbrev pub invariant-loop-file : goal.invariant-loop-file
invariant-loop-file l = map level_file_in l.all.items ≡ map level_file_in l.fn.all.items ++ map (λ f. at_level l.level f.now) (take l.file-index l.files)
