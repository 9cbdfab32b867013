use Rattle.std.proofs.Common.{◌≡◌, map, take}
use Rattle.std.specs.Prelude.{filter}
use Rattle.split.specs.Ranges.{key_range}
use Rattle.checks.specs.NeededFiles.{is_file_needed}
use Rattle.checks.proofs.range_files.needed_files.Given as goal

-- those that are needed of the files so far
abbrev pub invariant-loop-file : goal.invariant-loop-file
invariant-loop-file g l = map (λ f. f.now) l.needed.items ≡ filter (is_file_needed g.C.Comparator.cmp (key_range l.range)) (map (λ f. f.now) (take l.file-index l.files))
