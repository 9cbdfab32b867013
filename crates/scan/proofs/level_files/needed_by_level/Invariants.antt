use Rattle.std.proofs.Common.{◌≡◌, map, take}
use Rattle.std.specs.Prelude.{filter}
use Rattle.reads.specs.Ranges.{key_range}
use Rattle.checks.specs.NeededFiles.{is_file_needed}
use Rattle.scan.proofs.level_files.needed_by_level.Given as goal

abbrev pub invariant-loop-files : goal.invariant-loop-files
invariant-loop-files g l = map (λ files. map (λ f. f.now) files.items) l.needed.items ≡ map (filter (is_file_needed g.C.Comparator.cmp (key_range l.range))) (map (λ files. map (λ f. f.now) files.items) (take l.files-index l.levels))
