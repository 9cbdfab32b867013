use Rattle.std.proofs.Common.{◌≡◌, map, take}
use Rattle.scan.specs.Counts.{capped_files}
use Rattle.scan.proofs.range_counts.amounts_by_level.Given as goal

abbrev pub invariant-loop-files : goal.invariant-loop-files
invariant-loop-files l = l.amounts.items ≡ map capped_files (map (λ fs. map (λ f. f.now) fs.items) (take l.files-index l.levels))
