use Rattle.std.proofs.Common.{◌≡◌, map, take}
use Rattle.std.specs.List.{flat_map}
use Rattle.scan.proofs.level_files.numbers_by_level.Given as goal

abbrev pub invariant-loop-files : goal.invariant-loop-files
invariant-loop-files l = l.numbers.items ≡ flat_map (λ files. map (λ f. f.now.number) files.items) (take l.files-index l.levels)
