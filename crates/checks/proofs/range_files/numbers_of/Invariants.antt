use Rattle.std.proofs.Common.{◌≡◌, map, take}
use Rattle.checks.proofs.range_files.numbers_of.Given as goal

abbrev pub invariant-loop-file : goal.invariant-loop-file
invariant-loop-file l = l.numbers.items ≡ map (λ f. f.now.number) (take l.file-index l.files)
