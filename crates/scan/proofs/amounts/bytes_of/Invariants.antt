use Rattle.std.proofs.Common.{◌≡◌, ◌-◌, ◌^◌, map, min, take}
use Rattle.std.specs.List.{sum_by}
use Rattle.scan.proofs.amounts.bytes_of.Given as goal

abbrev pub invariant-loop-file : goal.invariant-loop-file
invariant-loop-file l = l.bytes ≡ min (sum_by (λ f. f.size) (map (λ f. f.now) (take l.file-index l.files))) (2 ^ 64 - 1)
