use Rattle.std.proofs.Common.{◌≡◌, map, take}
use Rattle.std.specs.Prelude.{fold}
use Rattle.scan.specs.Stats.{larger_key}
use Rattle.scan.proofs.level_rows.largest_key.Given as goal

abbrev pub invariant-loop-file : goal.invariant-loop-file
invariant-loop-file g l = l.largest.bytes.now ≡ fold (larger_key g.C.Comparator.cmp) l.first.largest (map (λ f. f.now) (take l.file-index l.others))
