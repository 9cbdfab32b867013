use Rattle.std.proofs.Common.{◌≡◌, map, take}
use Rattle.reads.proofs.lawfulness.metas_of.Given as goal

abbrev pub invariant-loop-file : goal.invariant-loop-file
invariant-loop-file l = map (λ f. f.now) l.metas.items ≡ map (λ f. f.meta.now) (take l.file-index l.files)
