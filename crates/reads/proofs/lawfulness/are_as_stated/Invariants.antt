use Rattle.std.proofs.Common.{take}
use Rattle.std.specs.List.{All}
use Rattle.reads.specs.FileChecks.{IsStatedFile}
use Rattle.reads.proofs.lawfulness.are_as_stated.Given as goal

abbrev pub invariant-loop-file : goal.invariant-loop-file
invariant-loop-file g l = All (λ f. IsStatedFile g.C.Comparator.cmp l.tables l.next f.meta.now) (take l.file-index l.files)
