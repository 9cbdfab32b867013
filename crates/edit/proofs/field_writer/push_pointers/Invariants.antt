use Rattle.std.proofs.Common.{◌≤◌, drop}
use Rattle.edit.specs.Field.{SetPointer}
use Rattle.edit.specs.declared.meta.CompactPointer.{CompactPointer}
use Rattle.edit.proofs.Written.{Writes}
use Rattle.edit.proofs.field_writer.push_pointers.Given as goal

abbrev pub invariant-loop-pointer : goal.invariant-loop-pointer
invariant-loop-pointer l = Writes SetPointer (λ (pointer : CompactPointer). pointer.level ≤ 6) l.pointers l.fn.out.items l.out.items (drop l.pointer-index l.pointers)
