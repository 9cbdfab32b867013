use Rattle.std.proofs.Common.{◌≤◌}
use Rattle.edit.specs.Field.{SetPointer}
use Rattle.edit.specs.declared.meta.CompactPointer.{CompactPointer}
use Rattle.edit.proofs.Written.{writes_on_at, writes_next_at}
use Rattle.edit.proofs.field_writer.push_pointers.Goals as goal

abbrev within : CompactPointer → Type 0
within p = p.level ≤ 6

pub push_pointer-requires : goal.push_pointer-requires
push_pointer-requires c =
    writes_next_at SetPointer within c.args.pointers.now c.args.out.now.items c.loop-pointer.out.items c.loop-pointer.pointer-index c.pointer-item.result c.loop-pointer.invariant c.loop-pointer-test.true c.pointer-item.is

pub loop-pointer-preserved : goal.loop-pointer-preserved
loop-pointer-preserved c =
    rw c.in_ok-push_pointer.ensures.ok (writes_on_at SetPointer within c.args.pointers.now c.args.out.now.items c.loop-pointer.out.items c.loop-pointer.pointer-index c.pointer-item.result c.loop-pointer.invariant c.loop-pointer-test.true c.pointer-item.is c.in_ok-push_pointer.ensures.lawful)
