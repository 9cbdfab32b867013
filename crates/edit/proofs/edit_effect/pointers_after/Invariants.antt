use Rattle.std.proofs.Common.{◌≡◌}
use Rattle.std.specs.List.{fold}
use Rattle.edit.specs.Version.{with_pointer}
use Rattle.edit.proofs.edit_effect.pointers_after.Given as goal

-- the pointers so far, and then the rest
abbrev pub invariant-loop-pointer : goal.invariant-loop-pointer
invariant-loop-pointer l = fold with_pointer l.pointers.entries l.pointer-iterator.rest.items ≡ fold with_pointer l.fn.pointers.entries l.fn.new.items
