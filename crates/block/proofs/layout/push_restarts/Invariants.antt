use Rattle.std.proofs.Common.{◌≡◌, ◌++◌, take}
use Rattle.std.specs.List.{flat_map}
use Rattle.byteorder.specs.Endian.{little_bytes}
use Rattle.block.proofs.layout.push_restarts.Given as goal

abbrev pub invariant-loop-restart : goal.invariant-loop-restart
invariant-loop-restart l = l.out.items ≡ l.fn.out.items ++ flat_map (little_bytes 4) (take l.restart-index l.restarts)
