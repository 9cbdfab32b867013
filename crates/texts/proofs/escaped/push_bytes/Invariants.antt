use Rattle.std.proofs.Common.{◌≡◌, ◌++◌, take}
use Rattle.std.specs.List.{flat_map}
use Rattle.texts.specs.Escaped.{escaped_byte}
use Rattle.texts.proofs.escaped.push_bytes.Given as goal

abbrev pub invariant-loop-byte : goal.invariant-loop-byte
invariant-loop-byte l = l.out.items ≡ l.fn.out.items ++ flat_map (escaped_byte l.own.is_wide l.own.first) (take l.byte-index l.bytes)
