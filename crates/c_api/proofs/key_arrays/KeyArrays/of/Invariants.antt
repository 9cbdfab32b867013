use Rattle.std.proofs.Common.{◌≡◌, map, take, length}
use Rattle.std.specs.Prelude.{flat_map}
use Rattle.c_api.proofs.key_arrays.KeyArrays.of.Given as goal

-- the arrays so far are those of the keys so far
abbrev pub invariant-loop-number : goal.invariant-loop-number
invariant-loop-number g l =
    record {
      bytes : l.bytes.items ≡ flat_map (λ key. key) (take l.number l.split);
      lengths : l.lengths.items ≡ map length (take l.number l.split);
    }
