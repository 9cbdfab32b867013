use Rattle.std.proofs.Common.{◌≡◌, ◌+◌, ◌*◌, ◌^◌, ◌<◌, ◌≤◌, ◌∷◌}
use Rattle.coding.specs.Varint.{varint_reading}
use Rattle.coding.proofs.Steps.{read_on}
use Rattle.coding.proofs.varint.read_groups.Given as goal

abbrev pub invariant-loop-i : goal.invariant-loop-i
invariant-loop-i l = record {
  few : l.i ≤ 8;
  fits : l.number < 2 ^ (7 * l.i + 7);
  is : read_on l.i l.number l.rest ≡ varint_reading (2 ^ 64) (l.first ∷ l.rest);
}
