use Rattle.std.proofs.Common.{◌≡◌, ◌+◌, drop, nat_eq}
use Rattle.std.specs.List.{common_prefix_len}
use Rattle.coding.proofs.common_prefix.common_bytes.Given as goal

abbrev pub invariant-loop-place : goal.invariant-loop-place
invariant-loop-place l =
    common_prefix_len nat_eq l.a l.b ≡ l.place + common_prefix_len nat_eq (drop l.place l.a) (drop l.place l.b)
