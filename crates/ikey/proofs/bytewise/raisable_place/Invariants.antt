use Rattle.std.proofs.Common.{◌≡◌, ◌+◌, drop, nat_eq}
use Rattle.std.specs.List.{prefix_len}
use Rattle.ikey.proofs.bytewise.raisable_place.Given as goal

abbrev pub invariant-loop-place : goal.invariant-loop-place
invariant-loop-place l =
    prefix_len (λ b. nat_eq b 255) l.key ≡ l.place + prefix_len (λ b. nat_eq b 255) (drop l.place l.key)
