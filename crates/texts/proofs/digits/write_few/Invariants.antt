use Rattle.std.proofs.Common.{◌≡◌, ◌*◌, ◌++◌, take, drop}
use Rattle.hex.specs.Hex.{encode_lower}
use Rattle.texts.proofs.digits.write_few.Given as goal

-- the digits that are written, and those of the bytes that are left, are all
abbrev pub invariant-loop-place : goal.invariant-loop-place
invariant-loop-place l = take (2 * l.place) l.room ++ encode_lower (drop l.place l.bytes) ≡ encode_lower l.bytes
