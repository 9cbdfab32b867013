use Rattle.std.proofs.Common.{◌≡◌, drop}
use Rattle.std.specs.List.{list_all}
use Rattle.install.specs.PendingCurrent.{is_digit}
use Rattle.install.proofs.pending_names.are_digits.Given as goal

-- the bytes that are left are all digits just if all are
abbrev pub invariant-loop-byte : goal.invariant-loop-byte
invariant-loop-byte l = list_all is_digit (drop l.byte-index l.bytes) ≡ list_all is_digit l.bytes
