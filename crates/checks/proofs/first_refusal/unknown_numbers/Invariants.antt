use Rattle.std.proofs.Common.{◌≡◌, take}
use Rattle.std.specs.Prelude.{filter}
use Rattle.checks.specs.InOrder.{is_unknown}
use Rattle.checks.proofs.first_refusal.unknown_numbers.Given as goal

-- those of the numbers so far
abbrev pub invariant-loop-number : goal.invariant-loop-number
invariant-loop-number l = l.unknown.items ≡ filter (is_unknown l.sound) (take l.number-index l.numbers)
