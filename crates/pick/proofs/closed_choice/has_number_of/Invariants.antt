use Rattle.std.proofs.Common.{ℕ, ◌≡◌, drop, eqb}
use Rattle.std.specs.List.{list_any}
use Rattle.pick.proofs.closed_choice.has_number_of.Given as goal

-- what is found is found in the rest
abbrev pub invariant-loop-number : goal.invariant-loop-number
invariant-loop-number l =
    list_any (λ (n : ℕ). eqb n l.file.number) (drop l.number-index l.numbers) ≡ list_any (λ (n : ℕ). eqb n l.file.number) l.numbers
