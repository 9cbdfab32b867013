use Rattle.std.proofs.Common.{List, ℕ, Some, sym, ap, ◌∙◌}
use Rattle.pairing.proofs.TestedLists.{last_key_read}
use Rattle.pairing.proofs.entry_checks.last_of.Goals as goal

pub returns : goal.returns
returns c = ap (λ (k : List ℕ). Some k) c.as_key.ensures ∙ sym (last_key_read c.args.entries.now c.in_ok-last.last.now c.in_ok-last.ensures.value)
