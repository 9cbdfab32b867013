use Rattle.std.proofs.Common.{List, ℕ, Result, Ok, sym, ap, ◌∙◌}
use Rattle.coding.specs.declared.fault.Fault.{Fault}
use Rattle.table.proofs.Stored.{passed_front}
use Rattle.table.proofs.trailer.reopen_contents.Goals as goal

pub returns : goal.returns
returns c = passed_front c.args.bytes.now c.requires.passed ∙ ap (λ (x : List ℕ). let y : Result (List ℕ) Fault = Ok x in y) (sym c.split_at.ensures.front)
