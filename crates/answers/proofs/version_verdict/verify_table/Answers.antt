use Rattle.std.proofs.Common.{ℕ, Result, Ok, sym, ap, subst}
use Rattle.table.specs.Answers.{EqualOrMemory, ◌>>=◌}
use Rattle.table.specs.fault.Fault.{Fault}
use Rattle.answers.specs.FaultLines.{valid_line}
use Rattle.answers.proofs.version_verdict.verify_table.Goals as goal

pub returns : goal.returns
returns c = subst (EqualOrMemory (λ line. line.items) c.valid_line.result) (sym (ap (λ (r : Result ℕ Fault). r >>= λ count. Ok (valid_line count)) c.in_ok-count.ensures)) c.valid_line.ensures
