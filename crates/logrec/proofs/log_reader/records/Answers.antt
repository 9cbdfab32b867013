use Rattle.std.proofs.Common.{ap, subst, ◌∙◌, arith}
use Rattle.coding.specs.Answers.{EqualOrMemory}
use Rattle.logrec.specs.LogReader.{lists, records_of}
use Rattle.logrec.proofs.Logs.{is_found, log_again}
use Rattle.logrec.proofs.log_reader.records.Goals as goal

pub returns-clause-found : goal.returns-clause-found
returns-clause-found c = is_found c.args.bytes.now c.all.result (λ i. omega (arith, c.type_inv.bytes i)) c.all.ensures

pub returns-clause-only : goal.returns-clause-only
returns-clause-only c = λ rs e. subst (λ f. EqualOrMemory (λ v. lists v.items) c.all.result f) (ap records_of e ∙ log_again rs) c.all.ensures
