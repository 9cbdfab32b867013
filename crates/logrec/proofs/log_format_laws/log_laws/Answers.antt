use Rattle.logrec.proofs.Logs.{append_law, one_list}
use Rattle.logrec.proofs.log_format_laws.log_laws.Goals as goal

pub returns-clause-append : goal.returns-clause-append
returns-clause-append c = append_law

pub returns-clause-one_list : goal.returns-clause-one_list
returns-clause-one_list c = one_list
