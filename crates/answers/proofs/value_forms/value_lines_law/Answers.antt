use Rattle.answers.proofs.ValueLineLemmas.{value_lines_differ, value_lines_printable, value_lines_read}
use Rattle.answers.proofs.value_forms.value_lines_law.Goals as goal

pub returns-clause-values : goal.returns-clause-values
returns-clause-values c = value_lines_read

pub returns-clause-characters : goal.returns-clause-characters
returns-clause-characters c = value_lines_printable

pub returns-clause-none : goal.returns-clause-none
returns-clause-none c = value_lines_differ
