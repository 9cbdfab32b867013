use Rattle.edit.proofs.Edits.{one_edit, not_both}
use Rattle.edit.proofs.Written.{reads_back}
use Rattle.edit.proofs.format_laws.edit_laws.Goals as goal

pub returns : goal.returns
returns c = record {
  one_edit = λ bytes a b h k. one_edit bytes a b h k;
  not_both = λ bytes e a r h. not_both bytes e a r h;
  reads_back = λ e lawful ordered. reads_back e ordered lawful;
}
