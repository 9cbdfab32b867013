use Rattle.std.proofs.Common.{rules}
use Rattle.edit.proofs.edit_effect.files_after.Goals as goal

pub returns-in_err-take_out_all : goal.returns-in_err-take_out_all
returns-in_err-take_out_all c = search rules

pub returns : goal.returns
returns c = search rules
