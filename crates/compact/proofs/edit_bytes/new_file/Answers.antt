use Rattle.std.proofs.Common.{sym}
use Rattle.keep.proofs.OnAnswers.{same_ok}
use Rattle.compact.proofs.NewFiles.{file_is}
use Rattle.compact.proofs.edit_bytes.new_file.Goals as goal

pub returns-clause-ok : goal.returns-clause-ok
returns-clause-ok c p is =
    file_is p c.args.output c.args.level c.in_ok-of.field-0 c.in_ok-of-2.field-0 is (sym (same_ok _ _ c.in_ok-of.ensures)) (sym (same_ok _ _ c.in_ok-of-2.ensures))
