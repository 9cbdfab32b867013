use Rattle.std.proofs.Common.{sym, subst}
use Rattle.edit.specs.Edit.{IsEdit, edit_in}
use Rattle.adoption.proofs.AdoptedSo.{counted_is}
use Rattle.adoption.proofs.adopted_edit.adopt.Goals as goal

pub returns-clause-read : goal.returns-clause-read
returns-clause-read g c =
    let same = counted_is c.args.version.now (edit_in c.args.edit) (edit_in c.in_ok-adopted.adopted) c.in_ok-adopted.ensures.counted in
    subst (IsEdit c.in_ok-bytes.bytes.items) (sym same) c.in_ok-bytes.ensures.reads_back
