use Rattle.std.proofs.Common.{sym, ◌∙◌}
use Rattle.edit.proofs.Binds.{ok_is}
use Rattle.compact.specs.EditOf.{deletions_of}
use Rattle.adoption.proofs.EditFitLemmas.{same_deletions}
use Rattle.adoption.proofs.edit_fit.deletes_all.Goals as goal

pub returns-clause-exact : goal.returns-clause-exact
returns-clause-exact c =
    let same = same_deletions c.args.edit.now.deleted.keys c.in_ok-deleted.deleted.keys in
    let are = ok_is (deletions_of c.args.files.now) c.in_ok-deleted.deleted.keys c.in_ok-deleted.ensures in
    (λ h. same.0 (sym c.eq.ensures ∙ h) ∙ sym are, λ is. c.eq.ensures ∙ same.1 (is ∙ are))
