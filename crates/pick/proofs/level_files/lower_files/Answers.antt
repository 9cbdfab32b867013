use Rattle.std.proofs.Common.{Bor, Vec, Global, sym, ap, ◌∙◌}
use Rattle.edit.proofs.Binds.{ok_is}
use Rattle.edit.specs.VersionOrder.{level_files}
use Rattle.edit.specs.declared.meta.FileMeta.{FileMeta}
use Rattle.pick.specs.Choices.{is_in}
use Rattle.pick.proofs.Lists.{lent}
use Rattle.pick.proofs.ChosenInputs.{lower_is}
use Rattle.pick.proofs.level_files.lower_files.Goals as goal

pub returns-clause-lower : goal.returns-clause-lower
returns-clause-lower g c =
    let cmp = g.C.Comparator.cmp in
    let same = sym (ok_is (level_files cmp c.args.version.now c.args.level) (lent c.in_ok-files.files.items) c.in_ok-files.ensures.ordered) in
    lower_is cmp g.met.C.Comparator.total c.args.version.now c.args.level c.in_ok-files.ensures.state.apart (λ (v : Vec (Bor FileMeta) Global). lent v.items) c.with_boundaries.result (is_in cmp c.args.range) (lent c.deref.result.now)
    (ap lent c.deref.ensures.value ∙ same) c.with_boundaries.ensures
