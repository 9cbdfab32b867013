use Rattle.std.proofs.Common.{◌++◌, Bor, List, map, sym, ap, ◌∙◌}
use Rattle.edit.specs.VersionOrder.{at_level, in_version_order, files_at}
use Rattle.edit.specs.declared.meta.FileMeta.{FileMeta}
use Rattle.edit.proofs.SortedFiles.{lent, metas_are}
use Rattle.edit.proofs.Snapshots.{lent_at_level}
use Rattle.edit.proofs.snapshot.push_level.Goals as goal

pub returns-clause-ok : goal.returns-clause-ok
returns-clause-ok g c =
    let ordered = metas_are (in_version_order g.C.Comparator.cmp (files_at c.args.files.now c.args.level)) (lent c.in_ok-ordered.ordered.items) c.in_ok-ordered.ensures.ordered in
    c.in_ok-push_at_level.ensures.ok
    ∙ ap (λ (t : List (Bor FileMeta)). c.args.added.now.items ++ map (λ (f : Bor FileMeta). at_level c.args.level f.now) t) c.deref.ensures.value
    ∙ ap (λ t. c.args.added.now.items ++ t) (lent_at_level c.args.level c.in_ok-ordered.ordered.items)
    ∙ ap (λ (t : List FileMeta). c.args.added.now.items ++ map (at_level c.args.level) t) (sym ordered)
