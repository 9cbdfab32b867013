use Rattle.std.proofs.Common.{List, map, refl, ap, subst, ◌∙◌}
use Rattle.table.specs.EncodedEntry.{Entry}
use Rattle.merge.specs.MergedLists.{entries_of_lists}
use Rattle.reads.specs.TableOrder.{AreFalling}
use Rattle.reads.proofs.Ranged.{all_fall}
use Rattle.reads.proofs.lawfulness.lawful.Goals as goal

pub returns : goal.returns
returns g c =
    let falling = all_fall g.C.Comparator.cmp _ refl refl _ (c.in_ok-falls_in.ensures.falls.0 c.if-not-branch.false) in
    c.in_ok-standing.ensures.lawful.1 (subst (λ (l : List (List Entry)). AreFalling (entries_of_lists l)) (c.in_ok-cursors_over.ensures.cursors ∙ ap (map (λ t. t.now.entries)) c.deref.ensures.value) falling)
