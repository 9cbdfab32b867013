use Rattle.std.proofs.Common.{◌≡◌, ℕ, List, map, sym, ap, subst, ◌∙◌}
use Rattle.table.proofs.Binds.{ok_is}
use Rattle.split.specs.SplitChoice.{index_users_of, every_of, IsChoice}
use Rattle.split.proofs.Lent.{lent_users}
use Rattle.split.proofs.Samples.{every_first}
use Rattle.split.proofs.split.Split.choose.Goals as goal

pub returns-clause-chosen : goal.returns-clause-chosen
returns-clause-chosen g c =
    let all : map (λ key. key.now) c.in_ok-keys.keys.items ≡ index_users_of c.args.tables.now =
    sym (ok_is _ _ c.in_ok-keys.ensures) ∙ ap (every_of 1) c.deref.ensures.value ∙ every_first c.in_ok-lists.lists.items
    ∙ lent_users c.args.tables.now c.in_ok-lists.lists.items (sym (ok_is _ _ c.in_ok-lists.ensures)) in
    subst (λ (users : List (List ℕ)). IsChoice g.C.Comparator.cmp users c.args.want (map (λ key. key.items) c.in_ok-boundaries.boundaries.items)) all c.in_ok-boundaries.ensures.chosen
