use Rattle.std.proofs.Common.{◌≡◌, ℕ, List, map, sym, ap, subst, ◌∙◌}
use Rattle.table.proofs.Binds.{ok_is}
use Rattle.split.specs.SplitChoice.{index_sample_of, sample_of, IsChoice}
use Rattle.split.proofs.Samples.{sampled_in}
use Rattle.split.proofs.split.Split.sample.Goals as goal

pub returns-clause-chosen : goal.returns-clause-chosen
returns-clause-chosen g c =
    let sampled : map (λ key. key.now) c.in_ok-keys.keys.items ≡ index_sample_of c.args.want c.args.tables.now =
    sym (ok_is _ _ c.in_ok-keys.ensures) ∙ ap (sample_of c.args.want) (c.deref.ensures.value ∙ sym (ok_is _ _ c.in_ok-lists.ensures)) in
    subst (λ (users : List (List ℕ)). IsChoice g.C.Comparator.cmp users c.args.want (map (λ key. key.items) c.in_ok-boundaries.boundaries.items)) sampled c.in_ok-boundaries.ensures.chosen

pub returns-clause-of_tables : goal.returns-clause-of_tables
returns-clause-of_tables g c = sampled_in g.C.Comparator.cmp c.args.tables.now c.args.want _ (returns-clause-chosen g c)
