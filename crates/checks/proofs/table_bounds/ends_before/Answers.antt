use Rattle.std.proofs.Common.{ℕ, List, [], ap, ◌∙◌}
use Rattle.std.specs.Ordering.{is_lt}
use Rattle.reads.specs.BuilderView.{last_key}
use Rattle.ikey.specs.Key.{user_of}
use Rattle.merge.proofs.Reaching.{first_from, last_from}
use Rattle.checks.proofs.table_bounds.ends_before.Goals as goal

pub returns : goal.returns
returns g c =
    let cmp = g.C.Comparator.cmp in
    let last = last_from c.args.first.now.entries c.largest.result.bytes.now c.largest.ensures in
    let first = first_from c.args.second.now.entries c.smallest.result.bytes.now c.smallest.ensures in
    c.is_lt.ensures ∙ ap is_lt (c.compare.ensures
    ∙ ap (λ (u : List ℕ). cmp u c.user-2.result.now) (c.user.ensures ∙ ap user_of last)
    ∙ ap (cmp (user_of (last_key [] c.args.first.now.entries))) (c.user-2.ensures ∙ ap user_of first))
