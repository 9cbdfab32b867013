use Rattle.std.proofs.Common.{[], List, ℕ, length, refl, sym, ap, subst, ◌∙◌}
use Rattle.ikey.specs.Order.{internal_cmp}
use Rattle.block.specs.BuilderView.{last_key}
use Rattle.table.specs.Table.{index_keys}
use Rattle.table.specs.BuilderView.{TableBuilding, IsAboveLast}
use Rattle.table.proofs.Closes.{above_kept, above_none, some_length, less_by_test}
use Rattle.table.proofs.builder.TableBuilder.is_above_last.Goals as goal

pub returns-then-is_empty : goal.returns-then-is_empty
returns-then-is_empty g c =
    let was = c.self.inside in
    let cmp = g.C.Comparator.cmp in
    let key : List ℕ = c.args.key.now.bytes.now in
    let keys = index_keys cmp g.C.Comparator.short_keys in
    let above = above_none cmp keys was.options was.flushed.bytes.items was.flushed.index.items was.block.interval was.block.entries key c.self.invariant.0.0 c.self.invariant.0.1 (ap length (c.if-is_empty.ensures.0 refl)) in
    (λ t. subst (λ (b : TableBuilding). IsAboveLast cmp b.entries key) c.self.view_is above, λ h. refl)

pub returns : goal.returns
returns g c =
    let was = c.self.inside in
    let cmp = g.C.Comparator.cmp in
    let key : List ℕ = c.args.key.now.bytes.now in
    let keys = index_keys cmp g.C.Comparator.short_keys in
    let kept = above_kept cmp keys was.options was.flushed.bytes.items was.flushed.index.items was.block.interval was.block.entries key c.self.invariant.0.0 c.self.invariant.0.1 (some_length was.block.entries c.if-is_empty.ensures.1) in
    let less = less_by_test c.is_lt.result c.compare.result (internal_cmp cmp (last_key [] was.block.entries) key) c.is_lt.ensures (c.compare.ensures.order ∙ ap (λ (k : List ℕ). internal_cmp cmp k key) c.last_key.ensures) in (
      λ t. subst (λ (b : TableBuilding). IsAboveLast cmp b.entries key) c.self.view_is (kept.1 (less.0 t)),
      λ h. less.1 (kept.0 (subst (λ (b : TableBuilding). IsAboveLast cmp b.entries key) (sym c.self.view_is) h)),
    )
