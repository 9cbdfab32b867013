use Rattle.std.proofs.Common.{◌≡◌, ℕ, ◌+◌, cond, length, refl, sym, ap, ◌∙◌, arith}
use Rattle.block.specs.BlockFormat.{block}
use Rattle.table.specs.Table.{index_keys}
use Rattle.table.specs.BuilderView.{TableBuilding}
use Rattle.table.specs.DataBlocks.{flushed}
use Rattle.table.proofs.Closes.{flushed-kept}
use Rattle.table.proofs.builder.TableBuilder.flushed.Goals as goal
use Rattle.table.proofs.builder.TableBuilder.flushed.Goals.{then-is_full, else-is_full}

pub returns : goal.returns
returns g c =
    let was = c.self.inside in
    let keys = index_keys g.C.Comparator.cmp g.C.Comparator.short_keys in
    let whole = flushed-kept keys was.options was.flushed.bytes.items was.flushed.index.items was.block.interval was.block.entries c.self.invariant.0.0 c.is_full.result c.self.invariant.0.1 (sym c.is_full.ensures) in
    let counted : c.if-is_full.open ≡ cond c.is_full.result (length (block was.block.interval was.block.entries) + 5) 0 =
    elim c.if-is_full.branch [
      | then-is_full w ↦ w.open-is ∙ ap (λ (n : ℕ). n + 5) w.estimate.ensures ∙ rw w.if-is_full.true refl
      | else-is_full w ↦ w.open-is ∙ rw w.if-is_full.false refl
    ] in
    ap (λ (n : ℕ). c.len.result + n) counted ∙ omega (arith, whole) ∙ ap (λ (b : TableBuilding). flushed b.options b.entries) c.self.view_is
