use Rattle.std.proofs.Common.{◌≡◌, ◌++◌, ◌∷◌, [], ℕ, List, length, refl, sym, ap, subst, ◌∙◌}
use Rattle.coding.specs.Answers.{EqualOrMemory}
use Rattle.block.specs.BlockFormat.{block}
use Rattle.block.specs.BuilderView.{last_key}
use Rattle.ikey.specs.ShortenedKeys.{internal_successor_of}
use Rattle.table.specs.Table.{index_keys, table, within_limit}
use Rattle.table.specs.FlushedBlocks.{flushed_block_at}
use Rattle.table.specs.BuilderView.{TableBuilding}
use Rattle.table.specs.BuilderState.{entries_so_far}
use Rattle.table.proofs.Closes.{closed, closed_is, closes_last, closes_none, some_length}
use Rattle.table.proofs.Refused.{ok_is}
use Rattle.table.proofs.builder.TableBuilder.finish.Goals as goal
use Rattle.table.proofs.builder.TableBuilder.finish.Goals.{then-not-is_empty+in_ok-above+in_ok-push, else-not-is_empty}

pub returns : goal.returns
unfolding index_keys table
returns g c =
    let was = c.self.inside in
    let keys = index_keys g.C.Comparator.cmp g.C.Comparator.short_keys in
    let whole : closed c.if-not-is_empty.flushed.bytes.items c.if-not-is_empty.flushed.index.items ≡ table g.C.Comparator.cmp g.C.Comparator.short_keys was.options (entries_so_far was.flushed.bytes.items was.flushed.index.items was.block.entries) =
    elim c.if-not-is_empty.branch [
      | then-not-is_empty+in_ok-above+in_ok-push w ↦
          let above : w.in_ok-above.above ≡ internal_successor_of g.C.Comparator.cmp g.C.Comparator.short_keys.successor (last_key [] was.block.entries) =
          sym (ok_is w.in_ok-above.ensures.successor) ∙ ap (internal_successor_of g.C.Comparator.cmp g.C.Comparator.short_keys.successor) w.last_key.ensures in
          let size : ℕ = length (block was.block.interval was.block.entries) in
          closed_is _ _ _ _
          (ap (λ f. f.bytes.items) w.flushed-is ∙ w.in_ok-push.ensures.bytes)
          (ap (λ f. f.index.items) w.flushed-is ∙ w.in_ok-push.ensures.index ∙ ap (λ (k : List ℕ). was.flushed.index.items ++ flushed_block_at k (length was.flushed.bytes.items) size ∷ []) above)
          ∙ closes_last keys was.options was.flushed.bytes.items was.flushed.index.items was.block.interval was.block.entries c.self.invariant.0.0 c.self.invariant.0.1 (some_length was.block.entries w.if-not-is_empty.ensures.1)
      | else-not-is_empty w ↦
          closed_is _ _ _ _ (ap (λ f. f.bytes.items) w.flushed-is) (ap (λ f. f.index.items) w.flushed-is)
          ∙ closes_none keys was.options was.flushed.bytes.items was.flushed.index.items was.block.interval was.block.entries c.self.invariant.0.0 c.self.invariant.0.1 (ap length (w.if-not-is_empty.ensures.0 refl))
    ] in
    let seen = ap (λ (b : TableBuilding). within_limit (table g.C.Comparator.cmp g.C.Comparator.short_keys b.options b.entries)) c.self.view_is in
    subst (EqualOrMemory (λ v. v.items) c.finish.result) (ap within_limit whole ∙ seen) c.finish.ensures
