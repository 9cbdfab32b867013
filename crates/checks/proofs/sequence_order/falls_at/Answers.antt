use Rattle.std.proofs.Common.{◌≡◌, List, map, sym, subst}
use Rattle.table.specs.EncodedEntry.{Entry}
use Rattle.reads.specs.MergedLists.{entries_of_lists}
use Rattle.split.specs.Ranges.{KeyRange, key_range, range_at, IsIn}
use Rattle.merge.specs.InRange.{entries_in}
use Rattle.merge.proofs.InRange.{holds_tells}
use Rattle.reads.specs.TableOrder.{AreFallingIn}
use Rattle.checks.specs.RangeOrder.{common_of}
use Rattle.checks.specs.CommonRange.{IsInBoth}
use Rattle.checks.proofs.CommonRanges.{common_in, in_common}
use Rattle.checks.proofs.FallingRanges.{other_kind, same_in_range}
use Rattle.checks.proofs.sequence_order.falls_at.Goals as goal

pub returns-clause-falls : goal.returns-clause-falls
returns-clause-falls g c =
    let cmp = g.C.Comparator.cmp in
    let total = g.met.C.Comparator.total in
    let range : KeyRange = key_range c.common_range-range.result in
    let within : KeyRange = key_range c.args.within in
    let at : KeyRange = range_at c.args.split.now c.args.number in
    let walked : List Entry = entries_of_lists c.in_ok-cursors.cursors.items in
    let all : List Entry = entries_of_lists (map (λ t. t.now.entries) c.args.tables.now) in
    let same : entries_in cmp range walked ≡ entries_in cmp range all = c.in_ok-cursors.ensures.held in
    let bounds : range ≡ common_of cmp within at = subst (λ (r : KeyRange). range ≡ common_of cmp within r) c.range.ensures.bounds c.common_range-range.ensures in (
      λ e. other_kind (IsIn cmp (common_of cmp within at)) (IsInBoth cmp within at) (λ user both. common_in cmp total within at user both) all
          (subst (λ (r : KeyRange). AreFallingIn (IsIn cmp r) all) bounds (same_in_range cmp (holds_tells cmp) range walked all same (c.in_ok-falls_in.ensures.falls.0 e))),
      λ h. c.in_ok-falls_in.ensures.falls.1 (same_in_range cmp (holds_tells cmp) range all walked (sym same)
          (subst (λ (r : KeyRange). AreFallingIn (IsIn cmp r) all) (sym bounds)
          (other_kind (IsInBoth cmp within at) (IsIn cmp (common_of cmp within at)) (λ user one. in_common cmp total within at user one) all h))),
    )
