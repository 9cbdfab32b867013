use Rattle.std.proofs.Common.{◌≡◌, ◌+◌, ◌-◌, ◌<◌, ◌≤◌, ℕ, List, length, get_or, leb, leb-true, sym, ap, subst, ◌∙◌, arith, rules}
use Rattle.std.specs.Prelude.{Some}
use Rattle.std.specs.List.Sorted.{IsNonDecreasingBy}
use Rattle.std.proofs.lemmas.Bool.{leb-false}
use Rattle.std.proofs.lemmas.List.Sorted.{IsPartitionPoint-from_clause, IsPartitionedBy-leb}
use Rattle.std.proofs.lemmas.Option.{slice_get-get_or}
use Rattle.cut.specs.declared.planned_block.PlannedBlock.{PlannedBlock}
use Rattle.cut.specs.declared.planned_output.PlannedOutput.{PlannedOutput}
use Rattle.cut.specs.BlockNumbers.{output_ends}
use Rattle.cut.proofs.NumberedBlocks.{IsBlockIn, block_there, end_within, ends_counted, ends_sorted, output_there}
use Rattle.cut.proofs.block_numbers.block_of.Goals as goal
use Rattle.cut.proofs.block_numbers.block_of.Goals.{After-partition_point-place}

-- what the search finds
found : (c : After-partition_point-place) → IsBlockIn c.args.outputs.now 0 c.args.job c.partition_point-place.result
found c =
    let place : ℕ = c.partition_point-place.result in
    let sorted : IsNonDecreasingBy (λ (end : ℕ). end) c.args.ends.now = subst (IsNonDecreasingBy (λ (end : ℕ). end)) (sym c.requires.ends) (ends_sorted 0 c.args.outputs.now) in
    let point = IsPartitionPoint-from_clause (λ (end : ℕ). leb end c.args.job) c.args.ends.now place c.partition_point-place.ensures.partitioned (IsPartitionedBy-leb (λ (end : ℕ). end) c.args.ends.now c.args.job sorted) (λ a r q k. search rules) in
    let counted : length c.args.ends.now ≡ length c.args.outputs.now = ap length c.requires.ends ∙ ends_counted 0 c.args.outputs.now in
    record {
      from = omega arith;
      to = omega (arith, c.requires.within);
      before = λ i lt within. subst (λ (ends : List ℕ). get_or ends i 0 ≤ c.args.job) c.requires.ends (leb-true _ _ (point.0 i 0 (omega arith) lt));
      behind = λ lt. subst (λ (ends : List ℕ). c.args.job < get_or ends place 0) c.requires.ends (leb-false _ _ (point.1 place 0 (omega arith) (omega (arith, lt, counted))));
    }

-- the output that has the block
there : (c : After-partition_point-place) → c.partition_point-place.result < length c.args.outputs.now
there c = output_there c.args.outputs.now 0 c.args.job c.partition_point-place.result (found c)

-- it ends behind the block, but no more blocks behind it than it has
above : (c : After-partition_point-place) → c.args.job < get_or c.args.ends.now c.partition_point-place.result 0
above c = subst (λ (ends : List ℕ). c.args.job < get_or ends c.partition_point-place.result 0) (sym c.requires.ends) ((found c).behind (there c))

within : (c : After-partition_point-place) (p : PlannedOutput) → get_or c.args.outputs.now c.partition_point-place.result p ≡ p → get_or c.args.ends.now c.partition_point-place.result 0 ≤ c.args.job + length p.blocks.items
within c p is = subst (λ (ends : List ℕ). get_or ends c.partition_point-place.result 0 ≤ c.args.job + length p.blocks.items) (sym c.requires.ends) (end_within c.args.outputs.now 0 c.args.job c.partition_point-place.result p (found c) is)

pub offset_bounds-outputs-place : goal.offset_bounds-outputs-place
offset_bounds-outputs-place c = omega (arith, there c)

pub bounds-outputs-place : goal.bounds-outputs-place
bounds-outputs-place c = there c

pub bounds-ends-place : goal.bounds-ends-place
bounds-ends-place c =
    let s = (goal.at.bounds-ends-place c).After-partition_point-place in
    omega (arith, there s, ap length c.requires.ends, ends_counted 0 c.args.outputs.now)

pub overflow_sub-left : goal.overflow_sub-left
overflow_sub-left c = omega (arith, above (goal.at.overflow_sub-left c).After-partition_point-place)

pub overflow_sub-block : goal.overflow_sub-block
overflow_sub-block c =
    let s = (goal.at.overflow_sub-block c).After-partition_point-place in
    omega (arith, within s c.index-outputs-place.result (sym c.index-outputs-place.is), c.len.ensures)

pub index-requires : goal.index-requires
index-requires c =
    let s = (goal.at.index-requires c).After-partition_point-place in
    omega (arith, above s, within s c.index-outputs-place.result (sym c.index-outputs-place.is), c.len.ensures)

pub returns : goal.returns
returns c =
    let s = (goal.at.returns c).After-partition_point-place in
    let place : ℕ = c.partition_point-place.result in
    let p : PlannedOutput = c.index-outputs-place.result in
    let is : get_or c.args.outputs.now place p ≡ p = sym c.index-outputs-place.is in
    let blocks : List PlannedBlock = p.blocks.items in
    let i : ℕ = c.len.result - (get_or c.args.ends.now place 0 - c.args.job) in
    let lt : i < length blocks = omega (arith, above s, within s p is, c.len.ensures) in
    let end : i + get_or (output_ends 0 c.args.outputs.now) place 0 ≡ c.args.job + length blocks =
    omega (arith, above s, within s p is, c.len.ensures, ap (λ (ends : List ℕ). get_or ends place 0) c.requires.ends) in
    block_there c.args.outputs.now 0 c.args.job place i c.args.job p (found s) is end lt (omega arith)
    ∙ slice_get-get_or blocks i c.index.result.now lt
    ∙ ap (λ (b : PlannedBlock). Some b) (sym c.index.ensures)
