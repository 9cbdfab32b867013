use Rattle.std.proofs.Common.{◌≡◌, ◌+◌, ◌-◌, ◌^◌, ◌≤◌, drop}
use Rattle.coding.specs.Saturated.{saturated}
use Rattle.cut.specs.PlanInvariant.{block_count}
use Rattle.cut.proofs.output_plan.count_blocks.Given as goal

abbrev pub invariant-loop-output : goal.invariant-loop-output
invariant-loop-output l = record {
  sum : saturated (l.count + block_count (drop l.output-index l.outputs)) ≡ saturated (block_count l.outputs);
  fits : l.count ≤ 2 ^ 64 - 1;
}
