use Rattle.std.proofs.Common.{◌^◌, ℕ, sym, ap, ◌∙◌}
use Rattle.std.specs.Prelude.{Bool, ◌&&◌, nat_le}
use Rattle.cut.specs.PlanInvariant.{block_count}
use Rattle.cut.proofs.Planned.{count_le}
use Rattle.cut.proofs.output_plan.are_small.Goals as goal

pub returns-then-are_short : goal.returns-then-are_short
returns-then-are_short c =
    let few = ap (λ (n : ℕ). nat_le n (2 ^ 40)) c.count_blocks.ensures ∙ count_le (block_count c.args.outputs.now) in
    few ∙ ap (λ (b : Bool). b && nat_le (block_count c.args.outputs.now) (2 ^ 40)) (sym c.if-are_short.true ∙ c.are_short.ensures)
