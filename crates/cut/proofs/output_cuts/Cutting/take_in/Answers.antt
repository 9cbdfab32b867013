use Rattle.std.proofs.Common.{◌≤◌, ◌-◌, ℕ, List, take, drop, ap, ◌∙◌, arith}
use Rattle.block.specs.EncodedEntry.{Entry}
use Rattle.cut.specs.OutputCuts.{OutputsInProgress, outputs_left}
use Rattle.cut.proofs.Cuts.{take_some, drop_some}
use Rattle.cut.proofs.output_cuts.Cutting.take_in.Goals as goal

pub loop-left-preserved : goal.loop-left-preserved
loop-left-preserved c =
    let taken : ℕ = c.in_ok-left.field-0 in
    let left : ℕ = c.loop-left.left in
    let behind : List Entry = c.loop-left.self.behind in
    let now : OutputsInProgress = c.step.new.self in
    let le : taken ≤ left = omega (arith, c.in_ok-left.ensures.most, c.min-most.ensures) in
    record {
      outputs =
          ap (λ (es : List Entry). outputs_left now (take (left - taken) es)) c.in_ok-left.ensures.behind
          ∙ c.in_ok-left.ensures.left (take (left - taken) (drop taken behind))
          ∙ ap (λ (es : List Entry). outputs_left c.loop-left.self es) (take_some left taken behind le)
          ∙ c.loop-left.invariant.outputs;
      behind = ap (drop (left - taken)) c.in_ok-left.ensures.behind ∙ drop_some left taken behind le ∙ c.loop-left.invariant.behind;
      options = c.in_ok-left.ensures.options ∙ c.loop-left.invariant.options;
    }
