use Rattle.std.proofs.Common.{◌∙◌, ap}
use Rattle.cut.specs.BlockNumbers.{output_ends}
use Rattle.cut.proofs.output_plan.plan_with.Goals as goal

pub invariant_of-result : goal.invariant_of-result
invariant_of-result g c = record {
  limits = c.requires.limits;
  each = c.requires.each;
  few = c.requires.few;
  ends_are = c.in_ok-ends.ensures.ok ∙ ap (output_ends 0) c.deref.ensures.value;
}
