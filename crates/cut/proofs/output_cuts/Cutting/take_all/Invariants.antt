use Rattle.std.proofs.Common.{◌≡◌, length}
use Rattle.cut.specs.OutputCuts.{outputs_left}
use Rattle.cut.proofs.output_cuts.Cutting.take_all.Given as goal

abbrev pub invariant-loop-self : goal.invariant-loop-self
invariant-loop-self l = record {
  outputs : outputs_left l.self l.self.behind ≡ outputs_left l.initial.self l.initial.self.behind;
  options : l.self.options ≡ l.initial.self.options;
}

abbrev pub decreases-loop-self : goal.decreases-loop-self
decreases-loop-self l = length l.self.behind
