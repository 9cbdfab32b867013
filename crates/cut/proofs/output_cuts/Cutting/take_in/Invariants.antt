use Rattle.std.proofs.Common.{◌≡◌, take, drop}
use Rattle.cut.specs.OutputCuts.{outputs_left}
use Rattle.cut.proofs.output_cuts.Cutting.take_in.Given as goal

abbrev pub invariant-loop-left : goal.invariant-loop-left
invariant-loop-left l = record {
  outputs : outputs_left l.self (take l.left l.self.behind) ≡ outputs_left l.initial.self (take l.count l.initial.self.behind);
  behind : drop l.left l.self.behind ≡ drop l.count l.initial.self.behind;
  options : l.self.options ≡ l.initial.self.options;
}

abbrev pub decreases-loop-left : goal.decreases-loop-left
decreases-loop-left l = l.left
