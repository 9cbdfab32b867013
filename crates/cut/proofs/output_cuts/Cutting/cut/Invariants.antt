use Rattle.std.proofs.Common.{◌≡◌, [], ◌++◌, drop}
use Rattle.std.specs.Prelude.{flat_map}
use Rattle.cut.specs.Outputs.{outputs_in, segments}
use Rattle.cut.proofs.output_cuts.Cutting.cut.Given as goal

abbrev pub invariant-loop-stop : goal.invariant-loop-stop
invariant-loop-stop l = record {
  outputs : l.self.outputs ++ flat_map (outputs_in l.self.options) (segments l.from (drop l.stop-index l.stops) l.self.behind)
      ≡ l.initial.self.outputs ++ flat_map (outputs_in l.initial.self.options) (segments 0 l.stops l.initial.self.behind);
  latest : l.self.latest ≡ [];
  options : l.self.options ≡ l.initial.self.options;
}
