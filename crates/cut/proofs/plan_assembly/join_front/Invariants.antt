use Rattle.std.proofs.Common.{◌≡◌, ◌-◌, ◌++◌, take, drop}
use Rattle.std.specs.Prelude.{flat_map}
use Rattle.std.specs.Vec.Iter.{into_iter_items}
use Rattle.cut.proofs.plan_assembly.join_front.Given as goal

abbrev pub invariant-loop : goal.invariant-loop
invariant-loop l = record {
  joined : l.joined.items ++ flat_map (λ p. p.items) (take (l.count - l.counter) (into_iter_items l.rest)) ≡ flat_map (λ p. p.items) (take l.count (into_iter_items l.initial.rest));
  left : drop (l.count - l.counter) (into_iter_items l.rest) ≡ drop l.count (into_iter_items l.initial.rest);
}
