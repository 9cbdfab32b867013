use Rattle.std.proofs.Common.{◌≡◌, ◌-◌, ◌++◌, map, drop, length}
use Rattle.split.specs.SplitChoice.{each_after, every}
use Rattle.split.proofs.split_choice.push_lent.Given as goal

abbrev pub invariant-loop-place : goal.invariant-loop-place
invariant-loop-place l = map (λ key. key.now) l.keys.items ++ each_after (l.step - 1) 0 (drop l.place l.list) ≡ map (λ key. key.now) l.fn.keys.items ++ every l.step l.list

abbrev pub decreases-loop-place : goal.decreases-loop-place
decreases-loop-place l = length l.list - l.place
