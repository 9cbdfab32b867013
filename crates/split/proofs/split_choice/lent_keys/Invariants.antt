use Rattle.std.proofs.Common.{◌≡◌, ◌++◌, map, drop}
use Rattle.std.specs.List.{flat_map}
use Rattle.split.specs.SplitChoice.{every}
use Rattle.split.proofs.split_choice.lent_keys.Given as goal

abbrev pub invariant-loop-list : goal.invariant-loop-list
invariant-loop-list l = map (λ key. key.now) l.keys.items ++ flat_map (λ list. every l.step list) (drop l.list-index l.lists) ≡ flat_map (λ list. every l.step list) l.lists
