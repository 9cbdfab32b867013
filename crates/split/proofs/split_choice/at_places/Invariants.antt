use Rattle.std.proofs.Common.{map}
use Rattle.split.proofs.Places.{Taken}
use Rattle.split.proofs.split_choice.at_places.Given as goal

abbrev pub invariant-loop-number : goal.invariant-loop-number
invariant-loop-number g l = Taken g.C.Comparator.cmp (map (λ key. key.now) l.keys) l.want l.number l.free (map (λ key. key.items) l.boundaries.items)
