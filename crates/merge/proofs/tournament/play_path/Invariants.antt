use Rattle.std.proofs.Common.{◌≡◌, [], map, length, get_or}
use Rattle.merge.specs.Tournament.{first_head}
use Rattle.merge.proofs.Tournaments.{IsOnPath}
use Rattle.merge.proofs.tournament.play_path.Given as goal

-- the winner so far is that of the node, with its head
abbrev pub invariant-loop-node : goal.invariant-loop-node
invariant-loop-node g l = record {
  path : IsOnPath g.C.Comparator.cmp (map g.S.Entries.remaining l.cursors) (length l.cursors) l.winners l.node;
  here : l.best ≡ get_or l.winners l.node 0;
  head : l.best_head ≡ first_head g.C.Comparator.head_of (get_or (map g.S.Entries.remaining l.cursors) l.best []);
}

abbrev pub decreases-loop-node : goal.decreases-loop-node
decreases-loop-node g l = l.node
