use Rattle.merge.proofs.Tournaments.{IsBegun}
use Rattle.merge.proofs.tournament.bracket.Given as goal

abbrev pub invariant-loop-place : goal.invariant-loop-place
invariant-loop-place l = IsBegun l.number l.place l.winners.items
