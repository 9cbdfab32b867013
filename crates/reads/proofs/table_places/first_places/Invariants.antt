use Rattle.std.proofs.Common.{◌≤◌, length}
use Rattle.reads.proofs.Places.{ArePlacesFrom}
use Rattle.reads.proofs.table_places.first_places.Given as goal

-- the places of the tables from here on
abbrev pub invariant-loop-place : goal.invariant-loop-place
invariant-loop-place g l = ArePlacesFrom l.tables l.places.entries l.place × (l.place ≤ length l.tables)

abbrev pub decreases-loop-place : goal.decreases-loop-place
decreases-loop-place g l = l.place
