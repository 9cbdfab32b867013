use Rattle.std.proofs.Common.{◌≡◌, ◌++◌}
use Rattle.std.specs.Vec.Iter.{into_iter_items}
use Rattle.checks.specs.TablePlaces.{placed_tables}
use Rattle.checks.proofs.table_places.placed_tables.Given as goal

-- the tables so far, and those of the rest, are the tables of all
abbrev pub invariant-loop-place : goal.invariant-loop-place
invariant-loop-place g l =
    l.tables.items ++ placed_tables (into_iter_items l.place-iterator) (into_iter_items l.ahead) ≡ placed_tables l.fn.places.items l.fn.fresh.items
