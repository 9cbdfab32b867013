use Rattle.std.proofs.Common.{◌≡◌, take}
use Rattle.std.specs.Prelude.{Contains}
use Rattle.std.specs.List.{All}
use Rattle.checks.specs.TablePlaces.{HasKept, place_numbers}
use Rattle.checks.proofs.table_places.reused_places.Given as goal

-- what is taken and what is ahead is held
abbrev pub invariant-loop-number : goal.invariant-loop-number
invariant-loop-number g l = record {
  ahead : All (Contains l.fn.held.items) l.ahead.items;
  kept : All (HasKept l.fn.held.items) l.places.items;
  numbers : place_numbers l.places.items ≡ take l.number-index l.numbers;
}
