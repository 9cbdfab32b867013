use Rattle.std.proofs.Common.{◌≡◌, take}
use Rattle.checks.specs.TablePlaces.{wanted_numbers}
use Rattle.checks.proofs.table_places.wanted_numbers.Given as goal

abbrev pub invariant-loop-place : goal.invariant-loop-place
invariant-loop-place g l = l.wanted.items ≡ wanted_numbers (take l.place-index l.places)
