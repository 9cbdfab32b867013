use Rattle.std.proofs.Common.{◌≡◌, ◌*◌, ◌≤◌, drop}
use Rattle.keep.specs.Runs.{joined_marks}
use Rattle.cut.specs.Stops.{stops}
use Rattle.cut.specs.OverlapStops.{all_stops, AreCounted}
use Rattle.cut.proofs.stops.stops.Given as goal

abbrev pub invariant-loop-run : goal.invariant-loop-run
invariant-loop-run l = record {
  found : all_stops l.grandparents l.file_size l.found (joined_marks l.passed (drop l.run-index l.runs)) ≡ stops l.grandparents l.file_size (joined_marks 0 l.runs);
  counted : AreCounted l.grandparents l.file_size l.found;
  few : l.passed ≤ 18446744073709551615 * l.run-index;
}
