use Rattle.std.proofs.Common.{◌≡◌, List, ◌++◌, map, drop}
use Rattle.keep.specs.declared.mark.Mark.{Mark}
use Rattle.keep.specs.Runs.{moved_mark}
use Rattle.cut.specs.OverlapStops.{all_stops, AreCounted}
use Rattle.cut.proofs.stops.Stopping.pass_all.Given as goal

abbrev pub invariant-loop-mark : goal.invariant-loop-mark
invariant-loop-mark l = record {
  stops : (rest : List Mark) → all_stops l.grandparents l.file_size l.self (map (moved_mark l.passed) (drop l.mark-index l.marks) ++ rest)
      ≡ all_stops l.grandparents l.file_size l.initial.self (map (moved_mark l.passed) l.marks ++ rest);
  counted : AreCounted l.grandparents l.file_size l.self;
}
