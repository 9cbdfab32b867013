use Rattle.std.proofs.Common.{◌≡◌, ◌++◌, true, map, drop}
use Rattle.std.specs.List.{list_all}
use Rattle.c_api.specs.ToldRuns.{arrays_lent, is_run, run_at}
use Rattle.c_api.proofs.run_places.LentArrays.runs.Given as goal

abbrev pub invariant-loop-places : goal.invariant-loop-places
invariant-loop-places l =
    record {
      lent : list_all (is_run (arrays_lent l.self)) (drop l.places-index l.runs) ≡ true;
      all : l.all.items ++ map (run_at (arrays_lent l.self)) (drop l.places-index l.runs) ≡ map (run_at (arrays_lent l.self)) l.runs;
    }
