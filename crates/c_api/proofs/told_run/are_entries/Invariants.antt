use Rattle.std.proofs.Common.{◌≡◌, drop}
use Rattle.c_api.specs.ToldRuns.{are_entries}
use Rattle.c_api.proofs.told_run.are_entries.Given as goal

abbrev pub invariant-loop-both : goal.invariant-loop-both
invariant-loop-both l = are_entries l.rest (drop l.both-index l.lengths) ≡ are_entries l.bytes l.lengths
