use Rattle.std.proofs.Common.{◌+◌, map}
use Rattle.c_api.specs.Runs.{lengths_of}
use Rattle.c_api.proofs.RunWrites.{WrittenSoFar}
use Rattle.c_api.proofs.run_entries.put_lengths_of.Given as goal

abbrev pub invariant-loop-place : goal.invariant-loop-place
invariant-loop-place l = WrittenSoFar (map lengths_of) l.entries l.at l.fn.room l.room l.place (l.at + l.place)
