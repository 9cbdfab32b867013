use Rattle.std.proofs.Common.{◌-◌, length, map}
use Rattle.c_api.specs.Runs.{lengths_of}
use Rattle.c_api.proofs.RunWrites.{WrittenSoFar}
use Rattle.c_api.proofs.run_entries.put_lengths.Given as goal

abbrev pub invariant-loop-place : goal.invariant-loop-place
invariant-loop-place l = WrittenSoFar (map lengths_of) l.run.kept 0 l.fn.room l.room l.place l.place

abbrev pub decreases-loop-place : goal.decreases-loop-place
decreases-loop-place l = length l.run.kept - l.place
