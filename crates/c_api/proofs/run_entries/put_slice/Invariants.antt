use Rattle.c_api.specs.Runs.{bytes_of}
use Rattle.c_api.proofs.RunWrites.{WrittenSoFar}
use Rattle.c_api.proofs.run_entries.put_slice.Given as goal

abbrev pub invariant-loop-place : goal.invariant-loop-place
invariant-loop-place l = WrittenSoFar bytes_of l.entries l.at l.fn.room l.room l.place l.end
