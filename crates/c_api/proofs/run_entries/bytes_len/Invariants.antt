use Rattle.std.proofs.Common.{◌≡◌, ◌-◌, ◌≤◌, length, take}
use Rattle.c_api.specs.Runs.{bytes_of}
use Rattle.c_api.proofs.run_entries.bytes_len.Given as goal

-- the bytes so far are those of the entries so far
abbrev pub invariant-loop-place : goal.invariant-loop-place
invariant-loop-place l = (l.place ≤ length l.run.kept) × (l.len ≡ length (bytes_of (take l.place l.run.kept)))

abbrev pub decreases-loop-place : goal.decreases-loop-place
decreases-loop-place l = length l.run.kept - l.place
