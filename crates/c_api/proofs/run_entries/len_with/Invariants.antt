use Rattle.std.proofs.Common.{◌≡◌, ◌+◌, length, take}
use Rattle.c_api.specs.Runs.{bytes_of}
use Rattle.c_api.proofs.run_entries.len_with.Given as goal

-- the bytes so far are those of the entries so far
abbrev pub invariant-loop-place : goal.invariant-loop-place
invariant-loop-place l = l.sum ≡ l.len + length (bytes_of (take l.place l.entries))
