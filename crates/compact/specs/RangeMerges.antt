-- What the runs of a compaction answer.
use Rattle.std.specs.Prelude.{ℕ, nat_le, ◌&&◌, List, Result, Ok}
use Rattle.ikey.specs.Answers.{◌>>=◌}
use Rattle.ikey.specs.fault.Fault.{Fault}
use Rattle.ikey.specs.fault.FaultName.TheVariants.{Workers}
use Rattle.ikey.specs.Comparator.{KeyOrder}
use Rattle.table.specs.EncodedEntry.{Entry}
use Rattle.table.specs.TestResult.{test_result}
use Rattle.keep.specs.Marks.{CompactionContext}
use Rattle.keep.specs.Runs.{Run, runs_of}
use Rattle.compact.specs.Inputs.{union_reading}

-- what a run by this many workers answers: Workers if they are outside 1 to 64, else this
abbrev pub by_workers : {A : Type 0} → ℕ → Result A Fault → Result A Fault
by_workers workers answer = test_result (nat_le 1 workers && nat_le workers 64) Workers >>=
    λ _. answer

-- the runs of the ranges between boundaries over the union of the inputs, or Duplicate if a user
-- key has one sequence twice
abbrev pub runs_reading : KeyOrder → CompactionContext → List (List ℕ) → List (List Entry) →
    Result (List Run) Fault
runs_reading cmp b boundaries inputs = union_reading cmp inputs >>=
    λ union. Ok (runs_of cmp b boundaries union)
