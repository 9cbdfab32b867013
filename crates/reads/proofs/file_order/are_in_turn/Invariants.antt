use Rattle.std.proofs.Common.{◌≡◌, ℕ, ◌+◌, ◌<◌, true}
use Rattle.std.specs.Prelude.{slice_index_or}
use Rattle.reads.specs.declared.level_file.LevelFile.{LevelFile}
use Rattle.reads.specs.FileChecks.{stands_before}
use Rattle.reads.specs.FileList.{level_file_in}
use Rattle.reads.proofs.file_order.are_in_turn.Given as goal

-- each file so far stands before the one after it
abbrev pub invariant-loop-place : goal.invariant-loop-place
invariant-loop-place g l =
    (k : ℕ) (d : LevelFile) → k + 1 < l.place → stands_before g.C.Comparator.cmp (level_file_in (slice_index_or l.files k d)) (level_file_in (slice_index_or l.files (k + 1) d)) ≡ true
