use Rattle.std.proofs.Common.{◌≡◌, ◌++◌, List}
use Rattle.faults.specs.KeyFaults.{SearchedEntry, first_break}
use Rattle.faults.specs.KeyWalk.{break_of}
use Rattle.faults.proofs.TakenFiles.{part_behind, taken_with}
use Rattle.faults.proofs.key_walk.take_user.Given as goal

-- the files so far have lost the entries of the user key
abbrev pub invariant-loop-file : goal.invariant-loop-file
invariant-loop-file g l = record {
  order : (rest : List SearchedEntry) → break_of l.order rest ≡ first_break (taken_with l.user l.file-index l.initial.files ++ rest);
  files : l.files ≡ part_behind l.user l.file-index l.initial.files;
}
