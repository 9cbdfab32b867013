use Rattle.std.proofs.Common.{take}
use Rattle.std.specs.List.{All}
use Rattle.reads.specs.Lawful.{IsBelowNextFile}
use Rattle.store.proofs.version_files.are_below.Given as goal

-- the numbers of the files so far are below it
abbrev pub invariant-loop-file : goal.invariant-loop-file
invariant-loop-file l = All (λ f. IsBelowNextFile l.next f.now.number) (take l.file-index l.files)
