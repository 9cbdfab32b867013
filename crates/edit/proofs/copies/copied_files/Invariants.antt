use Rattle.std.proofs.Common.{◌≡◌, ◌++◌, drop}
use Rattle.edit.proofs.copies.copied_files.Given as goal

-- what is copied and what is left to copy make the whole
abbrev pub invariant-loop-file : goal.invariant-loop-file
invariant-loop-file l = l.copies.items ++ drop l.file-index l.files ≡ l.files
