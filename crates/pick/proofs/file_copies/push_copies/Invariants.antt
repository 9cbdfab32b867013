use Rattle.std.proofs.Common.{◌≡◌, ◌++◌, take}
use Rattle.pick.proofs.Lists.{lent}
use Rattle.pick.proofs.file_copies.push_copies.Given as goal

-- the copies before, and those of the files so far
abbrev pub invariant-loop-file : goal.invariant-loop-file
invariant-loop-file l = l.copies.items ≡ l.initial.copies.items ++ lent (take l.file-index l.files)
