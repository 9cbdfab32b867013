use Rattle.std.proofs.Common.{◌≡◌, length}
use Rattle.disk.proofs.made_table.files_of.Given as goal

-- a file for each table so far
abbrev pub invariant-loop-number : goal.invariant-loop-number
invariant-loop-number l = length l.files.items ≡ l.number-index
