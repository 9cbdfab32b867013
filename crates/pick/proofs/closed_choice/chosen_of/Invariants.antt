use Rattle.std.proofs.Common.{◌≡◌, ◌++◌, drop}
use Rattle.std.specs.List.{filter}
use Rattle.pick.specs.ClosedChoice.{has_number_of}
use Rattle.pick.proofs.Lists.{lent}
use Rattle.pick.proofs.closed_choice.chosen_of.Given as goal

-- the files so far, and then those of the rest
abbrev pub invariant-loop-file : goal.invariant-loop-file
invariant-loop-file l =
    lent l.chosen.items ++ filter (has_number_of l.numbers) (lent (drop l.file-index l.files)) ≡ filter (has_number_of l.numbers) (lent l.files)
