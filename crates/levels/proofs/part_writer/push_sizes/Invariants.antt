use Rattle.std.proofs.Common.{◌≡◌, ◌++◌, take}
use Rattle.install.specs.Install.{tables_in}
use Rattle.compact.specs.GroupedAnswer.{table_sizes}
use Rattle.levels.proofs.part_writer.push_sizes.Given as goal

-- the sizes so far are those of the tables so far
abbrev pub invariant-loop-number : goal.invariant-loop-number
invariant-loop-number l = l.outputs.items ≡ l.fn.outputs.items ++ table_sizes (tables_in (take l.number-index l.tables))
