use Rattle.std.proofs.Common.{◌≡◌, take}
use Rattle.install.specs.Install.{tables_in}
use Rattle.compact.specs.GroupedAnswer.{table_sizes}
use Rattle.store.proofs.answered_steps.sizes_of.Given as goal

abbrev pub invariant-loop-number : goal.invariant-loop-number
invariant-loop-number l = l.sizes.items ≡ table_sizes (tables_in (take l.number-index l.tables))
