use Rattle.std.proofs.Common.{◌≡◌, ◌++◌, map}
use Rattle.reads.specs.Tables.{NumberedContents}
use Rattle.store.proofs.input_tables.without_numbers.Given as goal

-- with those of the tables that are left, these are all
abbrev pub invariant-loop-table : goal.invariant-loop-table
invariant-loop-table g l =
    l.unnumbered.items ++ map (λ (t : NumberedContents). t.contents) l.table-iterator.rest.items ≡ map (λ (t : NumberedContents). t.contents) l.fn.tables.items
