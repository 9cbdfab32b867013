use Rattle.std.proofs.Common.{◌≡◌, map, take}
use Rattle.reads.specs.Tables.{table_entries}
use Rattle.reads.proofs.lawfulness.tables_of.Given as goal

abbrev pub invariant-loop-file : goal.invariant-loop-file
invariant-loop-file g l = map (λ t. t.now.entries) l.found.items ≡ map (λ f. table_entries l.tables f.meta.now.number) (take l.file-index l.files)
