use Rattle.std.proofs.Common.{◌≡◌, Bor, List, ℕ, map, take}
use Rattle.reads.specs.TableContents.{Contents}
use Rattle.store.proofs.input_tables.bytes_of.Given as goal

abbrev pub invariant-loop-table : goal.invariant-loop-table
invariant-loop-table g l = map (λ (b : Bor (List ℕ)). b.now) l.all.items ≡ map (λ (t : Contents). t.bytes) (take l.table-index l.tables)
