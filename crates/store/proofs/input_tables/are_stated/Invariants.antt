use Rattle.std.proofs.Common.{◌≡◌, drop}
use Rattle.store.specs.InputsCompaction.{are_stated}
use Rattle.store.proofs.input_tables.are_stated.Given as goal

-- the inputs that are left decide
abbrev pub invariant-loop-place : goal.invariant-loop-place
invariant-loop-place g l = are_stated l.inputs l.tables ≡ are_stated (drop l.place l.inputs) (drop l.place l.tables)
