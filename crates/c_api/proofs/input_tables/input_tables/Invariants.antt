use Rattle.std.proofs.Common.{◌≡◌, ◌++◌, true, drop}
use Rattle.c_api.specs.Boundaries.{tables_read}
use Rattle.c_api.specs.InputTables.{AreRead}
use Rattle.c_api.specs.Merges.{are_inputs}
use Rattle.c_api.proofs.input_tables.input_tables.Given as goal

abbrev pub invariant-loop-input : goal.invariant-loop-input
invariant-loop-input g l =
    record {
      lent : are_inputs l.keys l.tables (drop l.input-index l.inputs) ≡ true;
      read : AreRead g.C.Comparator.cmp l.keys l.tables (drop l.input-index l.inputs);
      all : l.all.items ++ tables_read g.C.Comparator.cmp l.tables (drop l.input-index l.inputs) ≡ tables_read g.C.Comparator.cmp l.tables l.inputs;
    }
