use Rattle.std.proofs.Common.{◌≡◌, true, map, take, drop}
use Rattle.merge.specs.InRange.{entries_in}
use Rattle.keep.specs.MergedLists.{entries_of_lists}
use Rattle.reads.specs.Ranges.{key_range}
use Rattle.c_api.specs.InputTables.{AreRead, entries_at}
use Rattle.c_api.specs.Merges.{are_inputs}
use Rattle.c_api.proofs.input_tables.cursors_over.Given as goal

-- the cursors so far have the entries of the inputs so far in the range; the other inputs are to
-- come
abbrev pub invariant-loop-input : goal.invariant-loop-input
invariant-loop-input g l =
    record {
      lent : are_inputs l.keys l.tables (drop l.input-index l.inputs) ≡ true;
      read : AreRead g.C.Comparator.cmp l.keys l.tables (drop l.input-index l.inputs);
      held : entries_in g.C.Comparator.cmp (key_range l.range) (entries_of_lists l.cursors.items)
          ≡ entries_in g.C.Comparator.cmp (key_range l.range) (entries_of_lists (map (entries_at g.C.Comparator.cmp l.keys l.tables) (take l.input-index l.inputs)));
    }
