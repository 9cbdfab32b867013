use Rattle.std.proofs.Common.{◌≡◌, ◌++◌, true, None, map, drop}
use Rattle.std.specs.List.{list_all}
use Rattle.table.specs.EntryTests.{entries_test, last_key_after}
use Rattle.c_api.specs.Outputs.{entry_at, is_entry}
use Rattle.c_api.proofs.output_calls.building.Given as goal

-- the entries so far passed their tests, and then those of the rest
abbrev pub invariant-loop-entry : goal.invariant-loop-entry
invariant-loop-entry g l =
    record {
      options : l.table.options ≡ l.fn.options;
      lent : list_all (is_entry l.keys l.values) (drop l.entry-index l.entries) ≡ true;
      all : l.table.entries ++ map (entry_at l.keys l.values) (drop l.entry-index l.entries) ≡ map (entry_at l.keys l.values) l.entries;
      tested : entries_test g.C.Comparator.cmp None (map (entry_at l.keys l.values) l.entries) ≡ entries_test g.C.Comparator.cmp (last_key_after None l.table.entries) (map (entry_at l.keys l.values) (drop l.entry-index l.entries));
    }
