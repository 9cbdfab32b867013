use Rattle.std.proofs.Common.{◌++◌, List, map, take, drop}
use Rattle.std.specs.Prelude.{Contains}
use Rattle.table.specs.EncodedEntry.{Entry}
use Rattle.checks.specs.TableBounds.{FallAlike}
use Rattle.checks.proofs.table_bounds.tables_to_walk.Given as goal

-- with the rest, those so far fall as all do
abbrev pub invariant-loop-place : goal.invariant-loop-place
invariant-loop-place g l =
    let all : List (List Entry) = map (λ t. t.now.entries) l.tables in
    let walked : List (List Entry) = map (λ t. t.now.entries) l.walked.items in
    record {
      alike : FallAlike g.C.Comparator.cmp (walked ++ drop l.place all) all;
      from : (list : List Entry) → Contains walked list → Contains (take l.place all) list;
    }
