use Rattle.std.proofs.Common.{List, map, take}
use Rattle.std.specs.Prelude.{Contains}
use Rattle.table.specs.EncodedEntry.{Entry}
use Rattle.reads.specs.Lawful.{AreNewer}
use Rattle.checks.proofs.table_bounds.are_newer.Given as goal

-- what holds of each table so far
abbrev pub invariant-loop-other : goal.invariant-loop-other
invariant-loop-other g l = (entries : List Entry) → Contains (take l.other-index (map (λ t. t.now.entries) l.others)) entries → AreNewer entries l.table.entries
