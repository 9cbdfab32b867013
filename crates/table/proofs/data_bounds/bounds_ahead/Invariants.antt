use Rattle.std.proofs.Common.{◌≡◌, [], length, Some}
use Rattle.std.specs.Option.{option_map}
use Rattle.block.specs.BuilderView.{last_key}
use Rattle.table.specs.EntryTests.{entries_test}
use Rattle.table.specs.TallySteps.{tally_after}
use Rattle.table.proofs.data_bounds.bounds_ahead.Given as goal

abbrev pub invariant-loop-largest : goal.invariant-loop-largest
invariant-loop-largest g l = record {
  bytes : l.cursor.bytes ≡ l.fn.cursor.bytes;
  all : l.cursor.all ≡ l.fn.cursor.all;
  tests : entries_test g.C.Comparator.cmp (Some l.largest) l.cursor.ahead ≡ entries_test g.C.Comparator.cmp (option_map (λ key. key.bytes.now) l.fn.before) l.fn.cursor.ahead;
  last : last_key l.largest l.cursor.ahead ≡ last_key [] l.fn.cursor.ahead;
  tally : tally_after l.tally (Some l.largest) l.cursor.ahead ≡ tally_after l.fn.so_far (option_map (λ key. key.bytes.now) l.fn.before) l.fn.cursor.ahead;
}

abbrev pub decreases-loop-largest : goal.decreases-loop-largest
decreases-loop-largest g l = length l.cursor.ahead
