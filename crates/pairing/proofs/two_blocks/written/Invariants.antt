use Rattle.std.proofs.Common.{◌≡◌, ◌++◌, ◌≤◌, ◌^◌, length, drop}
use Rattle.block.specs.BlockFormat.{block}
use Rattle.pairing.specs.TestedUnion.{tested_entries}
use Rattle.pairing.proofs.two_blocks.written.Given as goal

abbrev pub invariant-loop-entry : goal.invariant-loop-entry
invariant-loop-entry l = record {
  interval : l.builder.interval ≡ 16;
  entries : l.builder.entries ++ tested_entries (drop l.entry-index l.entries) ≡ tested_entries l.entries;
  small : length (block 16 l.builder.entries) ≤ 2 ^ 30;
}
