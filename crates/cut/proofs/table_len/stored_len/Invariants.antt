use Rattle.std.proofs.Common.{◌≡◌, ◌+◌, ◌-◌, ◌^◌, ◌≤◌, drop}
use Rattle.coding.specs.Saturated.{saturated}
use Rattle.cut.specs.TableLength.{lens_of}
use Rattle.cut.proofs.table_len.stored_len.Given as goal

abbrev pub invariant-loop-block : goal.invariant-loop-block
invariant-loop-block l = record {
  sum : saturated (l.len + lens_of (drop l.block-index l.blocks)) ≡ saturated (lens_of l.blocks);
  fits : l.len ≤ 2 ^ 64 - 1;
}
