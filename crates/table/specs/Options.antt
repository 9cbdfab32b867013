-- The limits of the options of a writer of tables.
use Rattle.std.specs.Prelude.{◌≤◌, nat_le, Bool, ◌&&◌}
use Rattle.table.specs.declared.options.Options.{Options}
use Rattle.table.specs.declared.options.TheConstants.{MAX_BLOCK_SIZE}
use Rattle.block.specs.declared.builder.TheConstants.{MAX_RESTART_INTERVAL}
use Rattle.table.specs.declared.table_check.TheConstants.{MAX_TABLE_LEN}

-- whether each option is in its limits: block size 1 to 4,194,304, restart interval 1 to 1,024,
-- maximal file size 1 to 2 ^ 30
abbrev pub are_in_limits : Options → Bool
are_in_limits o =
    nat_le 1 o.block_size && nat_le o.block_size MAX_BLOCK_SIZE
    && nat_le 1 o.restart_interval && nat_le o.restart_interval MAX_RESTART_INTERVAL
    && nat_le 1 o.file_size && nat_le o.file_size MAX_TABLE_LEN

-- The same as a fact: the test passes exactly if it holds.
pub record AreInLimits (o : Options) : Type 0 where
  pub block_size_some : 1 ≤ o.block_size
  pub block_size_le : o.block_size ≤ MAX_BLOCK_SIZE
  pub interval_some : 1 ≤ o.restart_interval
  pub interval_le : o.restart_interval ≤ MAX_RESTART_INTERVAL
  pub file_size_some : 1 ≤ o.file_size
  pub file_size_le : o.file_size ≤ MAX_TABLE_LEN
