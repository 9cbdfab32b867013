use Rattle.std.proofs.Common.{◌-◌}
use Rattle.levels.proofs.part_writer.+write_range.Given as goal

-- how many parts are left
abbrev pub decreases-write_range : goal.decreases-write_range
decreases-write_range g l = l.to - l.from
