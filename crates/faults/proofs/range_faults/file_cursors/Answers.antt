use Rattle.reads.specs.Ranges.{key_range}
use Rattle.faults.specs.RangeKeys.{IsCursorOf}
use Rattle.faults.proofs.FaultAnswers.{zip_more}
use Rattle.faults.proofs.range_faults.file_cursors.Goals as goal

pub loop-table-preserved : goal.loop-table-preserved
loop-table-preserved g c =
    zip_more (IsCursorOf g.C.Comparator.cmp (key_range c.args.range)) c.args.tables.now c.loop-table.cursors.items c.loop-table.table-index c.table-item.result c.in_ok-of.field-0 c.push.new.self.items c.loop-table-test.true c.table-item.is c.in_ok-push.ensures.items c.loop-table.invariant
    (record { number = c.in_ok-of.ensures.number; held = c.in_ok-of.ensures.held })
