use Rattle.std.proofs.Common.{map, arith}
use Rattle.std.proofs.lemmas.List.{length-map}
use Rattle.folder.proofs.ReportLemmas.{reports_then}
use Rattle.pick.specs.PickedInputs.{picked_in}
use Rattle.levels.proofs.PartsAt.{part_at}
use Rattle.levels.proofs.PartsSoFar.{range_one}
use Rattle.levels.proofs.part_writer.+write_range.Goals as goal

pub returns-then-count-eq1-clause-written : goal.returns-then-count-eq1-clause-written
returns-then-count-eq1-clause-written g t c =
    let w = c.write_part.ensures.written in
    let count = length-map c.args.task.now.parts.now picked_in in
    let one = c.if-count-eq1.true in
    let within = c.requires.within in
    let ordered = c.requires.ordered in
    range_one g.F.Folder g.C.Comparator.cmp g.C.Comparator.short_keys c.args.task.now.version.now c.args.task.now.settings.now (map picked_in c.args.task.now.parts.now) c.args.from c.args.to c.args.written.now c.write_part.new.written c.args.folder.now c.write_part.new.folder
    (picked_in w.0) c.write_part.result (part_at c.args.task.now.parts.now c.args.from w.0 w.1) (omega (arith, count, one, within, ordered)) (omega (arith, one, ordered)) c.write_part.ensures.device w.2

pub returns-clause-device : goal.returns-clause-device
returns-clause-device g t c = reports_then c.in_ok-write_range.was c.write_range.ensures.device c.write_range-2.ensures.device
