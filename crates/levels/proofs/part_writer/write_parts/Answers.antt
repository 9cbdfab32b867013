use Rattle.std.proofs.Common.{length, map, sym}
use Rattle.std.proofs.lemmas.List.{length-map}
use Rattle.folder.proofs.ReportLemmas.{reports_after, reports_handed}
use Rattle.pick.specs.PickedInputs.{picked_in}
use Rattle.levels.proofs.PartsSoFar.{all_done, all_stopped}
use Rattle.levels.proofs.part_writer.write_parts.Goals as goal

pub returns-in_err-write_range-clause-written : goal.returns-in_err-write_range-clause-written
returns-in_err-write_range-clause-written g c =
    all_stopped g.F.Folder g.C.Comparator.cmp g.C.Comparator.short_keys c.args.version.now c.args.settings.now (map picked_in c.args.parts.now) c.none-written.result c.write_range.new.written c.args.folder.now c.write_range.new.folder
    c.none-written.ensures.outputs c.none-written.ensures.edits c.none-written.ensures.last (length c.args.parts.now) (sym (length-map c.args.parts.now picked_in))
    c.write_range.result c.in_err-write_range.field-0.0 c.from_residual.result c.in_err-write_range.was c.from_residual.ensures.1 c.write_range.ensures.written

pub returns-in_err-write_range-clause-device : goal.returns-in_err-write_range-clause-device
returns-in_err-write_range-clause-device g c = reports_handed c.from_residual.result c.in_err-write_range.was c.write_range.ensures.device c.from_residual.ensures.1

pub returns-clause-written : goal.returns-clause-written
returns-clause-written g c =
    all_done g.F.Folder g.C.Comparator.cmp g.C.Comparator.short_keys c.args.version.now c.args.settings.now (map picked_in c.args.parts.now) c.none-written.result c.write_range.new.written c.args.folder.now c.write_range.new.folder
    c.none-written.ensures.outputs c.none-written.ensures.edits c.none-written.ensures.last (length c.args.parts.now) (sym (length-map c.args.parts.now picked_in))
    c.write_range.result c.in_ok-write_range.field-0 c.in_ok-write_range.was c.write_range.ensures.written

pub returns-clause-device : goal.returns-clause-device
returns-clause-device g c = reports_after _ c.in_ok-write_range.was c.write_range.ensures.device tt
