use Rattle.std.proofs.Common.{map, refl}
use Rattle.folder.proofs.ReportLemmas.{reports_handed, reports_then}
use Rattle.pick.specs.PickedInputs.{picked_in}
use Rattle.levels.proofs.PartsOver.{end_named, end_within}
use Rattle.levels.proofs.level_compaction.compact_parts.Goals as goal

pub returns-in_err-written-clause-end : goal.returns-in_err-written-clause-end
returns-in_err-written-clause-end g c =
    end_within g.F.Folder g.C.Comparator.name_bytes g.C.Comparator.cmp g.C.Comparator.short_keys c.args.opened.now.version c.args.opened.now.manifest (map picked_in c.args.parts.now) c.args.settings.now c.args.folder.now
    c.write_parts.new.folder c.write_parts.result c.in_err-written.field-0.0 c.from_residual.result c.in_err-written.was c.from_residual.ensures.1 c.write_parts.ensures.written

pub returns-in_err-written-clause-device : goal.returns-in_err-written-clause-device
returns-in_err-written-clause-device g c = reports_handed c.from_residual.result c.in_err-written.was c.write_parts.ensures.device c.from_residual.ensures.1

pub returns-clause-end : goal.returns-clause-end
returns-clause-end g c =
    end_named g.F.Folder g.C.Comparator.name_bytes g.C.Comparator.cmp g.C.Comparator.short_keys c.args.opened.now.version c.args.opened.now.manifest (map picked_in c.args.parts.now) c.args.settings.now c.args.folder.now
    c.write_parts.new.folder c.write_parts.result c.in_ok-written.written c.in_ok-written.was c.write_parts.ensures.written
    (g.met.C.Comparator g.world.𝓛 g.world.𝓜 g.world.𝓡 ((λ s x. x), (λ x. x), (λ x. x), λ x. x)).total c.write_parts.ensures.device.later (λ lt. cc (c.in_ok-written.ensures.device.at_once lt))
    c.name_edits.new.folder _ refl refl c.name_edits.result c.name_edits.ensures.named

pub returns-clause-device : goal.returns-clause-device
returns-clause-device g c = reports_then c.in_ok-written.was c.write_parts.ensures.device c.name_edits.ensures.device
