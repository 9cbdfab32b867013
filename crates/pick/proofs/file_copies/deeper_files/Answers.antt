use Rattle.std.proofs.Common.{◌-◌, List, Result, Ok, sym, ap, ◌∙◌}
use Rattle.std.specs.Global.{Vec}
use Rattle.edit.specs.fault.Fault.{Fault}
use Rattle.edit.proofs.Binds.{ok_is}
use Rattle.edit.specs.VersionOrder.{level_files}
use Rattle.edit.specs.declared.meta.FileMeta.{FileMeta}
use Rattle.pick.specs.PickedInputs.{files_from}
use Rattle.pick.proofs.Lists.{lent}
use Rattle.pick.proofs.LaterLevels.{deeper_on, deeper_all}
use Rattle.pick.proofs.file_copies.deeper_files.Goals as goal

abbrev metas : List FileMeta → Result (List FileMeta) Fault
metas files = Ok files

pub loop-level-preserved : goal.loop-level-preserved
loop-level-preserved g c =
    let cmp = g.C.Comparator.cmp in
    let v = c.args.version.now in
    deeper_on cmp v c.loop-level.level c.loop-level.deeper.items c.push_copies.new.copies.items (lent c.deref.result.now) (files_from cmp v c.args.from (7 - c.args.from)) c.loop-level-test.true c.loop-level.invariant
    (rw c.deref.ensures.value (sym (ok_is (level_files cmp v c.loop-level.level) (lent c.in_ok-files.files.items) c.in_ok-files.ensures.ordered))) c.in_ok-push_copies.ensures.ok

pub returns : goal.returns
returns g c =
    ap metas (deeper_all g.C.Comparator.cmp c.args.version.now c.loop-level.level c.loop-level.deeper.items (files_from g.C.Comparator.cmp c.args.version.now c.args.from (7 - c.args.from)) c.loop-level-test.false c.loop-level.invariant)
    ∙ ap (λ (files : Vec FileMeta). metas files.items) (sym c.in_ok-new.ensures.ok)
