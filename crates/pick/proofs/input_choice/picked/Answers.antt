use Rattle.std.proofs.Common.{◌+◌, ◌-◌, nat_lt, cond, [], sym, ◌∙◌}
use Rattle.std.specs.Arc.{arc_value}
use Rattle.std.specs.List.{filter}
use Rattle.edit.proofs.Binds.{ok_is}
use Rattle.edit.specs.VersionOrder.{level_files}
use Rattle.pick.specs.Choices.{is_in}
use Rattle.pick.specs.PickedInputs.{files_from}
use Rattle.pick.proofs.LevelInputs.{same_picked}
use Rattle.pick.proofs.input_choice.picked.Goals as goal

pub returns : goal.returns
returns g c =
    let cmp = g.C.Comparator.cmp in
    let v = c.args.version.now in
    let level = c.args.level in
    let grandparents = cond (nat_lt 6 (level + 2)) [] (filter (is_in cmp c.args.range) (level_files cmp v (level + 2))) in
    let deeper = files_from cmp v (level + 2) (7 - (level + 2)) in
    same_picked level c.args.files.items grandparents c.in_ok-grandparents.field-0.items deeper (arc_value c.in_ok-deeper_files.field-0).items c.args.largest.now c.in_ok-of.field-0
    (ok_is grandparents c.in_ok-grandparents.field-0.items c.in_ok-grandparents.ensures) (ok_is deeper (arc_value c.in_ok-deeper_files.field-0).items c.in_ok-deeper_files.ensures)
    (sym c.as_key.ensures ∙ ok_is c.as_key.result.bytes.now c.in_ok-of.field-0 c.in_ok-of.ensures)
