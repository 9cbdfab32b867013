use Rattle.std.proofs.Common.{Bor, List, ◌≡◌, ◌+◌, ◌++◌, map, sym, ap, ◌∙◌}
use Rattle.std.specs.Arc.{arc_value}
use Rattle.std.specs.Global.{Vec}
use Rattle.std.specs.List.{filter}
use Rattle.edit.proofs.Binds.{ok_is}
use Rattle.edit.specs.declared.meta.FileMeta.{FileMeta}
use Rattle.pick.specs.Choices.{is_in}
use Rattle.pick.specs.PickedInputs.{input_at}
use Rattle.pick.specs.declared.picked_inputs.InputFile.{InputFile}
use Rattle.pick.proofs.LevelInputs.{inputs_lent, picked_as, same_picked}
use Rattle.pick.proofs.Lists.{lent}
use Rattle.pick.proofs.level_parts.part_in.Goals as goal

pub returns : goal.returns
returns g c =
    let cmp = g.C.Comparator.cmp in
    let level = c.args.sides.level in
    let upper = c.args.upper.now in
    let ahead = c.args.ahead in
    let range = c.args.range in
    let key = c.args.sides.key.now in
    let inputs = λ (at : _) (fs : List (Bor FileMeta)). map (λ (f : Bor FileMeta). input_at at f.now) fs in
    let deeper = (arc_value c.args.deeper.now).items in
    let lower : lent c.in_ok-lower.lower.items ≡ filter (is_in cmp range) (lent ahead.lower.now) = sym (ok_is (filter (is_in cmp range) (lent ahead.lower.now)) (lent c.in_ok-lower.lower.items) c.in_ok-lower.ensures) in
    let near : filter (is_in cmp range) (lent ahead.near.now) ≡ c.push_copies.new.copies.items =
    ok_is (filter (is_in cmp range) (lent ahead.near.now)) (lent c.in_ok-near.near.items) c.in_ok-near.ensures ∙ ap lent (sym c.deref.ensures.value)
    ∙ ap (λ (fs : List FileMeta). fs ++ lent c.deref.result.now) (sym c.in_ok-grandparents.ensures.items) ∙ sym c.in_ok-push_copies.ensures.ok in
    let files : inputs level upper ++ map (input_at (level + 1)) (filter (is_in cmp range) (lent ahead.lower.now)) ≡ c.in_ok-files_of.field-0.items =
    ap (λ (fs : List FileMeta). inputs level upper ++ map (input_at (level + 1)) fs) (sym lower ∙ ap lent (sym c.deref-2.ensures.value)) ∙ ap (λ (fs : List InputFile). inputs level upper ++ fs) (sym (inputs_lent (level + 1) c.deref-2.result.now))
    ∙ ok_is (inputs level upper ++ inputs (level + 1) c.deref-2.result.now) c.in_ok-files_of.field-0.items c.in_ok-files_of.ensures in
    ap (λ (fs : List InputFile). picked_as level fs (filter (is_in cmp range) (lent ahead.near.now)) deeper key) files
    ∙ same_picked level c.in_ok-files_of.field-0.items (filter (is_in cmp range) (lent ahead.near.now)) c.push_copies.new.copies.items deeper (arc_value c.in_ok-try_clone.field-0).items key c.in_ok-of.field-0 near
    (ap (λ (fs : Vec FileMeta). fs.items) (sym c.in_ok-try_clone.ensures)) (sym c.as_key.ensures ∙ ok_is c.as_key.result.bytes.now c.in_ok-of.field-0 c.in_ok-of.ensures)
