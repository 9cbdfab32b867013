use Rattle.std.proofs.Common.{◌≡◌, ◌+◌, ◌-◌, ◌++◌, nat_lt, cond, map, [], refl, sym, ap, subst, ◌∙◌}
use Rattle.std.specs.List.{filter}
use Rattle.edit.specs.Answers.{EqualOrMemory}
use Rattle.edit.specs.Key.{user_of}
use Rattle.edit.specs.VersionOrder.{level_files}
use Rattle.pick.specs.Choices.{is_in}
use Rattle.pick.specs.Spans.{least_user, greatest_user}
use Rattle.pick.specs.PickedInputs.{picked_in, files_from, input_at}
use Rattle.pick.proofs.LevelInputs.{both_are, head_lent}
use Rattle.pick.proofs.Lists.{lent}
use Rattle.pick.proofs.TheseInputs.{these_are}
use Rattle.pick.proofs.numbered_choice.these_inputs.Goals as goal

pub returns : goal.returns
returns g c =
    let cmp = g.C.Comparator.cmp in
    let v = c.args.version.now in
    let level = c.args.level in
    let upper = c.args.upper.now in
    let lower = c.args.lower.now in
    let first = c.in-Some.first.now.now in
    let range = c.over-range.result in
    let smallest : range.smallest.now ≡ least_user cmp (least_user cmp (user_of first.smallest) (lent upper)) (lent lower) =
    c.over-range.ensures.smallest ∙ ap (λ s. least_user cmp s (lent lower)) (c.over.ensures.smallest ∙ ap (λ s. least_user cmp s (lent upper)) c.of-2.ensures.smallest) in
    let largest : range.largest.now ≡ greatest_user cmp (greatest_user cmp (user_of first.largest) (lent upper)) (lent lower) =
    c.over-range.ensures.largest ∙ ap (λ l. greatest_user cmp l (lent lower)) (c.over.ensures.largest ∙ ap (λ l. greatest_user cmp l (lent upper)) c.of-2.ensures.largest) in
    let files : c.in_ok-files.files.items ≡ map (input_at level) (lent upper) ++ map (input_at (level + 1)) (lent lower) =
    both_are level upper lower upper lower c.in_ok-files.files.items refl refl c.in_ok-files.ensures in
    subst (EqualOrMemory picked_in c.picked.result)
    (these_are cmp v level g.met.C.Comparator.total (lent upper) (lent lower) first range.smallest.now range.largest.now c.args.key.now c.in_ok-files.files.items
    (cond (nat_lt 6 (level + 2)) [] (filter (is_in cmp range) (level_files cmp v (level + 2)))) (files_from cmp v (level + 2) (7 - (level + 2)))
    c.requires (head_lent upper c.in-Some.first.now (sym c.in-Some.ensures.value)) smallest largest files refl refl) c.picked.ensures
