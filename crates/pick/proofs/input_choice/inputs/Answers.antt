use Rattle.std.proofs.Common.{Bor, List, Some, Err, ◌≡◌, ◌+◌, ◌-◌, ◌++◌, nat_lt, cond, map, [], refl, sym, ap, subst, ◌∙◌}
use Rattle.std.specs.List.{filter, slice_get}
use Rattle.edit.specs.Key.{user_of}
use Rattle.std.specs.Option.{option_copied}
use Rattle.edit.specs.Answers.{UnlessMemory}
use Rattle.edit.specs.fault.Fault.{Fault}
use Rattle.edit.specs.Version.{IsState}
use Rattle.edit.specs.VersionOrder.{level_files}
use Rattle.edit.specs.declared.meta.FileMeta.{FileMeta}
use Rattle.pick.specs.Boundaries.{largest_key}
use Rattle.pick.specs.Choices.{is_in}
use Rattle.pick.specs.Spans.{least_user, greatest_user, is_overlapping}
use Rattle.pick.specs.PickedInputs.{IsInputsAnswer, picked_in, files_from, input_at}
use Rattle.pick.proofs.Lists.{lent}
use Rattle.pick.proofs.LevelInputs.{is_no_input, are_inputs, no_largest, no_head_lent, head_lent, both_are, holds_from, on_ok}
use Rattle.pick.proofs.input_choice.inputs.Goals as goal
use Rattle.pick.proofs.input_choice.inputs.Goals.{in_default-via-in-Some+in_default, in_default-via-in_default}

pub returns-in_default-clause-picked : goal.returns-in_default-clause-picked
returns-in_default-clause-picked g c =
    let cmp = g.C.Comparator.cmp in
    let upper = c.in_ok-upper.upper.items in
    let refusal = λ (short : _). is_no_input cmp c.args.version.now c.args.level (lent upper) c.if-level-gt-LAST_INPUT_LEVEL.false c.in_ok-upper.ensures short in
    subst (λ (e : Fault). UnlessMemory e (IsInputsAnswer cmp c.args.version.now c.args.level (Err e))) (sym c.of-in_default.ensures)
    (elim c.in_default.branch [
      | in_default-via-in-Some+in_default w ↦ refusal (no_largest cmp (lent upper) (ap (λ (fs : List (Bor FileMeta)). largest_key cmp (lent fs)) (sym c.deref-2.ensures.value) ∙ sym c.largest_of.ensures ∙ ap option_copied w.in_default.is-1))
      | in_default-via-in_default w ↦ refusal (no_head_lent upper (ap (λ (fs : List (Bor FileMeta)). slice_get fs 0) (sym c.deref.ensures.value) ∙ sym c.first.ensures.value ∙ ap option_copied w.in_default.is-0))
    ])

pub returns-clause-picked : goal.returns-clause-picked
returns-clause-picked g c =
    let cmp = g.C.Comparator.cmp in
    let v = c.args.version.now in
    let level = c.args.level in
    let upper = c.in_ok-upper.upper.items in
    let lower = c.in_ok-lower.lower.items in
    let first = c.in-Some-Some.first.now.now in
    let range = c.over-range.result in
    let wide = c.over.result in
    let head = head_lent upper c.in-Some-Some.first.now (ap (λ (fs : List (Bor FileMeta)). slice_get fs 0) (sym c.deref.ensures.value) ∙ sym c.in-Some-Some.ensures.value) in
    let smallest : range.smallest.now ≡ least_user cmp (user_of first.smallest) (lent upper) = rw (← c.deref-3.ensures.value, ← c.of-2.ensures.smallest) c.over-range.ensures.smallest in
    let largest : range.largest.now ≡ greatest_user cmp (user_of first.largest) (lent upper) = rw (← c.deref-3.ensures.value, ← c.of-2.ensures.largest) c.over-range.ensures.largest in
    let wide_smallest : wide.smallest.now ≡ least_user cmp range.smallest.now (lent lower) = c.over.ensures.smallest ∙ ap (λ (fs : List (Bor FileMeta)). least_user cmp range.smallest.now (lent fs)) c.deref-6.ensures.value in
    let wide_largest : wide.largest.now ≡ greatest_user cmp range.largest.now (lent lower) = c.over.ensures.largest ∙ ap (λ (fs : List (Bor FileMeta)). greatest_user cmp range.largest.now (lent fs)) c.deref-6.ensures.value in
    let head_key : largest_key cmp (lent upper) ≡ Some c.in-Some-Some.largest.now = ap (λ (fs : List (Bor FileMeta)). largest_key cmp (lent fs)) (sym c.deref-2.ensures.value) ∙ sym c.in-Some-Some.ensures' in
    let files : c.in_ok-files.files.items ≡ map (input_at level) (lent upper) ++ map (input_at (level + 1)) (lent lower) =
    both_are level upper lower c.deref-4.result.now c.deref-5.result.now c.in_ok-files.files.items c.deref-4.ensures.value c.deref-5.ensures.value c.in_ok-files.ensures in
    let grandparents : cond (nat_lt 6 (level + 2)) [] (filter (is_in cmp wide) (level_files cmp v (level + 2))) ≡ cond (nat_lt 6 (level + 2)) [] (filter (is_overlapping cmp (least_user cmp range.smallest.now (lent lower)) (greatest_user cmp range.largest.now (lent lower))) (level_files cmp v (level + 2))) =
    ap (λ s. cond (nat_lt 6 (level + 2)) [] (filter (is_overlapping cmp s wide.largest.now) (level_files cmp v (level + 2)))) wide_smallest
    ∙ ap (λ l. cond (nat_lt 6 (level + 2)) [] (filter (is_overlapping cmp (least_user cmp range.smallest.now (lent lower)) l) (level_files cmp v (level + 2)))) wide_largest in
    holds_from picked_in c.picked.result _ (IsInputsAnswer cmp v level) c.picked.ensures
    (are_inputs cmp v level g.met.C.Comparator.total (lent upper) (lent lower) first range.smallest.now range.largest.now c.in-Some-Some.largest.now c.in_ok-files.files.items (cond (nat_lt 6 (level + 2)) [] (filter (is_in cmp wide) (level_files cmp v (level + 2)))) (files_from cmp v (level + 2) (7 - (level + 2)))
    c.if-level-gt-LAST_INPUT_LEVEL.false c.in_ok-upper.ensures head smallest largest c.in_ok-lower.ensures.lower files grandparents refl head_key)

pub returns-clause-state : goal.returns-clause-state
returns-clause-state g c = on_ok c.picked.result (IsState c.args.version.now.pointers c.args.version.now.files) c.in_ok-lower.ensures.state
