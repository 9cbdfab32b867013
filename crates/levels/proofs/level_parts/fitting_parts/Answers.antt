use Rattle.std.proofs.Common.{◌≡◌, [], length, map, eqb-true, sym, ap, ◌∙◌}
use Rattle.std.proofs.lemmas.Bool.{eqb-false}
use Rattle.std.proofs.lemmas.List.{nil_from_length}
use Rattle.pick.specs.PickedInputs.{picked_in}
use Rattle.levels.specs.declared.selection.Selection.TheVariants.{Fitting}
use Rattle.levels.proofs.SelectedParts.{fit, none_found, none_viewed, not_orderly, some_fit, taken_refused}
use Rattle.levels.proofs.level_parts.fitting_parts.Goals as goal

pub returns-in_err-test_files : goal.returns-in_err-test_files
returns-in_err-test_files g c =
    let e = c.in_err-test_files.field-0.0 in
    taken_refused g.C.Comparator.cmp c.args.version.now c.args.level (Fitting c.args.memory) c.from_residual.result e c.from_residual.ensures.1 (not_orderly g.C.Comparator.cmp c.args.version.now c.args.level c.args.memory e c.in_err-test_files.ensures)

pub returns-in_err-parts : goal.returns-in_err-parts
returns-in_err-parts g c =
    let e = c.in_err-parts.field-0.0 in
    taken_refused g.C.Comparator.cmp c.args.version.now c.args.level (Fitting c.args.memory) c.from_residual-in_err-parts.result e c.from_residual-in_err-parts.ensures.1
    (none_found g.C.Comparator.cmp c.args.version.now c.args.level c.args.memory c.in_ok-test_files.ensures e c.in_err-parts.ensures)

pub returns-then-is_empty : goal.returns-then-is_empty
returns-then-is_empty g c =
    let kept = c.keep_fitting.new.parts in
    let none : kept.items ≡ [] = nil_from_length kept.items (sym kept.ok.0 ∙ eqb-true _ _ (sym c.is_empty.ensures ∙ c.if-is_empty.true)) in
    fit g.C.Comparator.cmp c.args.version.now c.args.level c.args.memory c.in_ok-test_files.ensures (map picked_in c.in_ok-parts.parts.items) c.in_ok-parts.ensures [] (sym (ap (map picked_in) none) ∙ c.keep_fitting.ensures)

pub returns : goal.returns
returns g c =
    let kept = c.keep_fitting.new.parts in
    some_fit g.C.Comparator.cmp c.args.version.now c.args.level c.args.memory c.in_ok-test_files.ensures (map picked_in c.in_ok-parts.parts.items) c.in_ok-parts.ensures (map picked_in kept.items)
    (λ none. eqb-false _ _ (sym c.is_empty.ensures ∙ c.if-is_empty.false) (kept.ok.0 ∙ ap length (none_viewed kept.items none))) c.keep_fitting.ensures
