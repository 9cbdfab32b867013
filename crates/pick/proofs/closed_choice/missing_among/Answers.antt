use Rattle.std.proofs.Common.{Bor, ◌≡◌, ◌&&◌, not, List, Option, Ok, ap, sym, subst, ◌∙◌}
use Rattle.std.specs.List.{filter, find}
use Rattle.std.specs.Option.{option_copied}
use Rattle.edit.specs.Answers.{EqualOrMemory}
use Rattle.edit.proofs.Binds.{ok_is}
use Rattle.edit.specs.declared.meta.FileMeta.{FileMeta}
use Rattle.pick.specs.ClosedChoice.{has_number_of, is_needed_above, is_needed_below}
use Rattle.pick.specs.declared.picked_inputs.InputFile.{InputFile}
use Rattle.pick.proofs.Lists.{lent}
use Rattle.pick.proofs.ToldChoices.{missing_is}
use Rattle.pick.proofs.closed_choice.missing_among.Goals as goal

pub returns : goal.returns
returns g c =
    let cmp = g.C.Comparator.cmp in
    let chosen = has_number_of c.args.numbers.now in
    let files = lent c.args.files.now in
    let next = lent c.args.next.now in
    let upper = lent c.in_ok-upper.upper.items in
    let lower = lent c.in_ok-lower.lower.items in
    let first : option_copied c.missing_above-above.result ≡ find (λ (f : FileMeta). not (chosen f) && is_needed_above cmp c.args.level upper f) files =
    c.missing_above-above.ensures ∙ ap (λ (us : List (Bor FileMeta)). find (λ (f : FileMeta). not (chosen f) && is_needed_above cmp c.args.level (lent us) f) files) c.deref.ensures.value in
    let second : option_copied c.missing_below-below.result ≡ find (λ (f : FileMeta). not (chosen f) && is_needed_below cmp upper lower f) next =
    c.missing_below-below.ensures ∙ ap (λ (us : List (Bor FileMeta)). find (λ (f : FileMeta). not (chosen f) && is_needed_below cmp (lent us) (lent c.deref-3.result.now) f) next) c.deref-2.ensures.value
    ∙ ap (λ (ls : List (Bor FileMeta)). find (λ (f : FileMeta). not (chosen f) && is_needed_below cmp upper (lent ls) f) next) c.deref-3.ensures.value in
    subst (λ (o : Option InputFile). EqualOrMemory (λ (x : Option InputFile). x) c.first_input.result (Ok o))
    (sym (missing_is cmp c.args.level files next chosen upper lower (ok_is (filter chosen files) upper c.in_ok-upper.ensures) (ok_is (filter chosen next) lower c.in_ok-lower.ensures)
    (option_copied c.missing_above-above.result) (option_copied c.missing_below-below.result) first second)) c.first_input.ensures
