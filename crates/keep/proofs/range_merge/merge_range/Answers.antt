use Rattle.std.proofs.Common.{◌≡◌, List, map, sym, ap, subst, ◌∙◌}
use Rattle.std.proofs.lemmas.Result.{err_from_is_err_and}
use Rattle.coding.specs.Answers.{EqualOrMemory}
use Rattle.coding.proofs.Refusals.{unless_from}
use Rattle.reads.specs.EncodedEntry.{Entry}
use Rattle.split.specs.Ranges.{key_range}
use Rattle.merge.specs.CursorsLeft.{is_passed, each_past_range, EachLosesFirst}
use Rattle.keep.specs.Marks.{context_of}
use Rattle.keep.specs.Runs.{Run, range_run}
use Rattle.merge.proofs.LeftEntries.{each_first_all}
use Rattle.keep.proofs.OnAnswers.{on_ok, on_err, if_err, same_ok, ok_not_err}
use Rattle.keep.proofs.range_merge.merge_range.Goals as goal

pub returns-in_err-merging-clause-run : goal.returns-in_err-merging-clause-run
returns-in_err-merging-clause-run g c =
    let p = err_from_is_err_and c.from_residual.result c.from_residual.ensures.1 in
    rw (p.1, p.2) (unless_from c.in_err-merging.field-0.0 _ _ (λ same. absurd (ok_not_err _ _ same)) c.in_err-merging.ensures.merging)

pub returns-in_err-merging-clause-left : goal.returns-in_err-merging-clause-left
returns-in_err-merging-clause-left g c =
    let test = is_passed g.C.Comparator.cmp (key_range c.args.range) in
    let lists : List (List Entry) = map g.S.Entries.remaining c.args.cursors.now.items in
    if_err c.from_residual.result (subst (EachLosesFirst test lists) (sym (ap (map g.S.Entries.remaining) c.in_err-merging.ensures.unchanged)) (each_first_all test lists))

pub returns-clause-run : goal.returns-clause-run
returns-clause-run g c =
    let b = context_of c.args.listed.now c.args.floor c.args.inputs.now in
    let lists : c.in_ok-merging.merging ≡ map g.S.Entries.remaining c.args.cursors.now.items = sym (same_ok _ _ c.in_ok-merging.ensures.merging) in
    subst (λ (ls : List (List Entry)). EqualOrMemory (λ (r : Run). r) c.merge_lent-run.result (range_run g.C.Comparator.cmp b ls (key_range c.args.range))) lists c.merge_lent-run.ensures.run

pub returns-clause-behind : goal.returns-clause-behind
returns-clause-behind g c =
    let behind = each_past_range g.C.Comparator.cmp (key_range c.args.range) in
    let lists : c.in_ok-merging.merging ≡ map g.S.Entries.remaining c.args.cursors.now.items = sym (same_ok _ _ c.in_ok-merging.ensures.merging) in
    on_ok c.merge_lent-run.result _ _ (λ e. c.into_cursors.ensures ∙ e ∙ ap behind lists) c.merge_lent-run.ensures.behind

pub returns-clause-left : goal.returns-clause-left
returns-clause-left g c =
    let test = is_passed g.C.Comparator.cmp (key_range c.args.range) in
    let lists : c.in_ok-merging.merging ≡ map g.S.Entries.remaining c.args.cursors.now.items = sym (same_ok _ _ c.in_ok-merging.ensures.merging) in
    on_err c.merge_lent-run.result _ _
    (λ h. subst (λ (ls : List (List Entry)). EachLosesFirst test ls (map g.S.Entries.remaining c.into_cursors.result.items)) lists (subst (EachLosesFirst test c.in_ok-merging.merging) (sym c.into_cursors.ensures) h)) c.merge_lent-run.ensures.left
