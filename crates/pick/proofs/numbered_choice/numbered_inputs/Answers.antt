use Rattle.std.proofs.Common.{◌≡◌, ◌+◌, nat_lt, List, Result, Ok, Err, ap, sym, subst, ◌∙◌}
use Rattle.std.specs.List.{filter}
use Rattle.edit.specs.Answers.{EqualOrMemory, fault}
use Rattle.edit.specs.fault.Fault.{Fault}
use Rattle.edit.specs.fault.FaultName.TheVariants.{Level}
use Rattle.edit.proofs.Binds.{ok_is}
use Rattle.edit.specs.VersionOrder.{level_files}
use Rattle.edit.specs.declared.meta.FileMeta.{FileMeta}
use Rattle.pick.specs.ClosedChoice.{has_number_of}
use Rattle.pick.specs.NumberedInputs.{these_answer, numbered_answer}
use Rattle.pick.specs.PickedInputs.{PickedInputs, picked_in}
use Rattle.pick.proofs.LevelInputs.{low}
use Rattle.pick.proofs.Lists.{cond_false, lent}
use Rattle.pick.proofs.numbered_choice.numbered_inputs.Goals as goal

pub returns-clause-answer : goal.returns-clause-answer
returns-clause-answer g c =
    let cmp = g.C.Comparator.cmp in
    let v = c.args.version.now in
    let pointer = c.args.pointer.now in
    let level = pointer.level in
    let chosen = has_number_of c.args.numbers.now in
    let files : lent c.deref.result.now ≡ level_files cmp v level =
    ap lent c.deref.ensures.value ∙ sym (ok_is (level_files cmp v level) (lent c.in_ok-files.files.items) c.in_ok-files.ensures.ordered) in
    let next : lent c.deref-2.result.now ≡ level_files cmp v (level + 1) =
    ap lent c.deref-2.ensures.value ∙ sym (ok_is (level_files cmp v (level + 1)) (lent c.in_ok-next.next.items) c.in_ok-next.ensures.ordered) in
    let upper : lent c.deref-3.result.now ≡ filter chosen (level_files cmp v level) =
    ap lent c.deref-3.ensures.value ∙ sym (ok_is (filter chosen (lent c.deref.result.now)) (lent c.in_ok-upper.upper.items) c.in_ok-upper.ensures) ∙ ap (filter chosen) files in
    let lower : lent c.deref-4.result.now ≡ filter chosen (level_files cmp v (level + 1)) =
    ap lent c.deref-4.ensures.value ∙ sym (ok_is (filter chosen (lent c.deref-2.result.now)) (lent c.in_ok-lower.lower.items) c.in_ok-lower.ensures) ∙ ap (filter chosen) next in
    subst (EqualOrMemory picked_in c.these_inputs.result)
    (ap (λ (us : List FileMeta). these_answer cmp v level us (lent c.deref-4.result.now) pointer.key) upper
    ∙ ap (λ (ls : List FileMeta). these_answer cmp v level (filter chosen (level_files cmp v level)) ls pointer.key) lower
    ∙ sym (cond_false (nat_lt 5 level) (Err (fault Level)) (these_answer cmp v level (filter chosen (level_files cmp v level)) (filter chosen (level_files cmp v (level + 1))) pointer.key) (low level c.if-level-gt-LAST_INPUT_LEVEL.false)))
    c.these_inputs.ensures
