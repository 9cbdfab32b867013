use Rattle.std.proofs.Common.{◌≡◌, ◌+◌, nat_lt, List, Option, Ok, Err, ap, sym, subst, ◌∙◌}
use Rattle.edit.specs.Answers.{EqualOrMemory, fault}
use Rattle.edit.specs.fault.FaultName.TheVariants.{Level}
use Rattle.edit.proofs.Binds.{ok_is}
use Rattle.edit.specs.VersionOrder.{level_files}
use Rattle.edit.specs.declared.meta.FileMeta.{FileMeta}
use Rattle.pick.specs.ClosedChoice.{first_missing, has_number_of, missing_among, missing_answer}
use Rattle.pick.specs.declared.picked_inputs.InputFile.{InputFile}
use Rattle.pick.proofs.LevelInputs.{low}
use Rattle.pick.proofs.Lists.{cond_false, lent}
use Rattle.pick.proofs.ToldChoices.{answer_told}
use Rattle.pick.proofs.closed_choice.first_missing.Goals as goal

pub returns : goal.returns
returns g c =
    let cmp = g.C.Comparator.cmp in
    let v = c.args.version.now in
    let level = c.args.level in
    let chosen = has_number_of c.args.numbers.now in
    let files : lent c.deref.result.now ≡ level_files cmp v level =
    ap lent c.deref.ensures.value ∙ sym (ok_is (level_files cmp v level) (lent c.in_ok-files.files.items) c.in_ok-files.ensures.ordered) in
    let next : lent c.deref-2.result.now ≡ level_files cmp v (level + 1) =
    ap lent c.deref-2.ensures.value ∙ sym (ok_is (level_files cmp v (level + 1)) (lent c.in_ok-next.next.items) c.in_ok-next.ensures.ordered) in
    let told = λ (o : Option InputFile). EqualOrMemory (λ (x : Option InputFile). x) c.missing_among.result (Ok o) in
    let found : told (first_missing cmp v level chosen) =
    subst (λ (ns : List FileMeta). told (missing_among cmp level (level_files cmp v level) ns chosen)) next
    (subst (λ (fs : List FileMeta). told (missing_among cmp level fs (lent c.deref-2.result.now) chosen)) files c.missing_among.ensures) in
    let answer : EqualOrMemory (λ (x : Option InputFile). x) c.missing_among.result (missing_answer cmp v level c.args.numbers.now) =
    subst (EqualOrMemory (λ (x : Option InputFile). x) c.missing_among.result)
    (sym (cond_false (nat_lt 5 level) (Err (fault Level)) (Ok (first_missing cmp v level chosen)) (low level c.if-level-gt-LAST_INPUT_LEVEL.false))) found in
    record { answer = answer; closed = answer_told cmp v level c.args.numbers.now c.missing_among.result answer }
