use Rattle.std.proofs.Common.{◌≡◌, ℕ, List, Result, subst, ◌∙◌, arith}
use Rattle.std.specs.Prelude.{filter}
use Rattle.ikey.specs.fault.Fault.{Fault}
use Rattle.folder.proofs.OpeningLemmas.{answers_since}
use Rattle.checks.specs.InOrder.{AreChecked, is_unknown}
use Rattle.checks.proofs.SoundNumbers.{all_checked}
use Rattle.checks.proofs.first_refusal.check_others.Goals as goal

pub returns-clause-answer : goal.returns-clause-answer
returns-clause-answer g c files told are =
    let cmp = g.C.Comparator.cmp in
    let failed = g.F.Folder.failed in
    let sound = c.args.sound.now in
    let numbers = c.args.numbers.now in
    let unknown : c.deref.result.now ≡ filter (is_unknown sound) numbers = c.deref.ensures.value ∙ c.in_ok-unknown.ensures.unknown in
    let over : (a : Result (Unit {0}) Fault) → AreChecked cmp files c.deref.result.now a → AreChecked cmp files numbers a =
    λ a h. all_checked cmp files sound are numbers a (subst (λ (ns : List ℕ). AreChecked cmp files ns a) unknown h) in
    answers_since (λ none. none) (failed c.args.folder.now) (failed c.args.folder.now) (failed c.check_in_order.new.folder) c.check_in_order.result (AreChecked cmp files c.deref.result.now) (AreChecked cmp files numbers)
    over (omega arith) c.check_in_order.ensures.device.later (c.check_in_order.ensures.answer files told)
