use Rattle.std.proofs.Common.{List, None, Result, ap, subst, sym}
use Rattle.std.proofs.lemmas.Result.{err_from_is_err_and}
use Rattle.ikey.specs.Answers.{EqualOrMemory, ◌>>=◌}
use Rattle.ikey.specs.fault.Fault.{Fault}
use Rattle.block.specs.EncodedEntry.{Entry}
use Rattle.block.proofs.CheckingSteps.{no_block}
use Rattle.pairing.specs.TestedUnion.{tested_entries}
use Rattle.pairing.specs.EntryTests.{tested_after}
use Rattle.pairing.proofs.TestedLists.{found_tested}
use Rattle.pairing.proofs.FileAnswers.{file_answer}
use Rattle.pairing.proofs.Unions.{rising_tested}
use Rattle.pairing.proofs.entry_checks.tested.Goals as goal

pub returns-in_err-block-clause-answer : goal.returns-in_err-block-clause-answer
returns-in_err-block-clause-answer c =
    let p = err_from_is_err_and c.from_residual.result c.from_residual.ensures.1 in
    rw (p.1, p.2, c.in_err-block.ensures.refused) (sym (ap (λ (r : Result (List Entry) Fault). r >>= tested_after None) (no_block c.args.bytes.now c.in_err-block.ensures.only)))

pub returns-clause-found : goal.returns-clause-found
returns-clause-found c =
    let given = subst (λ (q : List Entry). EqualOrMemory (λ v. tested_entries v.items) c.tested_all.result (tested_after None q)) c.in_ok-new.ensures.all c.tested_all.ensures in
    found_tested c.args.bytes.now c.in_ok-block.block.entries c.tested_all.result c.in_ok-block.ensures.found given

pub returns-clause-answer : goal.returns-clause-answer
returns-clause-answer c =
    let given = subst (λ (q : List Entry). EqualOrMemory (λ v. tested_entries v.items) c.tested_all.result (tested_after None q)) c.in_ok-new.ensures.all c.tested_all.ensures in
    file_answer c.args.bytes.now c.in_ok-block.block.entries c.tested_all.result c.in_ok-block.ensures.found given

pub returns-clause-rising : goal.returns-clause-rising
returns-clause-rising c = rising_tested c.in_ok-new.field-0 c.tested_all.result c.tested_all.ensures
