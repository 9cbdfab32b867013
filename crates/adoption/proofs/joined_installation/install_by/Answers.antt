use Rattle.std.proofs.Common.{◌≡◌, [], length, sym, ap, ◌∙◌}
use Rattle.std.proofs.lemmas.Bool.{eqb-false, eqb-true}
use Rattle.std.proofs.lemmas.List.{nil_from_length}
use Rattle.folder.proofs.ReportLemmas.{reports_handed, reports_then}
use Rattle.adoption.proofs.JoinedEnds.{last_passed, last_refused, none_end}
use Rattle.adoption.proofs.joined_installation.install_by.Goals as goal

pub returns-then-is_empty-clause-installed : goal.returns-then-is_empty-clause-installed
returns-then-is_empty-clause-installed g c first =
    let none : c.args.taken.written.edits.items ≡ [] = sym c.as_slice-edits.ensures.value ∙ nil_from_length c.as_slice-edits.result.now (eqb-true _ _ (sym c.is_empty.ensures ∙ c.if-is_empty.true)) in
    none_end g.F.Folder g.C.Comparator.name_bytes g.C.Comparator.cmp c.args.taken first c.args.folder.now _ none c.of.ensures

pub returns-in_err-test_last-clause-installed : goal.returns-in_err-test_last-clause-installed
returns-in_err-test_last-clause-installed g c first =
    last_refused g.F.Folder g.C.Comparator.name_bytes g.C.Comparator.cmp c.args.taken first c.args.folder.now c.test_last.new.folder c.test_last.result c.from_residual.result c.in_err-test_last.field-0.0 c.in_err-test_last.was c.from_residual.ensures.1
    c.test_last.ensures.reads c.test_last.ensures.answer

pub returns-in_err-test_last-clause-device : goal.returns-in_err-test_last-clause-device
returns-in_err-test_last-clause-device g c = reports_handed c.from_residual.result c.in_err-test_last.was c.test_last.ensures.device c.from_residual.ensures.1

pub returns-clause-installed : goal.returns-clause-installed
returns-clause-installed g c first =
    last_passed g.F.Folder g.C.Comparator.name_bytes g.C.Comparator.cmp c.args.taken first c.args.folder.now (g.met.C.Comparator g.world.𝓛 g.world.𝓜 g.world.𝓡 ((λ s x. x), (λ x. x), (λ x. x), λ x. x)).total c.test_last.new.folder c.name_edits.new.folder
    (λ e. eqb-false _ _ (sym c.is_empty.ensures ∙ c.if-is_empty.false) (ap length (c.as_slice-edits.ensures.value ∙ e))) c.name_edits.result c.test_last.ensures.reads c.in_ok-test_last.ensures.device c.in_ok-test_last.ensures.answer c.name_edits.ensures.named

pub returns-clause-device : goal.returns-clause-device
returns-clause-device g c = reports_then c.in_ok-test_last.was c.test_last.ensures.device c.name_edits.ensures.device
