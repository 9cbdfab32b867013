use Rattle.std.proofs.Common.{◌≡◌, List, length, Ok, Err, sym, ap, subst, ◌∙◌, arith, refl}
use Rattle.keep.specs.TableContents.{Contents}
use Rattle.folder.proofs.OpeningLemmas.{refuses}
use Rattle.folder.proofs.ReportLemmas.{reports_steady}
use Rattle.install.specs.Install.{tables_in}
use Rattle.store.specs.InputsCompaction.{input_tables}
use Rattle.store.proofs.Flow.{answers_behind}
use Rattle.store.proofs.NoDevice.{handed_other, tables_other}
use Rattle.adoption.specs.Adoption.{IsComparison, IsGivenTested, IsOutputsCompared}
use Rattle.adoption.specs.AdoptionIn.{adoption_of, given_in}
use Rattle.adoption.specs.declared.comparison.Comparison.{Comparison}
use Rattle.adoption.proofs.ComparedOutputs.{same_tables}
use Rattle.adoption.proofs.kept_comparison.test_outputs.Goals as goal

pub checked_inputs-requires-clause-lengths : goal.checked_inputs-requires-clause-lengths
checked_inputs-requires-clause-lengths g c κs within = ap length c.as_slice-loaded.ensures.value ∙ (c.requires.lengths ∙ ap length (sym c.deref.ensures.value))

pub returns-in_err-outputs-clause-answer : goal.returns-in_err-outputs-clause-answer
returns-in_err-outputs-clause-answer g c files told =
    let cmp = g.C.Comparator.cmp in
    let failed = g.F.Folder.failed in
    let given = c.args.given.now in
    let e = c.in_err-outputs.field-0.0 in
    let same = same_tables cmp given.outputs.items c.deref.result.now given.outcome.tables.items c.as_slice-loaded.result.now c.deref.ensures.value c.as_slice-loaded.ensures.value in
    refuses (λ u. u) (failed c.args.folder.now) (failed c.args.folder.now) c.from_residual.result e (λ read. input_tables cmp c.deref.result.now (tables_in c.as_slice-loaded.result.now) ≡ read) (IsGivenTested cmp files (given_in given) c.args.comparison)
    c.from_residual.ensures.1 c.in_err-outputs.ensures (λ h. (Err e, (same ∙ h, refl)))

pub returns-in_err-outputs-clause-device : goal.returns-in_err-outputs-clause-device
returns-in_err-outputs-clause-device g c =
    let cmp = g.C.Comparator.cmp in
    let e = c.in_err-outputs.field-0.0 in
    let outputs = c.deref.result.now in
    let tables = tables_in c.as_slice-loaded.result.now in
    reports_steady c.from_residual.result refl
    (handed_other c.from_residual.result e (input_tables cmp outputs tables ≡ Err e) c.from_residual.ensures.1 (λ h. tables_other cmp outputs tables e h) c.in_err-outputs.ensures)

pub returns-in-With-clause-answer : goal.returns-in-With-clause-answer
returns-in-With-clause-answer g c files told =
    let cmp = g.C.Comparator.cmp in
    let failed = g.F.Folder.failed in
    let given = c.args.given.now in
    let outputs = c.deref-in-With.result.now in
    let same = same_tables cmp given.outputs.items c.deref.result.now given.outcome.tables.items c.as_slice-loaded.result.now c.deref.ensures.value c.as_slice-loaded.ensures.value in
    let read : input_tables cmp given.outputs.items (tables_in given.outcome.tables.items) ≡ Ok outputs = same ∙ (c.in_ok-outputs.ensures ∙ ap (λ (tables : List Contents). Ok tables) (sym c.deref-in-With.ensures.value)) in
    answers_behind (λ u. u) (failed c.args.folder.now) (failed c.args.folder.now) (failed c.compare_outputs.new.folder) c.compare_outputs.result (λ r. input_tables cmp given.outputs.items (tables_in given.outcome.tables.items) ≡ r)
    (IsComparison cmp files (adoption_of given) c.args.comparison) (IsOutputsCompared cmp files (adoption_of given) c.in-With.snapshots) outputs (omega arith) c.compare_outputs.ensures.device.later read
    (λ a h. subst (λ (comparison : Comparison). IsComparison cmp files (adoption_of given) comparison outputs a) (sym c.in-With.is) h) (c.compare_outputs.ensures.answer files told)
