use Rattle.std.proofs.Common.{List, Ok, Err, ap, subst, ◌∙◌, arith, refl}
use Rattle.edit.specs.Edit.{edit_in}
use Rattle.folder.proofs.LoadingLemmas.{loaded_before}
use Rattle.folder.proofs.OpeningLemmas.{hands_on, refuses}
use Rattle.folder.proofs.ReportLemmas.{reports_handed, reports_then}
use Rattle.folder.specs.LoadedTables.{IsLoaded}
use Rattle.install.specs.Install.{tables_in}
use Rattle.pick.specs.declared.picked_inputs.InputFile.{InputFile}
use Rattle.store.specs.InputsCompaction.{input_numbers}
use Rattle.store.proofs.InputsApart.{numbers_loaded}
use Rattle.adoption.specs.Adoption.{IsAdoption, IsEditGiven, IsGiven}
use Rattle.adoption.specs.AdoptionIn.{adoption_in, given_in}
use Rattle.adoption.proofs.given_outcome.given_outcome.Goals as goal

pub returns-in_err-edit-clause-answer : goal.returns-in_err-edit-clause-answer
returns-in_err-edit-clause-answer g c =
    let failed = g.G.Folder.failed in
    let tells = g.G.Folder.tells c.args.source.now in
    let e = c.in_err-edit.field-0.0 in
    hands_on given_in (failed c.args.source.now) (failed c.args.source.now) (failed c.given_edit.new.source) c.from_residual.result e (IsEditGiven tells) (IsGiven g.C.Comparator.cmp tells c.args.version.now)
    c.from_residual.ensures.1 (omega arith) c.given_edit.ensures.device.later c.in_err-edit.ensures.answer (λ h. (Err e, (h, refl)))

pub returns-in_err-adopted-clause-answer : goal.returns-in_err-adopted-clause-answer
returns-in_err-adopted-clause-answer g c =
    let cmp = g.C.Comparator.cmp in
    let failed = g.G.Folder.failed in
    let tells = g.G.Folder.tells c.args.source.now in
    let v = c.args.version.now in
    let edit = edit_in c.in_ok-edit.edit in
    let e = c.in_err-adopted.field-0.0 in
    refuses given_in (failed c.args.source.now) (failed c.given_edit.new.source) c.from_residual-in_err-adopted.result e (IsAdoption cmp v edit) (IsGiven cmp tells v)
    c.from_residual-in_err-adopted.ensures.1 c.in_err-adopted.ensures.answer (λ h. (Ok edit, (c.in_ok-edit.ensures.answer, (Err e, (h, refl)))))

pub returns-in_err-tables-clause-answer : goal.returns-in_err-tables-clause-answer
returns-in_err-tables-clause-answer g c =
    let cmp = g.C.Comparator.cmp in
    let failed = g.G.Folder.failed in
    let tells = g.G.Folder.tells in
    let v = c.args.version.now in
    let edit = edit_in c.in_ok-edit.edit in
    let adoption = adoption_in c.in_ok-adopted.adopted in
    let numbers = input_numbers c.deref.result.now in
    let e = c.in_err-tables.field-0.0 in
    hands_on given_in (failed c.args.source.now) (failed c.given_edit.new.source) (failed c.load_inputs.new.folder) c.from_residual-in_err-tables.result e (IsLoaded (tells c.given_edit.new.source) numbers) (IsGiven cmp (tells c.args.source.now) v)
    c.from_residual-in_err-tables.ensures.1 c.given_edit.ensures.device.later c.load_inputs.ensures.device.later c.in_err-tables.ensures.answer
    (λ h.
    let loaded = subst (λ (is : List InputFile). IsLoaded (tells c.args.source.now) (input_numbers is) (Err e)) c.deref.ensures.value
    (loaded_before (tells c.args.source.now) (tells c.given_edit.new.source) numbers (Err e) c.given_edit.ensures.reads.same h) in
    (Ok edit, (c.in_ok-edit.ensures.answer, (Ok adoption, (c.in_ok-adopted.ensures.answer, (Err e, (loaded, refl)))))))

pub returns-in_err-tables-clause-device : goal.returns-in_err-tables-clause-device
returns-in_err-tables-clause-device g c =
    reports_then c.in_ok-edit.was c.given_edit.ensures.device
    (reports_handed c.from_residual-in_err-tables.result c.in_err-tables.was c.load_inputs.ensures.device c.from_residual-in_err-tables.ensures.1)

pub returns-clause-answer : goal.returns-clause-answer
returns-clause-answer g c =
    let tells = g.G.Folder.tells in
    let edit = edit_in c.in_ok-edit.edit in
    let adoption = adoption_in c.in_ok-adopted.adopted in
    let numbers = input_numbers c.deref.result.now in
    let tables = tables_in c.in_ok-tables.tables.items in
    let loaded = subst (λ (is : List InputFile). IsLoaded (tells c.args.source.now) (input_numbers is) (Ok tables)) c.deref.ensures.value
    (loaded_before (tells c.args.source.now) (tells c.given_edit.new.source) numbers (Ok tables) c.given_edit.ensures.reads.same c.in_ok-tables.ensures.answer) in
    (Ok edit, (c.in_ok-edit.ensures.answer, (Ok adoption, (c.in_ok-adopted.ensures.answer, (Ok tables, (loaded, refl))))))

pub returns-clause-adopted : goal.returns-clause-adopted
returns-clause-adopted g c =
    let tells = g.G.Folder.tells in
    let numbers = input_numbers c.deref.result.now in
    let tables = tables_in c.in_ok-tables.tables.items in
    record {
      edit = edit_in c.in_ok-edit.edit;
      adoption = c.in_ok-adopted.ensures.answer;
      read = c.in_ok-adopted.ensures.read;
      numbers = numbers_loaded (tells c.given_edit.new.source) numbers tables c.in_ok-tables.ensures.answer ∙ ap input_numbers c.deref.ensures.value;
      state = c.in_ok-adopted.ensures.state;
    }
