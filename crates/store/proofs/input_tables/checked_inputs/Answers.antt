use Rattle.std.proofs.Common.{◌≡◌, List, length, false, true, Result, sym, ap, subst, ◌∙◌}
use Rattle.std.proofs.lemmas.Result.{err_from_is_err_and}
use Rattle.folder.proofs.Binds.{failed}
use Rattle.folder.proofs.Refusals.{FailsOrMemory-from}
use Rattle.folder.specs.Answers.{EqualOrMemory}
use Rattle.folder.specs.fault.Fault.{Fault}
use Rattle.reads.specs.TableContents.{Contents}
use Rattle.install.specs.Install.{tables_in}
use Rattle.store.specs.InputsCompaction.{are_stated, input_tables}
use Rattle.store.proofs.CheckedInputs.{read_length, tables_are, tables_refused}
use Rattle.store.proofs.input_tables.checked_inputs.Goals as goal

pub returns-in_err-tables : goal.returns-in_err-tables
returns-in_err-tables g c =
    let p = err_from_is_err_and c.from_residual.result c.from_residual.ensures.1 in
    rw (p.1, p.2) (tables_refused g.C.Comparator.cmp c.args.inputs.now (tables_in c.args.loaded.now) c.in_err-tables.field-0.0 c.in_err-tables.ensures)

pub are_stated-requires : goal.are_stated-requires
are_stated-requires g c =
    ap length c.deref.ensures.value ∙ read_length g.C.Comparator.cmp c.args.loaded.now c.in_ok-tables.tables.items c.in_ok-tables.ensures ∙ c.requires.lengths

pub returns-then-not-are_stated : goal.returns-then-not-are_stated
returns-then-not-are_stated g c =
    let stated : are_stated c.args.inputs.now c.in_ok-tables.tables.items ≡ false =
    ap (are_stated c.args.inputs.now) (sym c.deref.ensures.value) ∙ sym c.are_stated.ensures ∙ c.if-not-are_stated.true in
    FailsOrMemory-from c.of.result (input_tables g.C.Comparator.cmp c.args.inputs.now (tables_in c.args.loaded.now))
    (tables_are g.C.Comparator.cmp c.args.inputs.now (tables_in c.args.loaded.now) c.in_ok-tables.tables.items false c.in_ok-tables.ensures stated ∙ ap failed (sym c.of.ensures))

pub returns : goal.returns
returns g c =
    let stated : are_stated c.args.inputs.now c.in_ok-tables.tables.items ≡ true =
    ap (are_stated c.args.inputs.now) (sym c.deref.ensures.value) ∙ sym c.are_stated.ensures ∙ c.if-not-are_stated.false in
    subst (λ (a : Result (List Contents) Fault). EqualOrMemory (λ v. v.items) c.without_numbers.result a)
    (sym (tables_are g.C.Comparator.cmp c.args.inputs.now (tables_in c.args.loaded.now) c.in_ok-tables.tables.items true c.in_ok-tables.ensures stated)) c.without_numbers.ensures
