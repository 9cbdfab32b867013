use Rattle.std.proofs.Common.{◌≡◌, List, length, false, true, Result, Ok, sym, ap, subst, ◌∙◌}
use Rattle.std.proofs.lemmas.Result.{err_from_is_err_and}
use Rattle.folder.proofs.Binds.{failed, ok_is}
use Rattle.folder.proofs.Refusals.{FailsOrMemory-from}
use Rattle.folder.specs.Answers.{EqualOrMemory}
use Rattle.folder.specs.fault.Fault.{Fault}
use Rattle.reads.specs.TableContents.{Contents}
use Rattle.reads.specs.Tables.{NumberedContents}
use Rattle.checks.specs.TableReadings.{tables_reading}
use Rattle.checks.specs.HeldBytes.{held_bytes}
use Rattle.store.specs.InputsCompaction.{are_stated, input_tables}
use Rattle.store.proofs.CheckedInputs.{held_reading, lent_refused, tables_are}
use Rattle.store.proofs.input_tables.stated_tables.Goals as goal

pub returns-in_err-tables : goal.returns-in_err-tables
returns-in_err-tables g c =
    let p = err_from_is_err_and c.from_residual.result c.from_residual.ensures.1 in
    rw (p.1, p.2) (lent_refused g.C.Comparator.cmp c.args.inputs.now c.args.held.now c.in_err-tables.field-0.0 c.in_err-tables.ensures.tables)

pub are_stated-requires : goal.are_stated-requires
are_stated-requires g c =
    ap length c.deref.ensures.value ∙ ap (λ (ts : List NumberedContents). length ts) (sym (ok_is _ _ c.in_ok-tables.ensures.tables)) ∙ c.requires.lengths

pub returns-then-not-are_stated : goal.returns-then-not-are_stated
returns-then-not-are_stated g c =
    let held = c.args.held.now in
    let same : held ≡ c.in_ok-tables.tables.items = ok_is _ _ c.in_ok-tables.ensures.tables in
    let read = held_reading g.C.Comparator.cmp held c.in_ok-tables.ensures.read in
    let stated : are_stated c.args.inputs.now held ≡ false =
    ap (are_stated c.args.inputs.now) (same ∙ sym c.deref.ensures.value) ∙ sym c.are_stated.ensures ∙ c.if-not-are_stated.true in
    FailsOrMemory-from c.of.result (input_tables g.C.Comparator.cmp c.args.inputs.now (held_bytes held))
    (tables_are g.C.Comparator.cmp c.args.inputs.now (held_bytes held) held false read stated ∙ ap failed (sym c.of.ensures))

pub returns : goal.returns
returns g c =
    let held = c.args.held.now in
    let same : held ≡ c.in_ok-tables.tables.items = ok_is _ _ c.in_ok-tables.ensures.tables in
    let tables = c.in_ok-tables.tables.items in
    let read = subst (λ (ts : List NumberedContents). tables_reading g.C.Comparator.cmp (held_bytes held) ≡ Ok ts) same (held_reading g.C.Comparator.cmp held c.in_ok-tables.ensures.read) in
    let stated : are_stated c.args.inputs.now tables ≡ true =
    ap (are_stated c.args.inputs.now) (sym c.deref.ensures.value) ∙ sym c.are_stated.ensures ∙ c.if-not-are_stated.false in
    subst (λ (a : Result (List Contents) Fault). EqualOrMemory (λ v. v.items) c.without_numbers.result a)
    (sym (tables_are g.C.Comparator.cmp c.args.inputs.now (held_bytes held) tables true read stated)) c.without_numbers.ensures
