use Rattle.std.proofs.Common.{◌∷◌, [], List, ℕ, subst}
use Rattle.std.specs.Global.{Vec}
use Rattle.folder.specs.CallSequence.{MakesCalls}
use Rattle.install.specs.Install.{table_calls, tables_in}
use Rattle.store.specs.CallsAnswer.{IsCallsAnswer}
use Rattle.store.specs.Outcome.{edit_calls}
use Rattle.store.proofs.Runs.{run_done, run_failed, run_handed, run_then}
use Rattle.store.proofs.outcome_writer.write_files.Goals as goal

pub returns-in_err-write_tables : goal.returns-in_err-write_tables
returns-in_err-write_tables g c =
    let o = c.args.outcome.now in
    let a = c.args.folder.now in
    let b = c.write_tables.new.folder in
    let front = table_calls (tables_in o.tables.items ∷ []) in
    run_handed front (edit_calls o.edit.items) a b c.write_tables.result c.in_err-write_tables.field-0.0 c.from_residual.result c.in_err-write_tables.was c.from_residual.ensures.1
    (subst (λ (ts : List (ℕ × Vec ℕ)). IsCallsAnswer g.F.Folder (table_calls (tables_in ts ∷ [])) a b c.write_tables.result) c.deref.ensures.value c.write_tables.ensures)

pub returns-in_err-write_edit : goal.returns-in_err-write_edit
returns-in_err-write_edit g c =
    let calls = g.F.Folder.calls in
    let tells = g.F.Folder.tells in
    let o = c.args.outcome.now in
    let a = c.args.folder.now in
    let b = c.write_tables.new.folder in
    let d = c.write_edit.new.folder in
    let r = c.from_residual-in_err-write_edit.result in
    let front = table_calls (tables_in o.tables.items ∷ []) in
    let edit = edit_calls o.edit.items in
    run_then front edit a b d c.write_tables.result c.in_ok-write_tables.field-0 r c.in_ok-write_tables.was
    (subst (λ (ts : List (ℕ × Vec ℕ)). IsCallsAnswer g.F.Folder (table_calls (tables_in ts ∷ [])) a b c.write_tables.result) c.deref.ensures.value c.write_tables.ensures)
    (run_failed edit [] b d c.write_edit.result c.in_err-write_edit.field-0.0 r c.in_err-write_edit.was c.from_residual-in_err-write_edit.ensures.1 c.write_edit.ensures.failures
    (subst (λ (bytes : List ℕ). MakesCalls (edit_calls bytes) (calls b) (calls d) (tells b) (tells d) c.write_edit.result) c.deref-2.ensures.value c.write_edit.ensures.runs))

pub returns : goal.returns
returns g c =
    let calls = g.F.Folder.calls in
    let tells = g.F.Folder.tells in
    let o = c.args.outcome.now in
    let a = c.args.folder.now in
    let b = c.write_tables.new.folder in
    let d = c.write_edit.new.folder in
    let front = table_calls (tables_in o.tables.items ∷ []) in
    let edit = edit_calls o.edit.items in
    run_then front edit a b d c.write_tables.result c.in_ok-write_tables.field-0 _ c.in_ok-write_tables.was
    (subst (λ (ts : List (ℕ × Vec ℕ)). IsCallsAnswer g.F.Folder (table_calls (tables_in ts ∷ [])) a b c.write_tables.result) c.deref.ensures.value c.write_tables.ensures)
    (run_done edit b d c.write_edit.result c.in_ok-write_edit.field-0 tt c.in_ok-write_edit.was c.write_edit.ensures.failures
    (subst (λ (bytes : List ℕ). MakesCalls (edit_calls bytes) (calls b) (calls d) (tells b) (tells d) c.write_edit.result) c.deref-2.ensures.value c.write_edit.ensures.runs))
