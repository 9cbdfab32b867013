use Rattle.std.proofs.Common.{◌∷◌, []}
use Rattle.folder.specs.Calls.{Written}
use Rattle.folder.specs.TableFiles.{table_files}
use Rattle.folder.proofs.RunLemmas.{runs_one}
use Rattle.store.proofs.Runs.{run_done, run_failed}
use Rattle.store.proofs.outcome_writer.write_tables.Goals as goal

pub returns-in_err-write_tables : goal.returns-in_err-write_tables
returns-in_err-write_tables g c =
    let calls = g.F.Folder.calls in
    let tells = g.F.Folder.tells in
    let a = c.args.folder.now in
    let b = c.write_tables.new.self in
    let call = Written (table_files c.args.tables.now) in
    run_failed (call ∷ []) [] a b c.write_tables.result c.in_err-write_tables.field-0.0 c.from_residual.result c.in_err-write_tables.was c.from_residual.ensures.1 c.write_tables.ensures.failures
    (runs_one call (calls a) (calls b) (tells a) (tells b) c.write_tables.result c.write_tables.ensures.calls c.write_tables.ensures.change)

pub returns : goal.returns
returns g c =
    let calls = g.F.Folder.calls in
    let tells = g.F.Folder.tells in
    let a = c.args.folder.now in
    let b = c.write_tables.new.self in
    let call = Written (table_files c.args.tables.now) in
    run_done (call ∷ []) a b c.write_tables.result c.in_ok-write_tables.field-0 tt c.in_ok-write_tables.was c.write_tables.ensures.failures
    (runs_one call (calls a) (calls b) (tells a) (tells b) c.write_tables.result c.write_tables.ensures.calls c.write_tables.ensures.change)
