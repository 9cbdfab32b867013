use Rattle.std.proofs.Common.{◌∷◌, []}
use Rattle.folder.specs.Calls.{Written}
use Rattle.folder.specs.TableFiles.{table_files}
use Rattle.folder.proofs.RunLemmas.{runs_one}
use Rattle.install.proofs.Parts.{hands_stopped, runs_whole}
use Rattle.install.proofs.install_steps.write_group.Goals as goal

pub returns-in_err-write_tables-clause-runs : goal.returns-in_err-write_tables-clause-runs
returns-in_err-write_tables-clause-runs g c =
    let calls = g.F.Folder.calls in
    let tells = g.F.Folder.tells in
    let a = c.args.folder.now in
    let b = c.write_tables.new.self in
    let call = Written (table_files c.args.tables.now) in
    hands_stopped {T = Unit {0}} _ (call ∷ []) [] (calls a) (calls b) (tells a) (tells b) c.in_err-write_tables.field-0.0 c.from_residual.result c.from_residual.ensures.1
    (runs_one call (calls a) (calls b) (tells a) (tells b) _ c.in_err-write_tables.ensures.calls c.in_err-write_tables.ensures.change)

pub returns-clause-runs : goal.returns-clause-runs
returns-clause-runs g c =
    let calls = g.F.Folder.calls in
    let tells = g.F.Folder.tells in
    let a = c.args.folder.now in
    let b = c.write_tables.new.self in
    let call = Written (table_files c.args.tables.now) in
    runs_whole {T = Unit {0}} (call ∷ []) (calls a) (calls b) (tells a) (tells b) tt
    (runs_one call (calls a) (calls b) (tells a) (tells b) _ c.in_ok-write_tables.ensures.calls c.in_ok-write_tables.ensures.change)
