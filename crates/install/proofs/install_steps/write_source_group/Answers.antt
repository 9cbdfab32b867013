use Rattle.std.proofs.Common.{◌∷◌, []}
use Rattle.folder.specs.Calls.{Written}
use Rattle.folder.specs.TableFiles.{named_tables}
use Rattle.folder.proofs.RunLemmas.{runs_one}
use Rattle.install.proofs.Parts.{hands_stopped, runs_whole}
use Rattle.install.proofs.install_steps.write_source_group.Goals as goal

pub returns-in_err-write_source-clause-runs : goal.returns-in_err-write_source-clause-runs
returns-in_err-write_source-clause-runs g c =
    let calls = g.F.Folder.calls in
    let tells = g.F.Folder.tells in
    let a = c.args.folder.now in
    let b = c.write_source.new.folder in
    let call = Written (named_tables (g.S.TableSource.tables c.args.source.now)) in
    hands_stopped {T = Unit {0}} _ (call ∷ []) [] (calls a) (calls b) (tells a) (tells b) c.in_err-write_source.field-0.0 c.from_residual.result c.from_residual.ensures.1
    (runs_one call (calls a) (calls b) (tells a) (tells b) _ c.in_err-write_source.ensures.calls c.in_err-write_source.ensures.change)

pub returns-clause-runs : goal.returns-clause-runs
returns-clause-runs g c =
    let calls = g.F.Folder.calls in
    let tells = g.F.Folder.tells in
    let a = c.args.folder.now in
    let b = c.write_source.new.folder in
    let call = Written (named_tables (g.S.TableSource.tables c.args.source.now)) in
    runs_whole {T = Unit {0}} (call ∷ []) (calls a) (calls b) (tells a) (tells b) tt
    (runs_one call (calls a) (calls b) (tells a) (tells b) _ c.in_ok-write_source.ensures.calls c.in_ok-write_source.ensures.change)
