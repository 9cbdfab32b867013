use Rattle.std.proofs.Common.{codes}
use Rattle.folder.specs.declared.folder.FolderFault.{FolderFault}
use Rattle.install.specs.Install.{write_calls}
use Rattle.install.proofs.Parts.{hands_stopped}
use Rattle.folder.proofs.RunLemmas.{runs_then}
use Rattle.store.specs.Outcome.{naming_calls}
use Rattle.store.proofs.outcome_writer.write_edit.Goals as goal

pub returns-in_err-write_file-clause-runs : goal.returns-in_err-write_file-clause-runs
returns-in_err-write_file-clause-runs g c =
    let calls = g.F.Folder.calls in
    let tells = g.F.Folder.tells in
    let a = c.args.folder.now in
    let b = c.write_file.new.folder in
    hands_stopped _ (write_calls (codes "EDIT.dbtmp") c.args.bytes.now) naming_calls (calls a) (calls b) (tells a) (tells b) c.in_err-write_file.field-0.0 c.from_residual.result c.from_residual.ensures.1
    c.in_err-write_file.ensures.runs

pub returns-clause-runs : goal.returns-clause-runs
returns-clause-runs g c =
    let calls = g.F.Folder.calls in
    let tells = g.F.Folder.tells in
    let a = c.args.folder.now in
    let b = c.write_file.new.folder in
    let d = c.name_edit.new.folder in
    runs_then {E = FolderFault} (write_calls (codes "EDIT.dbtmp") c.args.bytes.now) naming_calls (calls a) (calls b) (calls d) (tells a) (tells b) (tells d) c.in_ok-write_file.field-0 c.name_edit.result
    c.in_ok-write_file.ensures.runs c.name_edit.ensures.runs
