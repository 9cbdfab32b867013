use Rattle.std.proofs.Common.{rules}
use Rattle.folder.proofs.CountLemmas.{read_same}
use Rattle.folder.proofs.ReportLemmas.{reads_then, reports_failed, reports_on, reports_steady}
use Rattle.folder.proofs.table_loader.table.Goals as goal

pub returns-in_err-bytes-clause-reads : goal.returns-in_err-bytes-clause-reads
returns-in_err-bytes-clause-reads g c = record { same = c.read.ensures.same; calls = c.read.ensures.calls }

pub returns-in_err-bytes-clause-device : goal.returns-in_err-bytes-clause-device
returns-in_err-bytes-clause-device g c = reports_failed c.from_residual-in_err-bytes.result c.in_err-bytes.was c.read.ensures.failures c.from_residual-in_err-bytes.ensures.1

pub returns-in-Some-clause-reads : goal.returns-in-Some-clause-reads
returns-in-Some-clause-reads g c = record { same = c.read.ensures.same; calls = c.read.ensures.calls }

pub returns-in-Some-clause-device : goal.returns-in-Some-clause-device
returns-in-Some-clause-device g c =
    let failed = g.F.Folder.failed in
    reports_steady _ (read_same (failed c.args.folder.now) (failed c.read.new.self) _ c.read.result c.in_ok-bytes.was c.read.ensures.failures) tt

pub returns-clause-reads : goal.returns-clause-reads
returns-clause-reads g c = reads_then (record { same = c.read.ensures.same; calls = c.read.ensures.calls }) c.bytes_under.ensures.reads

pub returns-clause-device : goal.returns-clause-device
returns-clause-device g c =
    let failed = g.F.Folder.failed in
    reports_on (read_same (failed c.args.folder.now) (failed c.read.new.self) _ c.read.result c.in_ok-bytes.was c.read.ensures.failures) c.bytes_under.ensures.device

pub returns-in-Some-clause-answer : goal.returns-in-Some-clause-answer
returns-in-Some-clause-answer g c = search rules
