use Rattle.folder.proofs.CountLemmas.{read_same}
use Rattle.folder.proofs.ReportLemmas.{reports_failed, reports_steady}
use Rattle.folder.proofs.current_version.bytes_under.Goals as goal

pub returns-in_err-bytes-clause-reads : goal.returns-in_err-bytes-clause-reads
returns-in_err-bytes-clause-reads g c = record { same = c.read.ensures.same; calls = c.read.ensures.calls }

pub returns-in_err-bytes-clause-device : goal.returns-in_err-bytes-clause-device
returns-in_err-bytes-clause-device g c = reports_failed c.from_residual.result c.in_err-bytes.was c.read.ensures.failures c.from_residual.ensures.1

pub returns-in-Some-clause-reads : goal.returns-in-Some-clause-reads
returns-in-Some-clause-reads g c = record { same = c.read.ensures.same; calls = c.read.ensures.calls }

pub returns-in-Some-clause-device : goal.returns-in-Some-clause-device
returns-in-Some-clause-device g c =
    let failed = g.F.Folder.failed in
    reports_steady _ (read_same (failed c.args.folder.now) (failed c.read.new.self) _ c.read.result c.in_ok-bytes.was c.read.ensures.failures) tt

pub returns-in-None-clause-reads : goal.returns-in-None-clause-reads
returns-in-None-clause-reads g c = record { same = c.read.ensures.same; calls = c.read.ensures.calls }

pub returns-in-None-clause-device : goal.returns-in-None-clause-device
returns-in-None-clause-device g c =
    let failed = g.F.Folder.failed in
    reports_steady _ (read_same (failed c.args.folder.now) (failed c.read.new.self) _ c.read.result c.in_ok-bytes.was c.read.ensures.failures) (λ same. cc same)
