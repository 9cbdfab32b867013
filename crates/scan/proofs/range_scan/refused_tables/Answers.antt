use Rattle.std.proofs.Common.{map}
use Rattle.folder.proofs.ReportLemmas.{reports_after}
use Rattle.checks.proofs.Lent.{lent_table}
use Rattle.scan.proofs.ScanAnswers.{other_refusal}
use Rattle.scan.proofs.range_scan.refused_tables.Goals as goal
use Rattle.scan.proofs.Others.{never_device}

pub returns-in_err-check_tables-clause-device : goal.returns-in_err-check_tables-clause-device
returns-in_err-check_tables-clause-device g c =
    let failed = g.F.Folder.failed in
    let r = c.from_residual-in_err-check_tables.result in
    reports_after r c.in_ok-loaded.was c.load_numbers.ensures.device
    (never_device (failed c.args.folder.now) (failed c.load_numbers.new.folder) r (other_refusal g.C.Comparator.cmp (map lent_table c.deref.result.now) r c.in_err-check_tables.field-0.0 c.from_residual-in_err-check_tables.ensures.1 c.in_err-check_tables.ensures))
