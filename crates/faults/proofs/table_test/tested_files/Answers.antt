use Rattle.std.proofs.Common.{◌≡◌, Result, Ok, map, arith}
use Rattle.table.specs.fault.Fault.{Fault}
use Rattle.folder.proofs.OpeningLemmas.{hands_on}
use Rattle.checks.proofs.FolderTests.{told_still}
use Rattle.reads.specs.FileList.{level_file_in}
use Rattle.faults.specs.FileFaults.{file_reading}
use Rattle.faults.specs.Findings.{IsTestAnswer, finding_of, found_in}
use Rattle.faults.specs.declared.table_test.TableFinding.{TableFinding}
use Rattle.faults.proofs.FaultAnswers.{no_value}
use Rattle.faults.proofs.table_test.tested_files.Goals as goal

pub returns-in_err-finding-clause-answer : goal.returns-in_err-finding-clause-answer
returns-in_err-finding-clause-answer g c held told =
    let cmp = g.C.Comparator.cmp in
    let tells = g.F.Folder.tells in
    let failed = g.F.Folder.failed in
    let now = c.loop-file in
    let f = c.file-item.result in
    let of : TableFinding = finding_of f.meta.now (file_reading cmp held f.meta.now.number) in
    let own : Result TableFinding Fault = Ok of in
    let e = c.in_err-finding.field-0.0 in
    hands_on (λ v. map found_in v.items) (failed c.args.folder.now) (failed now.folder) (failed c.table_finding.new.folder) c.from_residual-in_err-finding.result e (λ a. a ≡ own) (IsTestAnswer cmp held (map level_file_in c.args.files.now)) c.from_residual-in_err-finding.ensures.1 (omega (arith, now.invariant.failures)) c.table_finding.ensures.device.later
    (c.in_err-finding.ensures.answer held (told_still (tells c.args.folder.now) (tells now.folder) held now.invariant.reads.same told)) (λ h. absurd (no_value e of h))
