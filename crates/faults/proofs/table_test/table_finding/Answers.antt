use Rattle.std.proofs.Common.{◌≡◌, ℕ, List, Option, Result, Ok, sym, ap, ◌∙◌, arith}
use Rattle.table.proofs.Binds.{ok_is}
use Rattle.table.specs.fault.Fault.{Fault}
use Rattle.folder.specs.Names.{old_table_name, table_name}
use Rattle.folder.proofs.OpeningLemmas.{hands_on}
use Rattle.checks.proofs.FolderTests.{told_still}
use Rattle.faults.specs.FileFaults.{file_reading}
use Rattle.faults.specs.Findings.{finding_of, finding_under}
use Rattle.faults.specs.declared.table_test.TableFinding.{TableFinding}
use Rattle.faults.proofs.FaultAnswers.{no_value}
use Rattle.faults.proofs.LongTables.{first_found, second_found}
use Rattle.faults.proofs.table_test.table_finding.Goals as goal

abbrev answer : TableFinding → Result TableFinding Fault
answer f = Ok f

abbrev found : Option TableFinding → Result (Option TableFinding) Fault
found o = Ok o

pub returns-in_err-first-clause-answer : goal.returns-in_err-first-clause-answer
returns-in_err-first-clause-answer g c held told =
    let failed = g.F.Folder.failed in
    let cmp = g.C.Comparator.cmp in
    let f = c.args.file.now in
    let e = c.in_err-first.field-0.0 in
    let own : Option TableFinding = finding_under cmp f (held c.as_str.result.now) in
    hands_on (λ finding. finding) (failed c.args.folder.now) (failed c.args.folder.now) (failed c.named_finding.new.folder) c.from_residual-in_err-first.result e (λ a. a ≡ found own) (λ a. a ≡ answer (finding_of f (file_reading cmp held f.number))) c.from_residual-in_err-first.ensures.1 (omega arith) c.named_finding.ensures.device.later
    (c.in_err-first.ensures.answer held told) (λ h. absurd (no_value e own h))

pub returns-in-Some-clause-answer : goal.returns-in-Some-clause-answer
returns-in-Some-clause-answer g c held told =
    let cmp = g.C.Comparator.cmp in
    let f = c.args.file.now in
    let name : c.as_str.result.now ≡ table_name f.number = c.as_str.ensures.value ∙ sym (ok_is _ _ c.in_ok-name.ensures) in
    let first : c.in_ok-first.first ≡ finding_under cmp f (held (table_name f.number)) = ok_is _ _ (c.in_ok-first.ensures.answer held told) ∙ ap (λ (x : List ℕ). finding_under cmp f (held x)) name in
    ap answer (first_found cmp f (held (table_name f.number)) (held (old_table_name f.number)) c.in-Some.finding (sym c.in-Some.is ∙ first))

pub returns-in_err-second-clause-answer : goal.returns-in_err-second-clause-answer
returns-in_err-second-clause-answer g c held told =
    let tells = g.F.Folder.tells in
    let failed = g.F.Folder.failed in
    let cmp = g.C.Comparator.cmp in
    let f = c.args.file.now in
    let middle = c.named_finding.new.folder in
    let e = c.in_err-second.field-0.0 in
    let own : Option TableFinding = finding_under cmp f (held c.as_str-2.result.now) in
    hands_on (λ finding. finding) (failed c.args.folder.now) (failed middle) (failed c.named_finding-2.new.folder) c.from_residual-in_err-second.result e (λ a. a ≡ found own) (λ a. a ≡ answer (finding_of f (file_reading cmp held f.number))) c.from_residual-in_err-second.ensures.1 c.named_finding.ensures.device.later c.named_finding-2.ensures.device.later
    (c.in_err-second.ensures.answer held (told_still (tells c.args.folder.now) (tells middle) held c.named_finding.ensures.reads.same told)) (λ h. absurd (no_value e own h))

pub returns-clause-answer : goal.returns-clause-answer
returns-clause-answer g c held told =
    let tells = g.F.Folder.tells in
    let cmp = g.C.Comparator.cmp in
    let f = c.args.file.now in
    let middle = c.named_finding.new.folder in
    let name : c.as_str.result.now ≡ table_name f.number = c.as_str.ensures.value ∙ sym (ok_is _ _ c.in_ok-name.ensures) in
    let old_name : c.as_str-2.result.now ≡ old_table_name f.number = c.as_str-2.ensures.value ∙ sym (ok_is _ _ c.in_ok-old_name.ensures) in
    let first : c.in_ok-first.first ≡ finding_under cmp f (held (table_name f.number)) = ok_is _ _ (c.in_ok-first.ensures.answer held told) ∙ ap (λ (x : List ℕ). finding_under cmp f (held x)) name in
    let second : c.in_ok-second.second ≡ finding_under cmp f (held (old_table_name f.number)) =
    ok_is _ _ (c.in_ok-second.ensures.answer held (told_still (tells c.args.folder.now) (tells middle) held c.named_finding.ensures.reads.same told)) ∙ ap (λ (x : List ℕ). finding_under cmp f (held x)) old_name in
    ap answer (c.unwrap_or.ensures ∙ second_found cmp f (held (table_name f.number)) (held (old_table_name f.number)) c.in_ok-second.second (sym c.in_default.is ∙ first) second)
