use Rattle.std.proofs.Common.{ℕ, Ok, Err, get_or, map, arith, rules}
use Rattle.folder.specs.LoadedTables.{IsLoaded, IsTableAnswer}
use Rattle.folder.proofs.CountLemmas.{steady}
use Rattle.folder.proofs.LoadingLemmas.{missing_there, table_before, table_of, tables_more}
use Rattle.folder.proofs.OpeningLemmas.{hands_on}
use Rattle.folder.proofs.ReportLemmas.{reads_then, reports_after, reports_handed, reports_on}
use Rattle.folder.proofs.table_loader.load_numbers.Goals as goal

pub returns-in_err-bytes-clause-answer : goal.returns-in_err-bytes-clause-answer
returns-in_err-bytes-clause-answer g c =
    let tells = g.F.Folder.tells c.args.folder.now in
    let then = g.F.Folder.tells c.loop-number.folder in
    let failed = g.F.Folder.failed in
    let e = c.in_err-bytes.field-0.0 in
    let number : ℕ = get_or c.args.numbers.now c.loop-number.number-index 0 in
    hands_on (λ v. map table_of v.items) (failed c.args.folder.now) (failed c.loop-number.folder) (failed c.table.new.folder) c.from_residual-in_err-bytes.result e (IsTableAnswer then number) (IsLoaded tells c.args.numbers.now)
    c.from_residual-in_err-bytes.ensures.1 (omega (arith, c.loop-number.invariant.failures)) c.table.ensures.device.later c.in_err-bytes.ensures.answer
    (λ h. missing_there tells c.args.numbers.now c.loop-number.number-index c.loop-number.tables.items e c.loop-number-test.true c.loop-number.invariant.read (table_before tells then number (Err e) c.loop-number.invariant.reads.same h))

pub loop-number-preserved : goal.loop-number-preserved
loop-number-preserved g c =
    let tells = g.F.Folder.tells in
    let failed = g.F.Folder.failed in
    let number : ℕ = get_or c.args.numbers.now c.loop-number.number-index 0 in
    let bytes = c.in_ok-bytes.bytes in
    record {
      read = tables_more (tells c.args.folder.now) c.args.numbers.now c.loop-number.number-index c.loop-number.tables.items c.push.new.self.items bytes c.loop-number-test.true c.in_ok-push.ensures.items c.loop-number.invariant.read
          (table_before (tells c.args.folder.now) (tells c.loop-number.folder) number (Ok bytes.items) c.loop-number.invariant.reads.same c.in_ok-bytes.ensures.answer);
      reads = reads_then c.loop-number.invariant.reads c.table.ensures.reads;
      failures = steady (failed c.args.folder.now) (failed c.loop-number.folder) (failed c.table.new.folder) bytes c.table.result c.in_ok-bytes.was c.loop-number.invariant.failures c.table.ensures.device.later c.table.ensures.device.at_once;
    }

pub returns-in_err-bytes-clause-reads : goal.returns-in_err-bytes-clause-reads
returns-in_err-bytes-clause-reads g c = reads_then c.loop-number.invariant.reads c.table.ensures.reads

pub returns-in_err-bytes-clause-device : goal.returns-in_err-bytes-clause-device
returns-in_err-bytes-clause-device g c =
    reports_on c.loop-number.invariant.failures (reports_handed c.from_residual-in_err-bytes.result c.in_err-bytes.was c.table.ensures.device c.from_residual-in_err-bytes.ensures.1)

pub returns-in_err-push-clause-reads : goal.returns-in_err-push-clause-reads
returns-in_err-push-clause-reads g c = reads_then c.loop-number.invariant.reads c.table.ensures.reads

pub returns-in_err-push-clause-device : goal.returns-in_err-push-clause-device
returns-in_err-push-clause-device g c =
    reports_on c.loop-number.invariant.failures (reports_after c.from_residual-in_err-push.result c.in_ok-bytes.was c.table.ensures.device (search rules))
