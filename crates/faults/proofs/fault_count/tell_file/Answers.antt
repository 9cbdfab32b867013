use Rattle.std.proofs.Common.{ap, ◌∙◌, arith}
use Rattle.faults.specs.VersionFault.{OfFile}
use Rattle.faults.specs.declared.fault_count.FaultCount.{FaultCount}
use Rattle.faults.proofs.TellingLemmas.{at_again, list_told, next_told, none_told, stopped_at}
use Rattle.faults.proofs.fault_count.tell_file.Goals as goal

pub loop-fault-init : goal.loop-fault-init
loop-fault-init g c = record {
  part = none_told g.T.FaultTaker.tells _ c.args.taker.now c.args.told c.requires;
  goes = c.requires;
}

pub loop-fault-preserved : goal.loop-fault-preserved
loop-fault-preserved g c =
    let now = c.loop-fault in
    record {
      part = next_told g.T.FaultTaker.tells (OfFile c.args.number) c.args.faults.now now.fault-index c.args.taker.now now.taker c.file_fault-goes.new.self c.args.told.count now.told now.invariant.goes now.invariant.part _ c.one_more-told.result c.file_fault-goes.result c.loop-fault-test.true (at_again c.args.faults.now now.fault-index _ c.loop-fault-test.true) c.file_fault-goes.ensures c.one_more-told.ensures;
      goes = ap (λ (t : FaultCount). t.goes) c.one_more-told.ensures ∙ c.if-not-goes.false;
    }

pub returns-then-not-goes : goal.returns-then-not-goes
returns-then-not-goes g c =
    let now = c.loop-fault in
    stopped_at g.T.FaultTaker.tells _ _ c.args.taker.now c.file_fault-goes.new.self c.args.told.count c.one_more-told.result
    (next_told g.T.FaultTaker.tells (OfFile c.args.number) c.args.faults.now now.fault-index c.args.taker.now now.taker c.file_fault-goes.new.self c.args.told.count now.told now.invariant.goes now.invariant.part _ c.one_more-told.result c.file_fault-goes.result c.loop-fault-test.true (at_again c.args.faults.now now.fault-index _ c.loop-fault-test.true) c.file_fault-goes.ensures c.one_more-told.ensures)
    (ap (λ (t : FaultCount). t.goes) c.one_more-told.ensures ∙ c.if-not-goes.true)

pub returns : goal.returns
returns g c =
    let now = c.loop-fault in
    list_told g.T.FaultTaker.tells (OfFile c.args.number) c.args.faults.now now.fault-index c.args.taker.now now.taker now.taker c.args.told.count now.told now.invariant.goes now.invariant.part (omega (arith, c.loop-fault-test.false))
