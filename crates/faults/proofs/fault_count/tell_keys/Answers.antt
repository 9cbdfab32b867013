use Rattle.std.proofs.Common.{ℕ, List, ap, subst, ◌∙◌, arith}
use Rattle.faults.specs.VersionFault.{OfKey}
use Rattle.faults.specs.KeyWalk.{misplaced_in}
use Rattle.faults.specs.declared.fault_count.FaultCount.{FaultCount}
use Rattle.faults.proofs.TellingLemmas.{list_told, next_told, none_told, stopped_at}
use Rattle.faults.proofs.fault_count.tell_keys.Goals as goal

pub loop-fault-init : goal.loop-fault-init
loop-fault-init g c = record {
  part = none_told g.T.FaultTaker.tells _ c.args.taker.now c.args.told c.requires;
  goes = c.requires;
}

pub loop-fault-preserved : goal.loop-fault-preserved
loop-fault-preserved g c =
    let now = c.loop-fault in
    record {
      part = next_told g.T.FaultTaker.tells (λ k. OfKey (misplaced_in k)) c.args.faults.now now.fault-index c.args.taker.now now.taker c.key_fault-goes.new.self c.args.told.count now.told now.invariant.goes now.invariant.part c.fault-item.result c.one_more-told.result c.key_fault-goes.result c.loop-fault-test.true c.fault-item.is (subst (λ (u : List ℕ). g.T.FaultTaker.tells now.taker (OfKey (record { user = u; file = c.fault-item.result.file; other = c.fault-item.result.other })) c.key_fault-goes.result c.key_fault-goes.new.self) c.deref.ensures.value c.key_fault-goes.ensures) c.one_more-told.ensures;
      goes = ap (λ (t : FaultCount). t.goes) c.one_more-told.ensures ∙ c.if-not-goes.false;
    }

pub returns-then-not-goes : goal.returns-then-not-goes
returns-then-not-goes g c =
    let now = c.loop-fault in
    stopped_at g.T.FaultTaker.tells _ _ c.args.taker.now c.key_fault-goes.new.self c.args.told.count c.one_more-told.result
    (next_told g.T.FaultTaker.tells (λ k. OfKey (misplaced_in k)) c.args.faults.now now.fault-index c.args.taker.now now.taker c.key_fault-goes.new.self c.args.told.count now.told now.invariant.goes now.invariant.part c.fault-item.result c.one_more-told.result c.key_fault-goes.result c.loop-fault-test.true c.fault-item.is (subst (λ (u : List ℕ). g.T.FaultTaker.tells now.taker (OfKey (record { user = u; file = c.fault-item.result.file; other = c.fault-item.result.other })) c.key_fault-goes.result c.key_fault-goes.new.self) c.deref.ensures.value c.key_fault-goes.ensures) c.one_more-told.ensures)
    (ap (λ (t : FaultCount). t.goes) c.one_more-told.ensures ∙ c.if-not-goes.true)

pub returns : goal.returns
returns g c =
    let now = c.loop-fault in
    list_told g.T.FaultTaker.tells (λ k. OfKey (misplaced_in k)) c.args.faults.now now.fault-index c.args.taker.now now.taker now.taker c.args.told.count now.told now.invariant.goes now.invariant.part (omega (arith, c.loop-fault-test.false))
