use Rattle.std.proofs.Common.{◌+◌, sym, ◌∙◌}
use Rattle.std.proofs.lemmas.Bool.{not-false, not-true}
use Rattle.table.proofs.Binds.{ok_is}
use Rattle.faults.proofs.FindingLemmas.{files_stop, next_files}
use Rattle.faults.proofs.OverlapLemmas.{order_behind}
use Rattle.faults.proofs.file_faults.tell_files.Goals as goal

pub file_faults-requires : goal.file_faults-requires
file_faults-requires g c is_true =
    order_behind g.C.Comparator.cmp (c.loop-place.place + 1) c.args.tested.now c.are_in_order-is_ordered.result c.are_in_order-is_ordered.ensures is_true

pub loop-place-preserved : goal.loop-place-preserved
loop-place-preserved g c =
    let now = c.loop-place in
    let more = not-false _ c.if-not-told.false in
    record {
      part = next_files g.T.FaultTaker.tells g.C.Comparator.cmp c.args.next c.args.tested.now now.place c.index-tested-place.result c.deref.result.now c.loop-place-test.true c.index-tested-place.is (ok_is _ _ c.in_ok-faults.ensures ∙ sym c.deref.ensures.value)
          c.args.taker.now now.taker c.tell_file-told.new.taker now.told c.tell_file-told.result now.invariant.goes now.invariant.part c.tell_file-told.ensures more;
      goes = more;
    }

pub returns-then-not-told-clause-told : goal.returns-then-not-told-clause-told
returns-then-not-told-clause-told g c =
    let now = c.loop-place in
    files_stop g.T.FaultTaker.tells g.C.Comparator.cmp c.args.next c.args.tested.now now.place c.index-tested-place.result c.deref.result.now c.loop-place-test.true c.index-tested-place.is (ok_is _ _ c.in_ok-faults.ensures ∙ sym c.deref.ensures.value)
    c.args.taker.now now.taker c.tell_file-told.new.taker now.told c.tell_file-told.result now.invariant.goes now.invariant.part c.tell_file-told.ensures (not-true _ c.if-not-told.true)
