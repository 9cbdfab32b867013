use Rattle.std.proofs.Common.{◌-◌, sym, ◌∙◌, arith}
use Rattle.faults.proofs.OverlapLemmas.{order_end}
use Rattle.faults.proofs.file_faults.are_in_order.Goals as goal

pub returns : goal.returns
returns g c =
    let now = c.loop-place in
    sym (order_end g.C.Comparator.cmp c.args.tested.now (now.place - 1) (omega (arith, now.invariant.some, c.loop-place-test.false))) ∙ now.invariant.same
