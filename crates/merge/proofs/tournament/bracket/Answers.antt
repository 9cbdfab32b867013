use Rattle.std.proofs.Common.{◌+◌, sym, subst, ◌∙◌, arith}
use Rattle.merge.proofs.Tournaments.{IsBegun, begun, begun_next, begun_all}
use Rattle.merge.proofs.tournament.bracket.Goals as goal

pub loop-place-init : goal.loop-place-init
loop-place-init c = subst (IsBegun c.args.number 0) (sym (c.reserve.ensures.items ∙ c.in_ok-winners.ensures.items_if_clones_equal (λ y h. h))) (begun c.args.number)

pub loop-place-preserved : goal.loop-place-preserved
loop-place-preserved c =
    subst (IsBegun c.args.number (c.loop-place.place + 1)) (sym c.in_ok-push.ensures.items) (begun_next c.args.number c.loop-place.place c.loop-place.winners.items c.loop-place-test.true c.loop-place.invariant)

pub returns-clause-ok : goal.returns-clause-ok
returns-clause-ok c = begun_all c.args.number c.loop-place.place c.loop-place.winners.items c.loop-place.invariant (omega arith)
