use Rattle.std.proofs.Common.{ℕ, ◌∙◌, sym, ap, refl, subst, arith}
use Rattle.board.specs.Progress.{Progress, IsUnspent}
use Rattle.board.specs.Rule.{has_looked, has_skipped}
use Rattle.board.proofs.Counts.{counted_skip, look_above, counts_small, seated_as}
use Rattle.board.proofs.board.Board.skip.Goals as goal

pub overflow_add-seat : goal.overflow_add-seat
overflow_add-seat c = let few = counts_small _ _ _ _ _ _ _ _ _ (c.seat.invariant.0, c.seat.invariant.1) in omega (arith, few)

pub invariant_of-seat : goal.invariant_of-seat
invariant_of-seat c =
    let unspent = subst (λ (p : Progress). IsUnspent p c.args.job) (sym c.seat.view_is) c.requires.unspent in
    let s = c.look_for-found.ensures in
    let is = s.looks ∙ look_above _ _ _ c.if-found-number.true ∙ ap (λ (x : ℕ). has_skipped (has_looked c.seat.inside.token.me.0 c.look_for-found.result) x) c.number-number.ensures in
    (seated_as _ _ _ _ _ _ c.seat.invariant.0 s.token.1 _ is refl refl refl refl, counted_skip _ _ _ _ _ c.seat.invariant.1 _ _ c.args.job is unspent)
