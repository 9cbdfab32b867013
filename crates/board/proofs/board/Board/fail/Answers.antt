use Rattle.std.proofs.Common.{ℕ, ◌∙◌, sym, ap, refl, subst, arith}
use Rattle.board.specs.Progress.{Progress, IsUnspent}
use Rattle.board.specs.Rule.{has_failed}
use Rattle.board.proofs.Moves.{settle_step}
use Rattle.board.proofs.Counts.{open_below, counted_fail, counts_small, seated_as}
use Rattle.board.proofs.board.Board.fail.Goals as goal

pub fetch_min-requires : goal.fetch_min-requires
fetch_min-requires c =
    let unspent = subst (λ (p : Progress). IsUnspent p c.args.job) (sym c.seat.view_is) c.requires.unspent in
    let below = open_below _ _ _ _ _ _ c.seat.invariant.1 unspent in
    let one = c.seat.invariant.0.one in
    (ap (λ (p : Progress). p.board.table) c.seat.view_is ∙ ap (λ b. b.table) (c.requires.board ∙ sym c.self.view_is), omega (arith, c.self.invariant), settle_step _ _ _ _ _ (omega (arith, one)) (omega (arith, below, c.spend-number.ensures)))

pub overflow_add-seat : goal.overflow_add-seat
overflow_add-seat c = let few = counts_small _ _ _ _ _ _ _ _ _ (c.seat.invariant.0, c.seat.invariant.1) in omega (arith, few)

pub invariant_of-seat : goal.invariant_of-seat
invariant_of-seat c =
    let unspent = subst (λ (p : Progress). IsUnspent p c.args.job) (sym c.seat.view_is) c.requires.unspent in
    let s = c.fetch_min.ensures in
    let is = s.2.0 ∙ ap (λ (x : ℕ). has_failed c.seat.inside.token.me.0 x) c.spend-number.ensures in
    (seated_as _ _ _ _ _ _ c.seat.invariant.0 s.2.1 _ is refl refl refl refl, counted_fail _ _ _ _ _ c.seat.invariant.1 _ c.args.job is unspent)
