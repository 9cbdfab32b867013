use Rattle.std.proofs.Common.{◌+◌, List, ℕ, sym, subst, arith}
use Rattle.board.specs.Progress.{Progress, IsUnspent}
use Rattle.board.specs.Seats.{IsCounted}
use Rattle.board.proofs.Counts.{counted_done, counts_small}
use Rattle.board.proofs.board.Board.done.Goals as goal

pub overflow_add-seat : goal.overflow_add-seat
overflow_add-seat c = let few = counts_small _ _ _ _ _ _ _ _ _ (c.seat.invariant.0, c.seat.invariant.1) in omega (arith, few)

pub invariant_of-seat : goal.invariant_of-seat
invariant_of-seat c =
    let unspent = subst (λ (p : Progress). IsUnspent p c.args.job) (sym c.seat.view_is) c.requires.unspent in (
      c.seat.invariant.0,
      subst (λ (xs : List ℕ). IsCounted c.seat.inside.token.me.0 xs (c.seat.inside.done + 1) c.seat.inside.failed c.seat.inside.skipped) (sym c.with-seat-inside.ensures)
          (counted_done _ _ _ _ _ c.seat.invariant.1 c.args.job unspent),
    )
