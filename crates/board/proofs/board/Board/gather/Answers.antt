use Rattle.std.proofs.Common.{◌∙◌, sym, ap, arith}
use Rattle.board.specs.Progress.{Progress, Layout}
use Rattle.board.proofs.Moves.{joins}
use Rattle.board.proofs.Closings.{gathers}
use Rattle.board.proofs.board.Board.gather.Goals as goal

pub join_seat-requires : goal.join_seat-requires
join_seat-requires c =
    let here = ap (λ (l : Layout). l.table) c.self.view_is in (
      ap (λ (l : Layout). l.table) c.requires.board ∙ sym here,
      ap (λ (p : Progress). p.board.table) c.seat.view_is ∙ ap (λ (l : Layout). l.table) c.requires.seat ∙ sym here,
      c.seat.invariant.0.slots,
      omega (arith, c.self.invariant.0),
      joins _ _ _ _ _ c.requires.seats,
    )

pub returns : goal.returns
returns c ps h =
    let j = c.join_seat.ensures in
    gathers _ _ _ _ _ _ _ _ _ _ _ _ _ _ _ (c.seat.invariant.0, c.seat.invariant.1) c.seat.view_is j.0 (ap (λ m. m.0) j.2) c.saturating_add-gathered.ensures c.saturating_add-gathered-2.ensures c.saturating_add-gathered-3.ensures h
