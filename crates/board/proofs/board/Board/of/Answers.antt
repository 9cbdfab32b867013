use Rattle.std.proofs.Common.{◌<◌, ◌-◌, ◌≡◌, sym, ap, ◌∙◌, arith}
use Rattle.board.specs.declared.rule.Extent.{Extent}
use Rattle.board.specs.Progress.{unused_seat, unused_seats}
use Rattle.board.specs.Seats.{layout}
use Rattle.board.proofs.Moves.{splits_as}
use Rattle.board.proofs.Workings.{all_made}
use Rattle.board.proofs.board.Board.of.Goals as goal

pub split_seat-next-requires : goal.split_seat-next-requires
split_seat-next-requires c =
    let i = c.loop-number.invariant in
    let more : 1 < c.args.extent.seats - c.loop-number.number = omega arith in
    (i.board, omega (arith, i.wide), splits_as _ _ _ _ _ _ (ap (λ m. m.0) i.left) more)

pub returns : goal.returns
returns c =
    let i = c.loop-number.invariant in
    let made = c.in_ok-table.table.shared in
    let n = c.args.extent.jobs in
    let w = c.args.extent.seats in
    let b = layout made.table_id n w in
    let last : c.loop-number.number ≡ w - 1 = omega (arith, c.loop-number-test.false, c.loop-number.auto.number-end) in
    let same : layout made.table_id made.key.jobs made.key.seats ≡ b = ap (λ (e : Extent). layout made.table_id e.jobs e.seats) c.in_ok-table.ensures.2 in
    let seat : c.new-2.result ≡ unused_seat b (w - 1) = c.new-2.ensures ∙ ap (λ t. unused_seat (layout t n w) (w - 1)) i.board in
    (same, all_made b w c.loop-number.number c.loop-number.all.items c.push-2.new.self.items c.new-2.result c.requires.few.0 last i.made seat c.in_ok-push-2.ensures.items ∙ ap (λ l. unused_seats l w) (sym same))
