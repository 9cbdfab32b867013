use Rattle.std.proofs.Common.{◌≡◌, All, subst, sym}
use Rattle.board.proofs.Workings.{unused_boards}
use Rattle.board.proofs.board.Board.new.Goals as goal

pub returns-in-Ok-clause-boards : goal.returns-in-Ok-clause-boards
returns-in-Ok-clause-boards c = subst (All (λ p. p.board ≡ c.in-Ok.made.0)) (sym c.in-Ok.ensures.1) (unused_boards c.in-Ok.made.0 c.args.seats)
