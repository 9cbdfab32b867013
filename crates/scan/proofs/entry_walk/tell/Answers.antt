use Rattle.std.proofs.Common.{Bool, subst}
use Rattle.scan.specs.Row.{Row}
use Rattle.scan.proofs.Told.{goes_on, stopped_by}
use Rattle.scan.proofs.entry_walk.tell.Goals as goal

pub returns-then-goes_on : goal.returns-then-goes_on
returns-then-goes_on g c =
    let tells = g.T.RowTaker.tells in
    let row : Row = record { key = c.args.key.now; value = c.args.value.now } in
    goes_on tells row c.args.taker.now c.row-goes_on.new.self c.args.left c.requires c.after.result (subst (λ (b : Bool). tells c.args.taker.now row b c.row-goes_on.new.self) c.if-goes_on.true c.row-goes_on.ensures) c.after.ensures

pub returns-else-goes_on : goal.returns-else-goes_on
returns-else-goes_on g c =
    let tells = g.T.RowTaker.tells in
    let row : Row = record { key = c.args.key.now; value = c.args.value.now } in
    stopped_by tells row c.args.taker.now c.row-goes_on.new.self c.args.left c.requires (subst (λ (b : Bool). tells c.args.taker.now row b c.row-goes_on.new.self) c.if-goes_on.false c.row-goes_on.ensures)
