use Rattle.std.proofs.Common.{length, ap, arith}
use Rattle.std.proofs.lemmas.List.{length-append}
use Rattle.table.specs.IndexWalk.{all_named}
use Rattle.table.proofs.Orders.{rising_never_falls}
use Rattle.table.proofs.Walks.{left_rises, some_left}
use Rattle.table.proofs.table_cursor.TableCursorCursor.valid.Goals as goal

pub returns-clause-ordered : goal.returns-clause-ordered
returns-clause-ordered g c =
    let cmp = g.C.Comparator.cmp in
    rising_never_falls cmp c.args.self.now (left_rises cmp c.self.inside.bytes.now c.self.inside.index_block.entries c.self.inside.block c.self.inside.index c.args.self.now c.self.invariant c.self.view_is)

pub returns-clause-rising : goal.returns-clause-rising
returns-clause-rising g c =
    left_rises g.C.Comparator.cmp c.self.inside.bytes.now c.self.inside.index_block.entries c.self.inside.block c.self.inside.index c.args.self.now c.self.invariant c.self.view_is

pub returns-clause-some : goal.returns-clause-some
returns-clause-some g c =
    let block = c.self.inside.block in
    let behind = all_named c.self.inside.bytes.now c.self.inside.index in (
      λ yes. omega (arith, c.valid.ensures.0 yes, ap length c.self.view_is, length-append block behind),
      λ some. c.valid.ensures.1 (some_left g.C.Comparator.cmp c.self.inside.bytes.now c.self.inside.index_block.entries c.self.inside.block c.self.inside.index c.args.self.now c.self.invariant c.self.view_is some),
    )
