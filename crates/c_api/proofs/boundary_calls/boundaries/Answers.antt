use Rattle.std.proofs.Common.{List, sym, ◌∙◌}
use Rattle.table.specs.TableContents.{Contents}
use Rattle.edit.proofs.Binds.{ok_is}
use Rattle.c_api.specs.Boundaries.{AskedBoundaries, boundaries_in, tables_read}
use Rattle.c_api.proofs.KeyLists.{of_tells}
use Rattle.c_api.proofs.boundary_calls.boundaries.Goals as goal

pub returns-in-Ok-clause-ok : goal.returns-in-Ok-clause-ok
returns-in-Ok-clause-ok g c =
    let cmp = g.C.Comparator.cmp in
    let m : AskedBoundaries = boundaries_in c.args.lent.now c.args.want in
    let read : List Contents = tables_read cmp m.tables m.inputs in
    of_tells cmp m c.in-Ok.split c.of.result c.of.ensures c.deref.result.now
    (c.deref.ensures.value ∙ sym (ok_is read c.in_ok-tables.tables.items c.in_ok-tables.ensures)) c.in-Ok.ensures.few c.in-Ok.ensures.chosen
