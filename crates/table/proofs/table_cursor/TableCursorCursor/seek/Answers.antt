use Rattle.std.proofs.Common.{Result, Ok, Err}
use Rattle.std.specs.Prelude.{OnErr}
use Rattle.table.proofs.Orders.{leaves_all}
use Rattle.table.proofs.table_cursor.TableCursorCursor.seek.Goals as goal

on_err : {T E P : Type 0} (r : Result T E) → P → OnErr r P
on_err (Ok x) holds = tt
on_err (Err e) holds = holds

pub returns-in_err-self-inside-clause-err : goal.returns-in_err-self-inside-clause-err
returns-in_err-self-inside-clause-err g c = on_err c.from_residual.result (leaves_all g.C.Comparator.cmp c.args.target.bytes.now c.args.self.now)
