use Rattle.std.proofs.Common.{Ok, map, subst, sym}
use Rattle.table.specs.Answers.{EqualOrMemory}
use Rattle.folder.specs.declared.order.Order.{Order}
use Rattle.folder.specs.Orders.{order_cmp}
use Rattle.answers.specs.Seen.{seen}
use Rattle.answers.specs.VersionAnswer.{file_rows}
use Rattle.answers.proofs.version_answer.file_rows.Goals as goal

pub returns-in-Bytewise : goal.returns-in-Bytewise
returns-in-Bytewise c =
    subst (λ (order : Order). EqualOrMemory (λ rows. map seen rows.items) c.rows_by.result (Ok (file_rows (order_cmp order) c.args.version.now)))
    (sym c.in-Bytewise.is) c.rows_by.ensures

pub returns-in-Shortlex : goal.returns-in-Shortlex
returns-in-Shortlex c =
    subst (λ (order : Order). EqualOrMemory (λ rows. map seen rows.items) c.rows_by-in-Shortlex.result (Ok (file_rows (order_cmp order) c.args.version.now)))
    (sym c.in-Shortlex.is) c.rows_by-in-Shortlex.ensures
