use Rattle.std.proofs.Common.{Ok, subst}
use Rattle.checks.specs.LawfulTables.{IsLawfulTables}
use Rattle.folder.specs.Levels.{file_numbers}
use Rattle.folder.specs.LoadedTables.{IsLoaded}
use Rattle.folder.specs.Orders.{order_cmp}
use Rattle.folder.specs.declared.order.Order.{Order}
use Rattle.answers.proofs.unverified_get.unverified_value.Goals as goal

pub returns-in-Bytewise-clause-lawful : goal.returns-in-Bytewise-clause-lawful
returns-in-Bytewise-clause-lawful g c files loaded tables all there sound =
    let v = c.args.opened.now.version in
    let tells = g.F.Folder.tells c.args.folder.now in
    c.value_by.ensures.lawful files loaded tables all
    (subst (λ (order : Order). IsLoaded tells (file_numbers (order_cmp order) v) (Ok loaded)) c.in-Bytewise.is there)
    (subst (λ (order : Order). IsLawfulTables (order_cmp order) v loaded (Ok tables)) c.in-Bytewise.is sound)

pub returns-in-Shortlex-clause-lawful : goal.returns-in-Shortlex-clause-lawful
returns-in-Shortlex-clause-lawful g c files loaded tables all there sound =
    let v = c.args.opened.now.version in
    let tells = g.F.Folder.tells c.args.folder.now in
    c.value_by-in-Shortlex.ensures.lawful files loaded tables all
    (subst (λ (order : Order). IsLoaded tells (file_numbers (order_cmp order) v) (Ok loaded)) c.in-Shortlex.is there)
    (subst (λ (order : Order). IsLawfulTables (order_cmp order) v loaded (Ok tables)) c.in-Shortlex.is sound)
