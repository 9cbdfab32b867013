use Rattle.std.proofs.Common.{Ok, subst, sym}
use Rattle.checks.specs.HeldTables.{AreHeldBy}
use Rattle.checks.specs.LawfulTables.{IsLawfulTables}
use Rattle.checks.proofs.HeldAnswers.{none_held}
use Rattle.folder.specs.Levels.{file_numbers}
use Rattle.folder.specs.LoadedTables.{IsLoaded}
use Rattle.folder.specs.Orders.{order_cmp}
use Rattle.folder.specs.declared.order.Order.{Order}
use Rattle.folder.specs.declared.order.Order.TheVariants.{Bytewise, Shortlex}
use Rattle.scan.specs.ToldRows.{IsScan, counts_by, telling_by}
use Rattle.scan.proofs.version_scan.scan_unverified.Goals as goal

pub returns-in-Bytewise-clause-rows : goal.returns-in-Bytewise-clause-rows
returns-in-Bytewise-clause-rows g c files loaded tables all there sound =
    let v = c.args.opened.now.version in
    let tells = g.F.Folder.tells c.args.folder.now in
    let failed = g.F.Folder.failed in
    let f = c.scan_held in
    subst (λ (order : Order). IsScan (order_cmp order) v tables c.args.choice (telling_by g.T.RowTaker.tells c.args.taker.now f.new.taker) (counts_by (failed c.args.folder.now) (failed f.new.folder)) f.result) (sym c.in-Bytewise.is)
    (f.ensures.rows files loaded tables all
    (subst (λ (order : Order). IsLoaded tells (file_numbers (order_cmp order) v) (Ok loaded)) c.in-Bytewise.is there)
    (subst (λ (order : Order). IsLawfulTables (order_cmp order) v loaded (Ok tables)) c.in-Bytewise.is sound)
    (subst (AreHeldBy (order_cmp Bytewise) tells) (sym c.none-tables.ensures) (none_held (order_cmp Bytewise) tells)))

pub returns-in-Shortlex-clause-rows : goal.returns-in-Shortlex-clause-rows
returns-in-Shortlex-clause-rows g c files loaded tables all there sound =
    let v = c.args.opened.now.version in
    let tells = g.F.Folder.tells c.args.folder.now in
    let failed = g.F.Folder.failed in
    let f = c.scan_held-in-Shortlex in
    subst (λ (order : Order). IsScan (order_cmp order) v tables c.args.choice (telling_by g.T.RowTaker.tells c.args.taker.now f.new.taker) (counts_by (failed c.args.folder.now) (failed f.new.folder)) f.result) (sym c.in-Shortlex.is)
    (f.ensures.rows files loaded tables all
    (subst (λ (order : Order). IsLoaded tells (file_numbers (order_cmp order) v) (Ok loaded)) c.in-Shortlex.is there)
    (subst (λ (order : Order). IsLawfulTables (order_cmp order) v loaded (Ok tables)) c.in-Shortlex.is sound)
    (subst (AreHeldBy (order_cmp Shortlex) tells) (sym c.none-tables-in-Shortlex.ensures) (none_held (order_cmp Shortlex) tells)))
