use Rattle.std.proofs.Common.{subst, sym}
use Rattle.folder.specs.Orders.{order_cmp}
use Rattle.folder.specs.ReadsAs.{IsFileIn}
use Rattle.folder.specs.declared.order.Order.{Order}
use Rattle.scan.specs.TestedScan.{IsTestedScan}
use Rattle.scan.specs.ToldRows.{telling_by, counts_by}
use Rattle.scan.proofs.tested_scan.scan_version.Goals as goal

pub returns-in-Bytewise-clause-rows : goal.returns-in-Bytewise-clause-rows
returns-in-Bytewise-clause-rows g c files told =
    let failed = g.F.Folder.failed in
    let f = c.scan_version_by in
    subst (λ (order : Order). IsTestedScan (IsFileIn files) (order_cmp order) c.args.opened.now.version c.args.choice (telling_by g.T.RowTaker.tells c.args.taker.now f.new.taker) (counts_by (failed c.args.folder.now) (failed f.new.folder)) f.result) (sym c.in-Bytewise.is) (f.ensures.rows files told)

pub returns-in-Shortlex-clause-rows : goal.returns-in-Shortlex-clause-rows
returns-in-Shortlex-clause-rows g c files told =
    let failed = g.F.Folder.failed in
    let f = c.scan_version_by-in-Shortlex in
    subst (λ (order : Order). IsTestedScan (IsFileIn files) (order_cmp order) c.args.opened.now.version c.args.choice (telling_by g.T.RowTaker.tells c.args.taker.now f.new.taker) (counts_by (failed c.args.folder.now) (failed f.new.folder)) f.result) (sym c.in-Shortlex.is) (f.ensures.rows files told)
