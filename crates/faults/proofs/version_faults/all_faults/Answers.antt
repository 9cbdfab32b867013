use Rattle.std.proofs.Common.{subst, sym}
use Rattle.folder.specs.Orders.{order_cmp}
use Rattle.folder.specs.declared.order.Order.{Order}
use Rattle.faults.specs.AllFaults.{AreFaultsTold, version_faults}
use Rattle.faults.proofs.version_faults.all_faults.Goals as goal

pub returns-in-Bytewise-clause-told : goal.returns-in-Bytewise-clause-told
returns-in-Bytewise-clause-told g c files told =
    let failed = g.F.Folder.failed in
    let f = c.all_faults_by in
    subst (λ (order : Order). AreFaultsTold g.T.FaultTaker.tells (version_faults (order_cmp order) files c.args.opened.now.version) c.args.taker.now f.new.taker (failed c.args.folder.now) (failed f.new.folder) f.result) (sym c.in-Bytewise.is) (f.ensures.told files told)

pub returns-in-Shortlex-clause-told : goal.returns-in-Shortlex-clause-told
returns-in-Shortlex-clause-told g c files told =
    let failed = g.F.Folder.failed in
    let f = c.all_faults_by-in-Shortlex in
    subst (λ (order : Order). AreFaultsTold g.T.FaultTaker.tells (version_faults (order_cmp order) files c.args.opened.now.version) c.args.taker.now f.new.taker (failed c.args.folder.now) (failed f.new.folder) f.result) (sym c.in-Shortlex.is) (f.ensures.told files told)
