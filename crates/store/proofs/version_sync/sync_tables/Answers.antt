use Rattle.std.proofs.Common.{subst, sym}
use Rattle.folder.specs.Levels.{file_numbers}
use Rattle.folder.specs.Orders.{order_cmp}
use Rattle.folder.specs.declared.order.Order.{Order}
use Rattle.store.specs.CallsAnswer.{IsCallsAnswer}
use Rattle.store.specs.VersionSync.{table_syncs}
use Rattle.store.proofs.version_sync.sync_tables.Goals as goal

pub returns-in-Bytewise : goal.returns-in-Bytewise
returns-in-Bytewise g c =
    subst (λ (order : Order). IsCallsAnswer g.F.Folder (table_syncs (file_numbers (order_cmp order) c.args.opened.now.version)) c.args.folder.now c.sync_levels.new.folder c.sync_levels.result)
    (sym c.in-Bytewise.is) c.sync_levels.ensures

pub returns-in-Shortlex : goal.returns-in-Shortlex
returns-in-Shortlex g c =
    subst (λ (order : Order). IsCallsAnswer g.F.Folder (table_syncs (file_numbers (order_cmp order) c.args.opened.now.version)) c.args.folder.now c.sync_levels-in-Shortlex.new.folder c.sync_levels-in-Shortlex.result)
    (sym c.in-Shortlex.is) c.sync_levels-in-Shortlex.ensures
