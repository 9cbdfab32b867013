use Rattle.std.proofs.Common.{refl, sym, subst}
use Rattle.folder.specs.Manifest.{order_name}
use Rattle.folder.specs.Orders.{order_cmp}
use Rattle.folder.specs.declared.order.Order.{Order}
use Rattle.adoption.specs.TakenIn.{IsTakenInstalled}
use Rattle.adoption.proofs.joined_installation.install_taken.Goals as goal

pub returns-in-Bytewise-clause-installed : goal.returns-in-Bytewise-clause-installed
returns-in-Bytewise-clause-installed g c first =
    subst (λ (order : Order). IsTakenInstalled g.F.Folder (order_name order) (order_cmp order) first c.args.folder.now c.install_by.new.folder c.args.taken c.install_by.result)
    (sym c.in-Bytewise.is) (c.install_by.ensures.installed first)

pub returns-in-Shortlex-clause-installed : goal.returns-in-Shortlex-clause-installed
returns-in-Shortlex-clause-installed g c first =
    subst (λ (order : Order). IsTakenInstalled g.F.Folder (order_name order) (order_cmp order) first c.args.folder.now c.install_by-in-Shortlex.new.folder c.args.taken c.install_by-in-Shortlex.result)
    (sym c.in-Shortlex.is) (c.install_by-in-Shortlex.ensures.installed first)
