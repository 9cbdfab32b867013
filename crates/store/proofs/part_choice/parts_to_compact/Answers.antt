use Rattle.std.proofs.Common.{map, subst, sym}
use Rattle.folder.specs.Answers.{HoldsOrMemory}
use Rattle.folder.specs.Orders.{order_cmp}
use Rattle.folder.specs.declared.order.Order.{Order}
use Rattle.pick.specs.PickedInputs.{picked_in}
use Rattle.store.specs.InputsCompaction.{ArePartsFound}
use Rattle.store.proofs.part_choice.parts_to_compact.Goals as goal

pub returns-in-Bytewise : goal.returns-in-Bytewise
returns-in-Bytewise c =
    subst (λ (order : Order). HoldsOrMemory (λ w. map picked_in w.items) c.tested_parts.result (ArePartsFound (order_cmp order) c.args.opened.now.version c.args.level)) (sym c.in-Bytewise.is) c.tested_parts.ensures

pub returns-in-Shortlex : goal.returns-in-Shortlex
returns-in-Shortlex c =
    subst (λ (order : Order). HoldsOrMemory (λ w. map picked_in w.items) c.tested_parts-in-Shortlex.result (ArePartsFound (order_cmp order) c.args.opened.now.version c.args.level)) (sym c.in-Shortlex.is) c.tested_parts-in-Shortlex.ensures
