use Rattle.std.proofs.Common.{◌∙◌}
use Rattle.edit.proofs.Applied.{copied_on, value_is}
use Rattle.edit.proofs.copies.copied_by_level.Goals as goal

pub loop-level-preserved-in_ok-insert : goal.loop-level-preserved-in_ok-insert
loop-level-preserved-in_ok-insert c =
    rw c.in_ok-insert.ensures.entries (copied_on c.args.pointers.now.entries c.loop-level.copy.entries c.next.new.self c.loop-level.level-iterator c.in-Some.level.now c.in-Some.key.now c.in_ok-of.field-0 c.iter-level-items.ensures.ordered c.loop-level.invariant c.in-Some.ensures.steps
    (value_is c.as_key.result.bytes.now c.in_ok-of.field-0 c.in_ok-of.ensures ∙ c.as_key.ensures))

pub loop-level-preserved : goal.loop-level-preserved
loop-level-preserved c =
    rw c.in_ok-insert.ensures.entries (copied_on c.args.pointers.now.entries c.loop-level.copy.entries c.next.new.self c.loop-level.level-iterator c.in-Some.level.now c.in-Some.key.now c.in_ok-of.field-0 c.iter-level-items.ensures.ordered c.loop-level.invariant c.in-Some.ensures.steps
    (value_is c.as_key.result.bytes.now c.in_ok-of.field-0 c.in_ok-of.ensures ∙ c.as_key.ensures))
