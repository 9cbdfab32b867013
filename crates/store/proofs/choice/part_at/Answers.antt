use Rattle.std.proofs.Common.{◌≡◌, ℕ, ◌<◌, ◌≤◌, length, arith}
use Rattle.store.proofs.PartNumbers.{numbered_at}
use Rattle.store.proofs.choice.part_at.Goals as goal

pub returns : goal.returns
returns c =
    numbered_at c.args.parts.items c.args.number c.swap_remove.result (omega (arith, c.if-number-eq0.false))
    (omega (arith, c.len.ensures, c.if-number-len.false)) c.swap_remove.ensures.value
