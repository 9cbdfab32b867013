use Rattle.std.proofs.Common.{sym, ◌∙◌, arith}
use Rattle.std.proofs.lemmas.Bool.{eqb-true, eq-eqb}
use Rattle.block.proofs.Restarts.{begins_iff}
use Rattle.block.proofs.sound_block.is_next.Goals as goal

pub returns-then-pending-ge-RESTART_LEN : goal.returns-then-pending-ge-RESTART_LEN
returns-then-pending-ge-RESTART_LEN c =
    let both = begins_iff c.args.pending.now c.args.at (λ i. omega (arith, c.type_inv.pending i)) c.if-pending-ge-RESTART_LEN.true in
    (λ h. both.0 (sym c.read_u32.ensures ∙ eqb-true _ _ h), λ h. eq-eqb _ _ (c.read_u32.ensures ∙ both.1 h))
