use Rattle.std.proofs.Common.{◌-◌, List, ℕ, length, drop, sym, subst}
use Rattle.block.specs.FrontField.{front_field}
use Rattle.block.specs.BlockPass.{IsNextEncodedEntry}
use Rattle.block.proofs.Areas.{no_piece, too_much_shared, restart_shares, next_marked, next_plain}
use Rattle.block.proofs.Restarts.{begins_drop}
use Rattle.block.proofs.sound_block.next_entry.Goals as goal

pub returns-in_default-clause-none : goal.returns-in_default-clause-none
returns-in_default-clause-none c restarts some kept h = no_piece c.args.area.now restarts c.args.rest.now c.args.pending.now c.args.key_len kept some (sym c.in_default.ensures) h

pub returns-then-front-key_len-clause-none : goal.returns-then-front-key_len-clause-none
returns-then-front-key_len-clause-none c restarts some kept h =
    too_much_shared c.args.area.now restarts c.args.rest.now c.args.pending.now c.args.key_len (front_field c.in-Some.front) kept (sym c.in-Some.ensures) c.if-front-key_len.true h

pub returns-then-not-is_next-clause-next : goal.returns-then-not-is_next-clause-next
returns-then-not-is_next-clause-next c =
    next_plain c.args.area.now c.args.rest.now c.args.pending.now c.args.key_len (front_field c.in-Some.front) (sym c.in-Some.ensures) c.if-front-key_len.false
    (λ b. let yes = c.is_next.ensures.1 b in absurd cc)

pub returns-then-front-ne0-clause-none : goal.returns-then-front-ne0-clause-none
returns-then-front-ne0-clause-none c restarts some kept h =
    let next = c.is_next.ensures.0 c.if-not-is_next.false in
    restart_shares c.args.area.now restarts c.args.rest.now c.args.pending.now next.1.0 c.args.key_len (front_field c.in-Some.front) kept (sym c.in-Some.ensures) next.0 next.1.1 c.if-front-ne0.true h

pub returns-clause-next : goal.returns-clause-next
returns-clause-next c =
    let area = c.args.area.now in
    let rest = c.args.rest.now in
    let pending = c.args.pending.now in
    let front = front_field c.in-Some.front in
    let next = c.is_next.ensures.0 c.if-not-is_next.false in
    subst (λ (t : List ℕ). IsNextEncodedEntry area rest pending c.args.key_len front t) (sym c.split_at.ensures.back)
    (next_marked area rest pending (drop 4 pending) c.args.key_len front (sym c.in-Some.ensures) c.if-front-key_len.false next.0 (begins_drop pending (length area - length rest) next.1) c.if-front-ne0.false)
