use Rattle.std.proofs.Common.{◌≡◌, ◌*◌, ◌<◌, ℕ, [], length, drop, get_or, ap, sym, subst, ◌∙◌, arith}
use Rattle.std.proofs.lemmas.List.{length-drop}
use Rattle.byteorder.specs.Endian.{little_number}
use Rattle.block.specs.EntriesOfBytes.{entries_of_encoded, AreEncodedEntriesAfter}
use Rattle.block.specs.BlockView.{BlockView}
use Rattle.block.proofs.Places.{stands_at, length-places}
use Rattle.block.proofs.sound_block.SoundBlock.area_from.Goals as goal

pub overflow_mul-restart : goal.overflow_mul-restart
overflow_mul-restart c =
    let lt = subst (λ (b : BlockView). c.args.restart < length b.restarts) (sym c.self.view_is) c.requires in
    omega (arith, lt, length-places c.self.inside.area.now c.self.inside.restarts.now c.self.invariant)

pub split_at-requires : goal.split_at-requires
split_at-requires c =
    let lt = subst (λ (b : BlockView). c.args.restart < length b.restarts) (sym c.self.view_is) c.requires in
    omega (arith, lt, length-places c.self.inside.area.now c.self.inside.restarts.now c.self.invariant)

pub read_u32-offset-requires : goal.read_u32-offset-requires
read_u32-offset-requires c =
    let lt = subst (λ (b : BlockView). c.args.restart < length b.restarts) (sym c.self.view_is) c.requires in
    omega (arith, lt, length-places c.self.inside.area.now c.self.inside.restarts.now c.self.invariant, ap length c.split_at.ensures.back, length-drop (c.args.restart * 4) c.self.inside.restarts.now)

pub split_at-requires-2 : goal.split_at-requires-2
split_at-requires-2 c =
    let lt = subst (λ (b : BlockView). c.args.restart < length b.restarts) (sym c.self.view_is) c.requires in
    let stands = stands_at c.self.inside.area.now c.self.inside.restarts.now c.args.restart c.self.invariant lt in
    omega (arith, c.read_u32-offset.ensures, ap (little_number 4) c.split_at.ensures.back, stands.within)

pub returns : goal.returns
returns c =
    let lt = subst (λ (b : BlockView). c.args.restart < length b.restarts) (sym c.self.view_is) c.requires in
    let stands = stands_at c.self.inside.area.now c.self.inside.restarts.now c.args.restart c.self.invariant lt in
    let offset : c.read_u32-offset.result ≡ little_number 4 (drop (c.args.restart * 4) c.self.inside.restarts.now) = c.read_u32-offset.ensures ∙ ap (little_number 4) c.split_at.ensures.back in
    let rest : c.split_at-2.result.1.now ≡ drop (little_number 4 (drop (c.args.restart * 4) c.self.inside.restarts.now)) c.self.inside.area.now = c.split_at-2.ensures.back ∙ ap (λ (n : ℕ). drop n c.self.inside.area.now) offset in
    record {
      entries = ap (entries_of_encoded []) rest ∙ stands.entries ∙ ap (λ (b : BlockView). drop (get_or b.restarts c.args.restart 0) b.entries) c.self.view_is;
      encoded = subst (AreEncodedEntriesAfter []) (sym rest) stands.pieces;
    }
