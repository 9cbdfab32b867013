use Rattle.std.proofs.Common.{ℕ, [], get_or, ap, sym, ◌∙◌}
use Rattle.std.specs.Option.{option_map}
use Rattle.block.specs.FrontField.{front_field}
use Rattle.block.proofs.Walks.{ends, first_key, no_key}
use Rattle.block.proofs.sound_block.SoundBlock.key_at.Goals as goal

pub returns-in_err-front : goal.returns-in_err-front
returns-in_err-front c =
    let place : ℕ = get_or c.args.self.now.restarts c.args.restart 0 in
    ap (option_map (λ key. key.now)) c.from_residual.ensures
    ∙ sym (no_key c.args.self.now.entries place (sym c.area_from.ensures.entries ∙ ends [] c.area_from.result.now c.area_from.ensures.encoded (sym c.in_err-front.ensures)))

pub returns : goal.returns
returns c =
    let place : ℕ = get_or c.args.self.now.restarts c.args.restart 0 in
    sym (first_key c.args.self.now.entries place c.area_from.result.now (front_field c.in_ok-front.front) c.area_from.ensures.encoded (sym c.in_ok-front.ensures) (sym c.area_from.ensures.entries))
