use Rattle.std.proofs.Common.{◌≡◌, ◌*◌, length, subst, arith}
use Rattle.block.specs.BlockView.{BlockView}
use Rattle.block.proofs.Places.{ArePlaces, some_place, places_of_sound, length-places}
use Rattle.block.proofs.sound_block.SoundBlock.restarts.Goals as goal

pub returns : goal.returns
returns c =
    let four : 4 * length c.args.self.now.restarts ≡ length c.self.inside.restarts.now =
    subst (λ (b : BlockView). 4 * length b.restarts ≡ length c.self.inside.restarts.now) c.self.view_is (length-places c.self.inside.area.now c.self.inside.restarts.now c.self.invariant) in
    let places = subst (λ (b : BlockView). ArePlaces b.entries b.restarts) c.self.view_is (places_of_sound c.self.inside.area.now c.self.inside.restarts.now c.self.invariant) in
    record {
      count = omega (arith, four);
      some = omega (arith, four, some_place c.args.self.now.entries c.args.self.now.restarts places);
      first = places.first;
      rising = places.rising;
      within = places.within;
    }
