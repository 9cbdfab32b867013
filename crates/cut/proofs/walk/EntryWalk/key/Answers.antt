use Rattle.std.proofs.Common.{◌<◌, length, sym, ap, subst, ◌∙◌}
use Rattle.std.specs.Prelude.{slice_get}
use Rattle.std.specs.Option.{option_map}
use Rattle.block.specs.EncodedEntry.{Entry}
use Rattle.cut.specs.EntryWalkView.{EntryWalkView}
use Rattle.cut.proofs.Walks.{in_slice, next_is}
use Rattle.cut.proofs.walk.EntryWalk.key.Goals as goal

pub key-requires : goal.key-requires
key-requires c =
    in_slice c.self.inside.start c.self.inside.slice c.self.inside.passed _ c.self.invariant (subst (λ (w : EntryWalkView). 0 < length w.rest) (sym c.self.view_is) c.requires)

pub returns : goal.returns
returns c =
    let was = c.self.inside in
    let lt : was.passed < length was.slice = in_slice was.start was.slice was.passed _ c.self.invariant (subst (λ (w : EntryWalkView). 0 < length w.rest) (sym c.self.view_is) c.requires) in
    ap (λ (w : EntryWalkView). option_map (λ (e : Entry). e.key) (slice_get w.rest 0)) (sym c.self.view_is)
    ∙ ap (option_map (λ (e : Entry). e.key)) (next_is was.start was.slice was.passed _ c.self.invariant lt)
    ∙ c.key.ensures
