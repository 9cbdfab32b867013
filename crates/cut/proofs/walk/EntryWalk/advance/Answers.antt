use Rattle.std.proofs.Common.{◌<◌, ℕ, List, length, Option, sym, ap, subst, ◌∙◌}
use Rattle.std.specs.Option.{option_map}
use Rattle.cut.specs.EntryWalkView.{EntryWalkView}
use Rattle.cut.proofs.Walks.{in_slice, passed_view, after_next, walk_view}
use Rattle.cut.proofs.walk.EntryWalk.advance.Goals as goal

pub returns-then-self-len : goal.returns-then-self-len
returns-then-self-len c =
    let was = c.self.inside in
    let before : Option (List ℕ) = option_map (λ key. key.bytes.now) was.before in
    let lt : was.passed < length was.slice = in_slice was.start was.slice was.passed before c.self.invariant (subst (λ (w : EntryWalkView). 0 < length w.rest) (sym c.self.view_is) c.requires) in
    walk_view was.start was.slice was.passed before c.key.result.bytes.now c.self.invariant lt c.key.ensures ∙ ap after_next c.self.view_is

pub returns-then-not-valid : goal.returns-then-not-valid
returns-then-not-valid c =
    let was = c.self.inside in
    let before : Option (List ℕ) = option_map (λ key. key.bytes.now) was.before in
    let lt : was.passed < length was.slice = in_slice was.start was.slice was.passed before c.self.invariant (subst (λ (w : EntryWalkView). 0 < length w.rest) (sym c.self.view_is) c.requires) in
    walk_view was.start was.slice was.passed before c.key.result.bytes.now c.self.invariant lt c.key.ensures ∙ ap after_next c.self.view_is

pub returns : goal.returns
returns c =
    let was = c.self.inside in
    let before : Option (List ℕ) = option_map (λ key. key.bytes.now) was.before in
    let lt : was.passed < length was.slice = in_slice was.start was.slice was.passed before c.self.invariant (subst (λ (w : EntryWalkView). 0 < length w.rest) (sym c.self.view_is) c.requires) in
    ap (passed_view c.key.result.bytes.now) c.skip-next.ensures
    ∙ walk_view was.start was.slice was.passed before c.key.result.bytes.now c.self.invariant lt c.key.ensures
    ∙ ap after_next c.self.view_is
