use Rattle.std.proofs.Common.{◌≡◌, ◌<◌, ℕ, List, length, take, Option, sym, ap, subst, ◌∙◌, arith}
use Rattle.std.specs.Option.{option_map}
use Rattle.cut.specs.EntryWalkView.{EntryWalkView}
use Rattle.cut.specs.BlockInProgress.{stretch_size}
use Rattle.cut.proofs.Walks.{in_slice}
use Rattle.cut.proofs.Stretches.{after_some, stretch_is, view_after}
use Rattle.cut.proofs.walk.EntryWalk.pass.Goals as goal

pub returns-clause-len : goal.returns-clause-len
returns-clause-len c =
    let was = c.self.inside in
    let n : ℕ = c.fitting-stretch.result.count in
    let before : Option (List ℕ) = option_map (λ key. key.bytes.now) was.before in
    let lt : was.passed < length was.slice = in_slice was.start was.slice was.passed before c.self.invariant (subst (λ (w : EntryWalkView). 0 < length w.rest) (sym c.self.view_is) c.requires.any) in
    c.fitting-stretch.ensures.len
    ∙ stretch_is was.start was.slice was.passed n before c.self.invariant (omega (arith, c.if-place-eq0.false)) (omega (arith, lt, c.fitting-stretch.ensures.within, c.len.ensures))
    ∙ ap (λ (w : EntryWalkView). stretch_size w.before (take n w.rest)) c.self.view_is

pub returns-clause-new : goal.returns-clause-new
returns-clause-new c =
    let was = c.self.inside in
    let n : ℕ = c.fitting-stretch.result.count in
    let before : Option (List ℕ) = option_map (λ key. key.bytes.now) was.before in
    let lt : was.passed < length was.slice = in_slice was.start was.slice was.passed before c.self.invariant (subst (λ (w : EntryWalkView). 0 < length w.rest) (sym c.self.view_is) c.requires.any) in
    view_after was.start was.slice was.passed n before c.key.result.bytes.now c.self.invariant (omega (arith, c.if-place-eq0.false)) (omega (arith, lt, c.fitting-stretch.ensures.within, c.len.ensures)) c.key.ensures
    ∙ ap (after_some n) c.self.view_is
