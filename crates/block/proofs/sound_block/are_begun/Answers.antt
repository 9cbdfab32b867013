use Rattle.std.proofs.Common.{◌≡◌, true, List, ℕ, [], length, sym, subst, ap, ◌∙◌, arith}
use Rattle.std.proofs.lemmas.List.{nil_from_length}
use Rattle.std.proofs.lemmas.Bool.{eqb-true, eqb-false, eq-eqb}
use Rattle.block.specs.BuilderState.{IsArea}
use Rattle.block.proofs.Areas.{is_area_nil, area_nil, begins_with_zero}
use Rattle.block.proofs.sound_block.are_begun.Goals as goal

pub returns-then-not-is_next-clause-only : goal.returns-then-not-is_next-clause-only
returns-then-not-is_next-clause-only c h =
    let yes : c.is_next.result ≡ true = c.is_next.ensures.1 (omega arith, begins_with_zero c.args.area.now c.args.restarts.now h) in absurd cc

pub returns-then-is_empty-clause-begins : goal.returns-then-is_empty-clause-begins
returns-then-is_empty-clause-begins c h = (c.is_next.ensures.0 c.if-not-is_next.false).1

pub returns-then-is_empty-clause-nothing : goal.returns-then-is_empty-clause-nothing
returns-then-is_empty-clause-nothing c h e =
    subst (λ (a : List ℕ). IsArea a c.args.restarts.now) (sym e) (is_area_nil c.args.restarts.now (c.is_next.ensures.0 c.if-not-is_next.false).1 (eqb-true _ _ h))

pub returns-then-is_empty-clause-only : goal.returns-then-is_empty-clause-only
returns-then-is_empty-clause-only c h =
    let none : c.args.area.now ≡ [] = nil_from_length c.args.area.now (eqb-true _ _ (sym c.is_empty.ensures ∙ c.if-is_empty.true)) in
    eq-eqb _ _ (ap length (area_nil c.args.restarts.now (subst (λ (a : List ℕ). IsArea a c.args.restarts.now) none h)))

pub returns-clause-begins : goal.returns-clause-begins
returns-clause-begins c h = (c.is_next.ensures.0 c.if-not-is_next.false).1

pub returns-clause-nothing : goal.returns-clause-nothing
returns-clause-nothing c h e = absurd (eqb-false _ _ (sym c.is_empty.ensures ∙ c.if-is_empty.false) (ap length e))
