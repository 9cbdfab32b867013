use Rattle.std.proofs.Common.{◌≡◌, ◌≢◌, List, ℕ, length, [], refl, sym, subst, ap, ◌∙◌}
use Rattle.std.proofs.lemmas.List.{nil_from_length}
use Rattle.std.proofs.lemmas.Bool.{eqb-true, eqb-false, eq-eqb}
use Rattle.block.specs.FrontField.{front_field}
use Rattle.block.specs.BlockPass.{PassState}
use Rattle.block.proofs.Areas.{shorter, kept_all, is_area}
use Rattle.block.proofs.sound_block.are_entries.Goals as goal

pub returns-then-is_empty : goal.returns-then-is_empty
returns-then-is_empty c =
    let none : c.args.area.now ≡ [] = nil_from_length c.args.area.now (eqb-true _ _ (sym c.is_empty.ensures ∙ c.if-is_empty.true)) in
    (λ h. c.are_begun.ensures.nothing c.if-not-are_begun.false none, λ h. refl)

pub returns-in_default : goal.returns-in_default
returns-in_default c =
    let some : c.loop-rest.rest.now ≢ [] = λ e. eqb-false _ _ (sym c.is_empty-in-loop-rest.ensures ∙ c.loop-rest-test.true) (ap length e) in
    (λ h. absurd cc, λ h. absurd (c.in_default.ensures.none c.args.restarts.now some c.loop-rest.invariant h))

pub loop-rest-smaller : goal.loop-rest-smaller
loop-rest-smaller c = shorter c.loop-rest.rest.now (front_field c.in-Some.next.front) c.in-Some.ensures.next.read

pub loop-rest-preserved : goal.loop-rest-preserved
loop-rest-preserved c = c.in-Some.ensures.next.kept c.args.restarts.now (c.are_begun.ensures.begins c.if-not-are_begun.false) c.loop-rest.invariant

pub returns : goal.returns
returns c =
    let some : c.args.area.now ≢ [] = λ e. eqb-false _ _ (sym c.is_empty.ensures ∙ c.if-is_empty.false) (ap length e) in
    let none : c.loop-rest.rest.now ≡ [] = nil_from_length c.loop-rest.rest.now (eqb-true _ _ (sym c.is_empty-in-loop-rest.ensures ∙ c.loop-rest-test.false)) in
    let kept = subst (λ (t : List ℕ). PassState c.args.area.now c.args.restarts.now t c.loop-rest.pending.now c.loop-rest.key_len) none c.loop-rest.invariant in (
      λ h. let passed : c.loop-rest.pending.now ≡ [] = nil_from_length c.loop-rest.pending.now (eqb-true _ _ (sym c.is_empty-2.ensures ∙ h)) in
          is_area c.args.area.now c.args.restarts.now c.loop-rest.key_len some c.requires (subst (λ (t : List ℕ). PassState c.args.area.now c.args.restarts.now [] t c.loop-rest.key_len) passed kept),
      λ h. c.is_empty-2.ensures ∙ eq-eqb _ _ (ap length (kept_all c.args.area.now c.args.restarts.now c.loop-rest.pending.now c.loop-rest.key_len kept h)),
    )
