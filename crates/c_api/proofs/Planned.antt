-- What is told of the outputs of a plan.
use Rattle.std.proofs.Common.{◌≡◌, ℕ, zero, suc, ◌+◌, ◌<◌, List, [], ◌∷◌, drop, length, sym, ap, ◌∙◌, arith}
use Rattle.std.specs.Prelude.{slice_get, IfSome}
use Rattle.coding.specs.Saturated.{saturated}
use Rattle.cut.specs.OutputMeta.{IsMetaOf}
use Rattle.cut.specs.Plan.{OutputView}
use Rattle.cut.specs.declared.output_meta.OutputMeta.{OutputMeta}
use Rattle.c_api.specs.Plans.{outputs_told}
use Rattle.c_api.specs.declared.plan_calls.PlannedOutput.{PlannedOutput}

abbrev pub told : ℕ → ℕ → ℕ → PlannedOutput
told first entries len = record { first = first; entries = entries; len = len }

-- one output more
pub told_more : (first : ℕ) (ps : List OutputView) (place : ℕ) (m : OutputMeta) → place < length ps → IfSome (slice_get ps place) (λ p. IsMetaOf p m)
    → outputs_told first (drop place ps) ≡ told first m.entries m.len ∷ outputs_told (saturated (first + m.entries)) (drop (place + 1) ps)
told_more first [] place m h is = absurd (omega (arith, h))
told_more first (p ∷ ps) zero m h is =
    ap (λ (n : ℕ). told first n p.length ∷ outputs_told (saturated (first + n)) ps) (sym is.entries)
    ∙ ap (λ (n : ℕ). told first m.entries n ∷ outputs_told (saturated (first + m.entries)) ps) (sym is.len)
told_more first (p ∷ ps) (suc place) m h is =
    let next : suc (place + 1) ≡ suc place + 1 = omega arith in
    told_more first ps place m (omega (arith, h)) is
    ∙ ap (λ (n : ℕ). told first m.entries m.len ∷ outputs_told (saturated (first + m.entries)) (drop n (p ∷ ps))) next
