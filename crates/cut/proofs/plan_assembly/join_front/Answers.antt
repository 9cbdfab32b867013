use Rattle.std.proofs.Common.{◌≡◌, ℕ, suc, ◌+◌, ◌-◌, List, ◌∷◌, ◌++◌, take, drop, sym, ap, ◌∙◌, append_assoc, arith}
use Rattle.std.specs.Prelude.{flat_map}
use Rattle.std.specs.Global.{Vec}
use Rattle.std.specs.Vec.Iter.{into_iter_items}
use Rattle.cut.proofs.plan_assembly.join_front.Goals as goal

pub loop-preserved : goal.loop-preserved
loop-preserved c =
    let bytes : List (Vec ℕ) → List ℕ = λ ps. flat_map (λ p. p.items) ps in
    let n : ℕ = c.args.count - (c.loop.counter + 1) in
    let more : c.args.count - c.loop.counter ≡ suc n = omega (arith, c.loop-test.true) in
    let old : List (Vec ℕ) = into_iter_items c.loop.rest in
    let rest : List (Vec ℕ) = into_iter_items c.next.new.self in
    let before : List ℕ = c.loop.joined.items in
    let items : old ≡ c.in-Some.piece ∷ rest = c.in-Some.ensures.items in
    record {
      joined =
          ap (λ (xs : List ℕ). xs ++ bytes (take n rest)) (c.in_ok-extend_from_slice.ensures.items ∙ ap (λ (xs : List ℕ). before ++ xs) c.deref.ensures.value)
          ∙ append_assoc before c.in-Some.piece.items (bytes (take n rest))
          ∙ sym (ap (λ (ps : List (Vec ℕ)). before ++ bytes (take (suc n) ps)) items)
          ∙ sym (ap (λ (k : ℕ). before ++ bytes (take k old)) more)
          ∙ c.loop.invariant.joined;
      left = sym (ap (λ (ps : List (Vec ℕ)). drop (suc n) ps) items) ∙ sym (ap (λ (k : ℕ). drop k old) more) ∙ c.loop.invariant.left;
    }
