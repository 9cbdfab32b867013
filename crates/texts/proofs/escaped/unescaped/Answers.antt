use Rattle.std.proofs.Common.{◌≡◌, Option, List, ℕ, Ok, length, sym, ap, ◌∙◌}
use Rattle.std.proofs.lemmas.Bool.{eqb-true}
use Rattle.texts.proofs.EscapedLemmas.{with_front-all}
use Rattle.texts.proofs.escaped.unescaped.Goals as goal

pub returns : goal.returns
returns c =
    let none : length c.loop-rest.rest.now ≡ 0 = eqb-true _ _ (sym c.is_empty.ensures ∙ c.loop-rest-test.false) in
    ap (λ (o : Option (List ℕ)). Ok o) (sym c.loop-rest.invariant ∙ with_front-all c.loop-rest.bytes.items c.loop-rest.rest.now none)
