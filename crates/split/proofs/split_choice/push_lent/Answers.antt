use Rattle.std.proofs.Common.{ℕ, ◌+◌, ◌-◌, ◌++◌, ◌∷◌, [], List, map, ap, ◌∙◌, refl, arith}
use Rattle.std.proofs.lemmas.List.{map-append}
use Rattle.split.proofs.Samples.{after_others, one_pushed, last_pushed}
use Rattle.split.proofs.split_choice.push_lent.Goals as goal

pub loop-place-init : goal.loop-place-init
loop-place-init c = ap (λ (l : List (List ℕ)). map (λ key. key.now) c.args.keys.now.items ++ l) (after_others (c.args.step - 1) _ c.args.list.now)

pub loop-place-preserved : goal.loop-place-preserved
loop-place-preserved c =
    let front : List (List ℕ) = map (λ key. key.now) c.loop-place.keys.items in
    let pushed = ap (map (λ key. key.now)) c.in_ok-push.ensures.items ∙ map-append (λ key. key.now) c.loop-place.keys.items (c.get.result ∷ []) in
    one_pushed c.args.step c.loop-place.place _ c.args.list.now front _ _ c.get.result.now [] c.requires (omega arith) refl c.get.ensures pushed c.loop-place.invariant

pub returns-in_ok-push-clause-ok : goal.returns-in_ok-push-clause-ok
returns-in_ok-push-clause-ok c =
    let front : List (List ℕ) = map (λ key. key.now) c.loop-place.keys.items in
    let next : ℕ = c.loop-place.place + c.args.step in
    let pushed = ap (map (λ key. key.now)) c.in_ok-push.ensures.items ∙ map-append (λ key. key.now) c.loop-place.keys.items (c.get.result ∷ []) in
    last_pushed c.args.step next c.args.list.now _ _ (omega arith)
    (one_pushed c.args.step c.loop-place.place next c.args.list.now front _ _ c.get.result.now [] c.requires (omega arith) refl c.get.ensures pushed c.loop-place.invariant)
