use Rattle.std.proofs.Common.{◌≡◌, List, ℕ, ◌∷◌, ap, subst, sym, ◌∙◌}
use Rattle.block.specs.EncodedEntry.{Entry}
use Rattle.block.specs.FrontField.{front_field}
use Rattle.block.specs.EntriesOfBytes.{entries_of_encoded, AreEncodedEntriesAfter}
use Rattle.block.proofs.Walks.{steps, advanced}
use Rattle.block.proofs.cursor.BlockCursor.advance.Goals as goal

pub replace_end-requires-clause-within : goal.replace_end-requires-clause-within
replace_end-requires-clause-within c = (steps c.self.inside.key c.self.inside.rest.now (front_field c.in-Some.front) c.self.invariant (sym c.in-Some.ensures)).within

pub invariant_of-self-2 : goal.invariant_of-self-2
invariant_of-self-2 c =
    let s = steps c.self.inside.key c.self.inside.rest.now (front_field c.in-Some.front) c.self.invariant (sym c.in-Some.ensures) in
    subst (λ (key : List ℕ). AreEncodedEntriesAfter key c.in-Some.front.rest.now) (sym c.in_ok-replace_end.ensures.ok) s.behind

pub returns-clause-ok : goal.returns-clause-ok
returns-clause-ok c =
    let s = steps c.self.inside.key c.self.inside.rest.now (front_field c.in-Some.front) c.self.invariant (sym c.in-Some.ensures) in
    let entry : List ℕ → Entry = λ k. record { key = k; value = c.in-Some.front.value.now } in
    let same : entries_of_encoded c.self.inside.key c.self.inside.rest.now ≡ entry c.replace_end.new.self ∷ entries_of_encoded c.replace_end.new.self c.in-Some.front.rest.now =
    s.entries ∙ ap (λ (k : List ℕ). entry k ∷ entries_of_encoded k c.in-Some.front.rest.now) (sym c.in_ok-replace_end.ensures.ok) in
    advanced c.self.inside.valid _ _ _ _ c.args.self.now c.self.view_is c.requires same
