use Rattle.std.proofs.Common.{◌≡◌, List, ℕ, [], ◌∷◌, ap, subst, sym, ◌∙◌}
use Rattle.block.specs.EncodedEntry.{key_after}
use Rattle.block.specs.FrontField.{front_field}
use Rattle.block.specs.EntriesOfBytes.{entries_of_encoded, AreEncodedEntriesAfter}
use Rattle.block.proofs.Walks.{ends, steps, first_key_whole}
use Rattle.block.proofs.cursor.BlockCursor.enter.Goals as goal

pub returns-in_default-clause-ok : goal.returns-in_default-clause-ok
returns-in_default-clause-ok c = sym (ends [] c.area.result.now c.area.ensures.encoded (sym c.in_default.ensures)) ∙ c.area.ensures.entries

pub invariant_of-self-2 : goal.invariant_of-self-2
invariant_of-self-2 c =
    let s = steps [] c.area.result.now (front_field c.in-Some.first) c.area.ensures.encoded (sym c.in-Some.ensures) in
    let key : c.replace_end.new.self ≡ key_after [] (front_field c.in-Some.first).field = c.in_ok-replace_end.ensures.ok ∙ sym (first_key_whole (front_field c.in-Some.first).field) in
    subst (λ (key : List ℕ). AreEncodedEntriesAfter key c.in-Some.first.rest.now) (sym key) s.behind

pub returns-clause-ok : goal.returns-clause-ok
returns-clause-ok c =
    let s = steps [] c.area.result.now (front_field c.in-Some.first) c.area.ensures.encoded (sym c.in-Some.ensures) in
    let key : c.replace_end.new.self ≡ key_after [] (front_field c.in-Some.first).field = c.in_ok-replace_end.ensures.ok ∙ sym (first_key_whole (front_field c.in-Some.first).field) in
    ap (λ (k : List ℕ). record { key = k; value = c.in-Some.first.value.now } ∷ entries_of_encoded k c.in-Some.first.rest.now) key ∙ sym s.entries ∙ c.area.ensures.entries
