use Rattle.std.proofs.Common.{◌≡◌, ◌≤◌, List, ℕ, [], ◌∷◌, ◌++◌, length, ap, subst, sym, ◌∙◌, take}
use Rattle.block.specs.EncodedEntry.{key_after}
use Rattle.block.specs.FrontField.{front_field}
use Rattle.block.specs.EntriesOfBytes.{entries_of_encoded, AreEncodedEntriesAfter}
use Rattle.block.proofs.Walks.{steps}
use Rattle.block.proofs.cursor.BlockCursor.over.Goals as goal

pub replace_end-requires-clause-within : goal.replace_end-requires-clause-within
replace_end-requires-clause-within c =
    subst (λ (key : List ℕ). c.in-Some.front.shared ≤ length key) (sym c.new-key.ensures)
    (steps [] c.args.encoded.now (front_field c.in-Some.front) c.requires (sym c.in-Some.ensures)).within

pub invariant_of-result : goal.invariant_of-result
invariant_of-result c =
    let s = steps [] c.args.encoded.now (front_field c.in-Some.front) c.requires (sym c.in-Some.ensures) in
    let key : c.replace_end.new.self ≡ key_after [] (front_field c.in-Some.front).field = c.in_ok-replace_end.ensures.ok ∙ ap (λ (t : List ℕ). take c.in-Some.front.shared t ++ c.in-Some.front.unshared.now) c.new-key.ensures in
    subst (λ (key : List ℕ). AreEncodedEntriesAfter key c.in-Some.front.rest.now) (sym key) s.behind

pub returns-clause-all : goal.returns-clause-all
returns-clause-all c =
    let s = steps [] c.args.encoded.now (front_field c.in-Some.front) c.requires (sym c.in-Some.ensures) in
    let key : c.replace_end.new.self ≡ key_after [] (front_field c.in-Some.front).field = c.in_ok-replace_end.ensures.ok ∙ ap (λ (t : List ℕ). take c.in-Some.front.shared t ++ c.in-Some.front.unshared.now) c.new-key.ensures in
    ap (λ (k : List ℕ). record { key = k; value = c.in-Some.front.value.now } ∷ entries_of_encoded k c.in-Some.front.rest.now) key ∙ sym s.entries
