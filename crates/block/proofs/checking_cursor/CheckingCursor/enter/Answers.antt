use Rattle.std.proofs.Common.{◌≡◌, ◌≢◌, List, ℕ, true, [], ◌∷◌, length, ap, sym, ◌∙◌}
use Rattle.std.proofs.lemmas.List.{nil_from_length}
use Rattle.std.proofs.lemmas.Bool.{eqb-true, eqb-false}
use Rattle.coding.specs.declared.fault.Fault.{Fault}
use Rattle.coding.proofs.Binds.{failed}
use Rattle.coding.proofs.Refusals.{FailsOrMemory-from}
use Rattle.block.specs.EncodedEntry.{key_after}
use Rattle.block.specs.FrontField.{front_field}
use Rattle.block.specs.EntriesOfBytes.{entries_of_encoded}
use Rattle.block.specs.BlockReading.{block_reading}
use Rattle.block.proofs.Areas.{kept_none}
use Rattle.block.proofs.Walks.{first_key_whole}
use Rattle.block.proofs.CheckingSteps.{not_split, not_area, same_entries, passes_first, passes_nothing, one_behind}
use Rattle.block.proofs.checking_cursor.CheckingCursor.enter.Goals as goal

pub returns-in_default-clause-refused : goal.returns-in_default-clause-refused
returns-in_default-clause-refused c =
    FailsOrMemory-from c.of.result (block_reading c.args.bytes.now) (not_split c.args.bytes.now c.in_default.ensures.none ∙ ap (λ (f : Fault). failed f) (sym c.of.ensures))

pub returns-then-not-are_begun-clause-refused : goal.returns-then-not-are_begun-clause-refused
returns-then-not-are_begun-clause-refused c =
    FailsOrMemory-from c.of-then-not-are_begun.result (block_reading c.args.bytes.now)
    (not_area c.args.bytes.now c.in-Some.parts.area.now c.in-Some.parts.restarts.now c.in-Some.ensures.found (λ h. let yes : c.are_begun.result ≡ true = c.are_begun.ensures.only h in absurd cc) ∙ ap (λ (f : Fault). failed f) (sym c.of-then-not-are_begun.ensures))

pub invariant_of-self : goal.invariant_of-self
invariant_of-self c =
    let area = c.in-Some.parts.area.now in
    let none : area ≡ [] = nil_from_length area (eqb-true _ _ (sym c.is_empty.ensures ∙ c.if-is_empty.true)) in
    let begun = c.if-not-are_begun.false in
    passes_nothing c.args.bytes.now area c.in-Some.parts.restarts.now _ _ _ c.in-Some.ensures.found (c.are_begun.ensures.begins begun) (c.are_begun.ensures.nothing begun none)

pub returns-then-is_empty-clause-ahead : goal.returns-then-is_empty-clause-ahead
returns-then-is_empty-clause-ahead c =
    let area = c.in-Some.parts.area.now in
    let none : area ≡ [] = nil_from_length area (eqb-true _ _ (sym c.is_empty.ensures ∙ c.if-is_empty.true)) in
    sym (ap (entries_of_encoded []) none)

pub returns-then-is_empty-clause-all : goal.returns-then-is_empty-clause-all
returns-then-is_empty-clause-all c = same_entries c.args.bytes.now c.in-Some.parts.area.now c.in-Some.parts.restarts.now c.in-Some.ensures.found

pub returns-in_default-next_entry-clause-refused : goal.returns-in_default-next_entry-clause-refused
returns-in_default-next_entry-clause-refused c =
    let area = c.in-Some.parts.area.now in
    let restarts = c.in-Some.parts.restarts.now in
    let some : area ≢ [] = λ e. eqb-false _ _ (sym c.is_empty.ensures ∙ c.if-is_empty.false) (ap length e) in
    FailsOrMemory-from c.of-in_default-next_entry.result (block_reading c.args.bytes.now)
    (not_area c.args.bytes.now area restarts c.in-Some.ensures.found (c.in_default-next_entry.ensures.none restarts some (kept_none area restarts some)) ∙ ap (λ (f : Fault). failed f) (sym c.of-in_default-next_entry.ensures))

pub invariant_of-self-2 : goal.invariant_of-self-2
invariant_of-self-2 c =
    let area = c.in-Some.parts.area.now in
    let restarts = c.in-Some.parts.restarts.now in
    let some : area ≢ [] = λ e. eqb-false _ _ (sym c.is_empty.ensures ∙ c.if-is_empty.false) (ap length e) in
    passes_first c.args.bytes.now area restarts (front_field c.in-Some-next_entry.first.front) c.in-Some-next_entry.first.pending.now c.replace_end.new.self c.in-Some.ensures.found (c.are_begun.ensures.begins c.if-not-are_begun.false) some c.in-Some-next_entry.ensures.next c.in_ok-replace_end.ensures.ok

pub returns-clause-ahead : goal.returns-clause-ahead
returns-clause-ahead c =
    let front = front_field c.in-Some-next_entry.first.front in
    let key : c.replace_end.new.self ≡ key_after [] front.field = c.in_ok-replace_end.ensures.ok ∙ sym (first_key_whole front.field) in
    ap (λ (k : List ℕ). record { key = k; value = c.in-Some-next_entry.first.front.value.now } ∷ entries_of_encoded k c.in-Some-next_entry.first.front.rest.now) key
    ∙ sym (one_behind [] c.in-Some.parts.area.now front c.in-Some-next_entry.ensures.next.read)

pub returns-clause-all : goal.returns-clause-all
returns-clause-all c = same_entries c.args.bytes.now c.in-Some.parts.area.now c.in-Some.parts.restarts.now c.in-Some.ensures.found
