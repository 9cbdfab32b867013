use Rattle.std.proofs.Common.{◌≡◌, ◌≢◌, ◌≤◌, List, ℕ, true, [], ◌∷◌, length, refl, ap, subst, sym, ◌∙◌, arith}
use Rattle.std.proofs.lemmas.List.{nil_from_length}
use Rattle.std.proofs.lemmas.Bool.{eqb-true, eqb-false}
use Rattle.coding.specs.declared.fault.Fault.{Fault}
use Rattle.coding.proofs.Binds.{failed}
use Rattle.coding.proofs.Refusals.{FailsOrMemory-from}
use Rattle.block.specs.EncodedEntry.{Entry}
use Rattle.block.specs.FrontField.{front_field}
use Rattle.block.specs.EntriesOfBytes.{entries_of_encoded}
use Rattle.block.specs.BuilderState.{IsArea}
use Rattle.block.specs.BlockPass.{PassState, IsNextEncodedEntry}
use Rattle.block.specs.CheckedBytes.{BlockChecking}
use Rattle.block.specs.CheckingWalk.{Passes}
use Rattle.block.specs.BlockReading.{block_reading}
use Rattle.block.proofs.Areas.{within}
use Rattle.block.proofs.CheckingSteps.{stands, passes_next, passes_end, left_over, not_next, one_behind, one_less, none_less, next_less}
use Rattle.block.proofs.checking_cursor.CheckingCursor.advance.Goals as goal

pub returns-then-not-is_empty-clause-refused : goal.returns-then-not-is_empty-clause-refused
returns-then-not-is_empty-clause-refused c =
    let was = c.self.inside in
    let on = subst (Passes was.bytes.now was.area.now was.rest.now was.pending.now was.key) (stands was.valid _ _ c.args.self.now.ahead (ap (λ (v : BlockChecking). v.ahead) c.self.view_is) c.requires) c.self.invariant in
    let none : was.rest.now ≡ [] = nil_from_length was.rest.now (eqb-true _ _ (sym c.is_empty.ensures ∙ c.if-is_empty.true)) in
    let some : was.pending.now ≢ [] = λ e. eqb-false _ _ (sym c.is_empty-then-is_empty.ensures ∙ c.if-not-is_empty.true) (ap length e) in
    FailsOrMemory-from c.of.result (block_reading c.args.self.now.bytes)
    (ap (λ (v : BlockChecking). block_reading v.bytes) (sym c.self.view_is) ∙ left_over was.bytes.now was.area.now was.rest.now was.pending.now was.key on none some ∙ ap (λ (f : Fault). failed f) (sym c.of.ensures))

pub invariant_of-self : goal.invariant_of-self
invariant_of-self c =
    let was = c.self.inside in
    let on = subst (Passes was.bytes.now was.area.now was.rest.now was.pending.now was.key) (stands was.valid _ _ c.args.self.now.ahead (ap (λ (v : BlockChecking). v.ahead) c.self.view_is) c.requires) c.self.invariant in
    let none : was.rest.now ≡ [] = nil_from_length was.rest.now (eqb-true _ _ (sym c.is_empty.ensures ∙ c.if-is_empty.true)) in
    let passed : was.pending.now ≡ [] = nil_from_length was.pending.now (eqb-true _ _ (sym c.is_empty-then-is_empty.ensures ∙ c.if-not-is_empty.false)) in
    passes_end was.bytes.now was.area.now was.rest.now was.pending.now was.key on none passed

pub returns-then-is_empty-clause-ok : goal.returns-then-is_empty-clause-ok
returns-then-is_empty-clause-ok c =
    let was = c.self.inside in
    let none : was.rest.now ≡ [] = nil_from_length was.rest.now (eqb-true _ _ (sym c.is_empty.ensures ∙ c.if-is_empty.true)) in
    one_less _ c.args.self.now [] c.self.view_is (none_less was.valid _ was.key was.rest.now none)

pub next_entry-requires : goal.next_entry-requires
next_entry-requires c =
    let was = c.self.inside in
    let on = subst (Passes was.bytes.now was.area.now was.rest.now was.pending.now was.key) (stands was.valid _ _ c.args.self.now.ahead (ap (λ (v : BlockChecking). v.ahead) c.self.view_is) c.requires) c.self.invariant in
    within was.area.now on.restarts was.rest.now was.pending.now (length was.key) (on.walks refl).so_far

pub returns-in_default-clause-refused : goal.returns-in_default-clause-refused
returns-in_default-clause-refused c =
    let was = c.self.inside in
    let on = subst (Passes was.bytes.now was.area.now was.rest.now was.pending.now was.key) (stands was.valid _ _ c.args.self.now.ahead (ap (λ (v : BlockChecking). v.ahead) c.self.view_is) c.requires) c.self.invariant in
    let len : c.len-key_len.result ≡ length was.key = omega arith in
    let some : was.rest.now ≢ [] = λ e. eqb-false _ _ (sym c.is_empty.ensures ∙ c.if-is_empty.false) (ap length e) in
    FailsOrMemory-from c.of-in_default.result (block_reading c.args.self.now.bytes)
    (ap (λ (v : BlockChecking). block_reading v.bytes) (sym c.self.view_is)
    ∙ not_next was.bytes.now was.area.now was.rest.now was.pending.now was.key on (λ restarts. subst (λ (n : ℕ). was.rest.now ≢ [] → PassState was.area.now restarts was.rest.now was.pending.now n → IsArea was.area.now restarts → ⊥) len (c.in_default.ensures.none restarts)) some
    ∙ ap (λ (f : Fault). failed f) (sym c.of-in_default.ensures))

pub replace_end-requires-clause-within : goal.replace_end-requires-clause-within
replace_end-requires-clause-within c =
    let len : c.len-key_len.result ≡ length c.self.inside.key = omega arith in
    subst (λ (n : ℕ). c.in-Some.next.front.shared ≤ n) len c.in-Some.ensures.next.shared

pub invariant_of-self-2 : goal.invariant_of-self-2
invariant_of-self-2 c =
    let was = c.self.inside in
    let front = front_field c.in-Some.next.front in
    let on = subst (Passes was.bytes.now was.area.now was.rest.now was.pending.now was.key) (stands was.valid _ _ c.args.self.now.ahead (ap (λ (v : BlockChecking). v.ahead) c.self.view_is) c.requires) c.self.invariant in
    let len : c.len-key_len.result ≡ length was.key = omega arith in
    let next = subst (λ (n : ℕ). IsNextEncodedEntry was.area.now was.rest.now was.pending.now n front c.in-Some.next.pending.now) len c.in-Some.ensures.next in
    let valid : was.valid ≡ true = stands was.valid _ _ c.args.self.now.ahead (ap (λ (v : BlockChecking). v.ahead) c.self.view_is) c.requires in
    subst (Passes was.bytes.now was.area.now c.in-Some.next.front.rest.now c.in-Some.next.pending.now c.replace_end.new.self) (sym valid)
    (passes_next was.bytes.now was.area.now was.rest.now was.pending.now was.key front c.in-Some.next.pending.now c.replace_end.new.self on next c.in_ok-replace_end.ensures.ok)

pub returns-clause-ok : goal.returns-clause-ok
returns-clause-ok c =
    let was = c.self.inside in
    let front = front_field c.in-Some.next.front in
    let valid : was.valid ≡ true = stands was.valid _ _ c.args.self.now.ahead (ap (λ (v : BlockChecking). v.ahead) c.self.view_is) c.requires in
    let entry : List ℕ → Entry = λ k. record { key = k; value = c.in-Some.next.front.value.now } in
    let same : entries_of_encoded was.key was.rest.now ≡ entry c.replace_end.new.self ∷ entries_of_encoded c.replace_end.new.self c.in-Some.next.front.rest.now =
    one_behind was.key was.rest.now front c.in-Some.ensures.next.read ∙ ap (λ (k : List ℕ). entry k ∷ entries_of_encoded k c.in-Some.next.front.rest.now) (sym c.in_ok-replace_end.ensures.ok) in
    one_less _ c.args.self.now _ c.self.view_is (next_less was.valid _ _ _ _ valid same)
