use Rattle.std.proofs.Common.{◌≡◌, ◌∷◌, ◌++◌, [], List, ℕ, None, Option, Ok, Err, sym, ap, subst, ◌∙◌}
use Rattle.std.proofs.lemmas.Result.{err_from_is_err_and}
use Rattle.ikey.specs.fault.Fault.{Fault}
use Rattle.ikey.proofs.Refusals.{FailsOrMemory-from}
use Rattle.block.specs.EncodedEntry.{Entry}
use Rattle.pairing.specs.TestedUnion.{last_key_or, tested_entries}
use Rattle.pairing.specs.declared.tested_entry.TestedEntry.{TestedEntry}
use Rattle.pairing.specs.EntryTests.{file_entry_test, tested_after}
use Rattle.pairing.proofs.TestedLists.{goes_on, ends, with_front, entry_test_same}
use Rattle.table.proofs.Steps.{first_entry}
use Rattle.pairing.proofs.entry_checks.tested_all.Goals as goal

pub returns-in_err-tested : goal.returns-in_err-tested
returns-in_err-tested c =
    let p = err_from_is_err_and c.from_residual.result c.from_residual.ensures.1 in
    let first = first_entry c.loop-alloc.cursor c.key.result.now c.value-value.result.now c.key.ensures c.value-value.ensures in
    let failed : Err c.in_err-tested.field-0.0 ≡ file_entry_test (last_key_or None (tested_entries c.loop-alloc.entries.items)) c.key.result.now c.value-value.result.now =
    c.in_err-tested.ensures ∙ ap (λ (b : Option (List ℕ)). file_entry_test b c.key.result.now c.value-value.result.now) c.last_of.ensures
    ∙ ap (λ (ts : List TestedEntry). file_entry_test (last_key_or None (tested_entries ts)) c.key.result.now c.value-value.result.now) c.deref.ensures.value in
    let total = ends (tested_entries c.loop-alloc.entries.items) c.loop-alloc.cursor c.key.result.now c.value-value.result.now c.in_err-tested.field-0.0 (tested_after None c.args.cursor) first failed c.loop-alloc.invariant in
    rw (p.1) (FailsOrMemory-from p.0 (tested_after None c.args.cursor) (total ∙ ap (λ (e : Fault). Err e) (sym p.2)))

pub loop-alloc-preserved : goal.loop-alloc-preserved
loop-alloc-preserved c =
    let first = first_entry c.loop-alloc.cursor c.key.result.now c.value-value.result.now c.key.ensures c.value-value.ensures in
    let passed : Ok c.in_ok-tested.tested.bytes.now ≡ file_entry_test (last_key_or None (tested_entries c.loop-alloc.entries.items)) c.key.result.now c.value-value.result.now =
    c.in_ok-tested.ensures ∙ ap (λ (b : Option (List ℕ)). file_entry_test b c.key.result.now c.value-value.result.now) c.last_of.ensures
    ∙ ap (λ (ts : List TestedEntry). file_entry_test (last_key_or None (tested_entries ts)) c.key.result.now c.value-value.result.now) c.deref.ensures.value in
    let same : c.key.result.now ≡ c.in_ok-tested.tested.bytes.now = entry_test_same (last_key_or None (tested_entries c.loop-alloc.entries.items)) c.key.result.now c.value-value.result.now c.in_ok-tested.tested.bytes.now (sym passed) in
    let entry : List ℕ → Entry = λ k. record { key = k; value = c.value-value.result.now } in
    let pushed : tested_entries c.push_entry.new.entries.items ≡ tested_entries c.loop-alloc.entries.items ++ entry c.key.result.now ∷ [] =
    c.in_ok-push_entry.ensures.ok ∙ ap (λ (k : List ℕ). tested_entries c.loop-alloc.entries.items ++ entry k ∷ []) (sym same) in
    let on = goes_on (tested_entries c.loop-alloc.entries.items) c.loop-alloc.cursor c.key.result.now c.value-value.result.now c.in_ok-tested.tested.bytes.now (tested_after None c.args.cursor) first passed c.loop-alloc.invariant in
    subst (λ (es : List Entry). with_front es (tested_after (last_key_or None es) c.advance.new.self) ≡ tested_after None c.args.cursor) (sym pushed)
    (subst (λ (q : List Entry). with_front (tested_entries c.loop-alloc.entries.items ++ entry c.key.result.now ∷ []) (tested_after (last_key_or None (tested_entries c.loop-alloc.entries.items ++ entry c.key.result.now ∷ [])) q) ≡ tested_after None c.args.cursor) (sym c.in_ok-advance.ensures.ok) on)
