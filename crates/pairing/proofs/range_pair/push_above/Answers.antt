use Rattle.std.proofs.Common.{◌≡◌, ℕ, Bool, true, false, List, Option, None, Result, Ok, Err, IfErr, OnOk, refl, sym, ap, subst, ◌∙◌}
use Rattle.ikey.specs.Answers.{UnlessMemory, fault}
use Rattle.ikey.specs.fault.Fault.{Fault}
use Rattle.ikey.specs.fault.FaultName.TheVariants.{Memory}
use Rattle.pairing.specs.TestedUnion.{is_after_key, last_key_or, tested_entries}
use Rattle.pairing.specs.declared.tested_entry.TestedEntry.{TestedEntry}
use Rattle.pairing.proofs.range_pair.push_above.Goals as goal

-- what the test answers, by the entries that were there
tested_by : (ts us : List TestedEntry) (last : Option (List ℕ)) (key : List ℕ) (answer wanted : Bool) → last ≡ last_key_or None (tested_entries ts) → ts ≡ us → answer ≡ is_after_key last key → answer ≡ wanted
    → is_after_key (last_key_or None (tested_entries us)) key ≡ wanted
tested_by ts us last key answer wanted l same is w =
    ap (λ (x : Option (List ℕ)). is_after_key x key) (sym (l ∙ ap (λ (x : List TestedEntry). last_key_or None (tested_entries x)) same)) ∙ sym is ∙ w

-- what holds, holds if a call succeeds
on_any : {X E : Type 0} (r : Result X E) (P : Type 0) → P → OnOk r P
on_any (Ok x) P h = h
on_any (Err e) P h = tt

-- Memory needs no reason
only_memory : {X : Type 0} (r : Result X Fault) (P : Fault → Type 0) → IfErr r (λ e. e ≡ fault Memory) → IfErr r (λ e. UnlessMemory e (P e))
only_memory (Ok x) P h = tt
only_memory (Err e) P h = subst (λ (f : Fault). UnlessMemory f (P e)) (sym h) tt

pub returns-then-not-is_after_key-clause-refused : goal.returns-then-not-is_after_key-clause-refused
returns-then-not-is_after_key-clause-refused c =
    let test = tested_by c.deref.result.now c.args.union.now.items _ c.args.key.bytes.now c.is_after_key.result false c.last_of.ensures c.deref.ensures.value c.is_after_key.ensures c.if-not-is_after_key.true in
    rw c.of.ensures (test, refl)

pub returns-clause-behind : goal.returns-clause-behind
returns-clause-behind c =
    on_any c.push_entry.result _
    (tested_by c.deref.result.now c.args.union.now.items _ c.args.key.bytes.now c.is_after_key.result true c.last_of.ensures c.deref.ensures.value c.is_after_key.ensures c.if-not-is_after_key.false)

pub returns-clause-refused : goal.returns-clause-refused
returns-clause-refused c = only_memory c.push_entry.result _ c.push_entry.ensures.memory
