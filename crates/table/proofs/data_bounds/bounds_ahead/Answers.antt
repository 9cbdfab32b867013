use Rattle.std.proofs.Common.{◌≡◌, ◌<◌, List, [], ◌∷◌, ℕ, Option, Some, Result, Ok, Err, length, drop, sym, ap, subst, refl, ◌∙◌, arith}
use Rattle.std.specs.Option.{option_map}
use Rattle.std.specs.declared.cmp.Ordering.{Ordering}
use Rattle.std.proofs.lemmas.List.{length-drop, nil_from_length}
use Rattle.std.proofs.lemmas.Result.{err_from_is_err_and}
use Rattle.coding.specs.Answers.{FailsOrMemory, ◌>>=◌}
use Rattle.coding.specs.declared.fault.Fault.{Fault}
use Rattle.coding.proofs.Binds.{done, ok_is}
use Rattle.coding.proofs.Refusals.{FailsOrMemory-from}
use Rattle.block.specs.EncodedEntry.{Entry}
use Rattle.block.specs.BuilderView.{last_key}
use Rattle.block.specs.BlockReading.{block_reading}
use Rattle.table.specs.EntryTests.{first_key, entry_test, entries_test}
use Rattle.table.specs.BoundsReading.{bounds_reading}
use Rattle.table.specs.TallySteps.{tally_after, tally_with}
use Rattle.table.specs.declared.bounds.Bounds.{Bounds}
use Rattle.table.specs.declared.tally.Tally.{Tally}
use Rattle.ikey.specs.declared.key.InternalKey.{InternalKey}
use Rattle.table.proofs.Steps.{first_entry, entries_go_on, entries_end, last_goes_on, bounds_refused, handed_on}
use Rattle.table.proofs.OneWalk.{walk_refused}
use Rattle.table.proofs.Tallies.{tally_goes_on}
use Rattle.table.proofs.Walks.{none_valid}
use Rattle.table.proofs.data_bounds.bounds_ahead.Goals as goal

pub returns-in_err-advance-clause-bounds : goal.returns-in_err-advance-clause-bounds
returns-in_err-advance-clause-bounds g c ok =
    let p = err_from_is_err_and c.from_residual-in_err-advance.result c.from_residual-in_err-advance.ensures.1 in
    let d = c.in_err-advance.field-0.0 in
    let cursor = c.args.cursor.now in
    let total = bounds_reading g.C.Comparator.cmp (option_map (λ key. key.bytes.now) c.args.before) c.args.so_far cursor.ahead in
    handed_on (λ b. b) c.from_residual-in_err-advance.result p.0 d total p.1 p.2
    (walk_refused d (block_reading cursor.bytes) total ok c.in_err-advance.ensures.refused)

pub returns-in_err-key-clause-bounds : goal.returns-in_err-key-clause-bounds
returns-in_err-key-clause-bounds g c ok =
    let p = err_from_is_err_and c.from_residual-in_err-key.result c.from_residual-in_err-key.ensures.1 in
    let cmp = g.C.Comparator.cmp in
    let q = c.loop-largest.cursor.ahead in
    let d = c.in_err-key.field-0.0 in
    let k = c.key-in-loop-largest.result.now in
    let v = c.value-in-loop-largest.result.now in
    let e : Entry = record { key = k; value = v } in
    let entries = c.args.cursor.now.ahead in
    let before : Option (List ℕ) = option_map (λ key. key.bytes.now) c.args.before in
    let first = first_entry q k v c.key-in-loop-largest.ensures c.value-in-loop-largest.ensures in
    let refused : Err d ≡ entry_test cmp (Some c.loop-largest.largest) e = c.in_err-key.ensures.test ∙ ap (λ (b : List ℕ). entry_test cmp (Some b) e) c.as_key.ensures in
    let total : entries_test cmp before entries ≡ Err d = entries_end cmp (Some c.loop-largest.largest) q k v d (entries_test cmp before entries) first refused c.loop-largest.invariant.tests in
    let start = first_entry entries c.key.result.now c.value.result.now c.key.ensures c.value.ensures in
    let some : 0 < length entries = subst (λ (es : List Entry). 0 < length es) (sym start) (omega arith) in
    handed_on (λ b. b) c.from_residual-in_err-key.result p.0 d (bounds_reading cmp before c.args.so_far entries) p.1 p.2
    (FailsOrMemory-from d (bounds_reading cmp before c.args.so_far entries) (bounds_refused cmp before c.args.so_far entries d some total))

pub returns-in_err-advance-2-clause-bounds : goal.returns-in_err-advance-2-clause-bounds
returns-in_err-advance-2-clause-bounds g c ok =
    let p = err_from_is_err_and c.from_residual-in_err-advance-2.result c.from_residual-in_err-advance-2.ensures.1 in
    let d = c.in_err-advance-2.field-0.0 in
    let cursor = c.args.cursor.now in
    let total = bounds_reading g.C.Comparator.cmp (option_map (λ key. key.bytes.now) c.args.before) c.args.so_far cursor.ahead in
    handed_on (λ b. b) c.from_residual-in_err-advance-2.result p.0 d total p.1 p.2
    (walk_refused d (block_reading cursor.bytes) total ok (subst (λ (bytes : List ℕ). FailsOrMemory d (block_reading bytes)) c.loop-largest.invariant.bytes c.in_err-advance-2.ensures.refused))

pub returns-clause-block : goal.returns-clause-block
returns-clause-block g c =
    let kept = c.loop-largest.invariant in
    subst (λ (bytes : List ℕ). block_reading bytes ≡ Ok c.args.cursor.now.all) kept.bytes (c.valid-in-loop-largest.ensures.ended c.loop-largest-test.false ∙ ap (λ (es : List Entry). done es) kept.all)

pub returns-in_err-first-clause-bounds : goal.returns-in_err-first-clause-bounds
returns-in_err-first-clause-bounds g c ok =
    let p = err_from_is_err_and c.from_residual.result c.from_residual.ensures.1 in
    let cmp = g.C.Comparator.cmp in
    let d = c.in_err-first.field-0.0 in
    let k = c.key.result.now in
    let v = c.value.result.now in
    let entries = c.args.cursor.now.ahead in
    let before : Option (List ℕ) = option_map (λ key. key.bytes.now) c.args.before in
    let start = first_entry entries k v c.key.ensures c.value.ensures in
    let total : entries_test cmp before entries ≡ Err d = entries_end cmp before entries k v d (entries_test cmp before entries) start c.in_err-first.ensures.test refl in
    let some : 0 < length entries = c.valid.ensures.some.0 c.if-not-valid.false in
    handed_on (λ b. b) c.from_residual.result p.0 d (bounds_reading cmp before c.args.so_far entries) p.1 p.2
    (FailsOrMemory-from d (bounds_reading cmp before c.args.so_far entries) (bounds_refused cmp before c.args.so_far entries d some total))

-- ---- an entry is there

pub key-requires : goal.key-requires
key-requires g c = c.valid.ensures.some.0 c.if-not-valid.false

pub value-requires : goal.value-requires
value-requires g c = c.valid.ensures.some.0 c.if-not-valid.false

pub advance-requires : goal.advance-requires
advance-requires g c = c.valid.ensures.some.0 c.if-not-valid.false

pub key-requires-in-loop-largest : goal.key-requires-in-loop-largest
key-requires-in-loop-largest g c = c.valid-in-loop-largest.ensures.some.0 c.loop-largest-test.true

pub value-requires-in-loop-largest : goal.value-requires-in-loop-largest
value-requires-in-loop-largest g c = c.valid-in-loop-largest.ensures.some.0 c.loop-largest-test.true

pub advance-requires-in-loop-largest : goal.advance-requires-in-loop-largest
advance-requires-in-loop-largest g c = c.valid-in-loop-largest.ensures.some.0 c.loop-largest-test.true

pub loop-largest-smaller : goal.loop-largest-smaller
loop-largest-smaller g c =
    let some : 0 < length c.loop-largest.cursor.ahead = c.valid-in-loop-largest.ensures.some.0 c.loop-largest-test.true in
    omega (arith, some, ap (λ walk. length walk.ahead) c.in_ok-advance-2.ensures.ok, length-drop 1 c.loop-largest.cursor.ahead)

-- ---- the walk and its end

pub loop-largest-init : goal.loop-largest-init
loop-largest-init g c =
    let cmp = g.C.Comparator.cmp in
    let k = c.key.result.now in
    let v = c.value.result.now in
    let entries = c.args.cursor.now.ahead in
    let before : Option (List ℕ) = option_map (λ key. key.bytes.now) c.args.before in
    let ok = c.in_ok-advance.ensures.ok in
    let start = first_entry entries k v c.key.ensures c.value.ensures in
    let largest : c.in_ok-largest.largest ≡ k = sym (ok_is _ _ c.in_ok-largest.ensures) ∙ c.in_ok-first.ensures.key in
    let tests : entries_test cmp (Some k) (drop 1 entries) ≡ entries_test cmp before entries = entries_go_on cmp before entries k v (entries_test cmp before entries) start c.in_ok-first.ensures.test refl in
    let last : last_key k (drop 1 entries) ≡ last_key [] entries = last_goes_on [] entries k v (last_key [] entries) start refl in
    let with_key : c.with-tally.result ≡ tally_with c.args.so_far before k = c.with-tally.ensures ∙ ap (tally_with c.args.so_far before) c.in_ok-first.ensures.key in
    let tally : tally_after c.with-tally.result (Some k) (drop 1 entries) ≡ tally_after c.args.so_far before entries =
    ap (λ (t : Tally). tally_after t (Some k) (drop 1 entries)) with_key ∙ tally_goes_on c.args.so_far before entries k v (tally_after c.args.so_far before entries) start refl in
    record {
      bytes = ap (λ walk. walk.bytes) ok;
      all = ap (λ walk. walk.all) ok;
      tests = rw (ap (λ walk. walk.ahead) ok) (rw largest tests);
      last = rw (ap (λ walk. walk.ahead) ok) (rw largest last);
      tally = rw (ap (λ walk. walk.ahead) ok) (rw largest tally);
    }

pub loop-largest-preserved : goal.loop-largest-preserved
loop-largest-preserved g c =
    let cmp = g.C.Comparator.cmp in
    let q = c.loop-largest.cursor.ahead in
    let k = c.key-in-loop-largest.result.now in
    let v = c.value-in-loop-largest.result.now in
    let e : Entry = record { key = k; value = v } in
    let entries = c.args.cursor.now.ahead in
    let before : Option (List ℕ) = option_map (λ key. key.bytes.now) c.args.before in
    let kept = c.loop-largest.invariant in
    let ok = c.in_ok-advance-2.ensures.ok in
    let first = first_entry q k v c.key-in-loop-largest.ensures c.value-in-loop-largest.ensures in
    let passed : Ok tt ≡ entry_test cmp (Some c.loop-largest.largest) e = c.in_ok-key.ensures.test ∙ ap (λ (b : List ℕ). entry_test cmp (Some b) e) c.as_key.ensures in
    let tests : entries_test cmp (Some k) (drop 1 q) ≡ entries_test cmp before entries = entries_go_on cmp (Some c.loop-largest.largest) q k v (entries_test cmp before entries) first passed kept.tests in
    let last : last_key k (drop 1 q) ≡ last_key [] entries = last_goes_on c.loop-largest.largest q k v (last_key [] entries) first kept.last in
    let set = c.in_ok-set.ensures.ok ∙ c.in_ok-key.ensures.key in
    let last_is : option_map (λ (key : InternalKey). key.bytes.now) (Some c.as_key.result) ≡ Some c.loop-largest.largest = ap (λ (b : List ℕ). Some b) c.as_key.ensures in
    let with_key : c.with-tally-in-loop-largest.result ≡ tally_with c.loop-largest.tally (Some c.loop-largest.largest) k =
    c.with-tally-in-loop-largest.ensures ∙ ap (λ (b : Option (List ℕ)). tally_with c.loop-largest.tally b c.in_ok-key.key.bytes.now) last_is ∙ ap (tally_with c.loop-largest.tally (Some c.loop-largest.largest)) c.in_ok-key.ensures.key in
    let tally : tally_after c.with-tally-in-loop-largest.result (Some k) (drop 1 q) ≡ tally_after c.args.so_far before entries =
    ap (λ (t : Tally). tally_after t (Some k) (drop 1 q)) with_key ∙ tally_goes_on c.loop-largest.tally (Some c.loop-largest.largest) q k v (tally_after c.args.so_far before entries) first kept.tally in
    record {
      bytes = ap (λ walk. walk.bytes) ok ∙ kept.bytes;
      all = ap (λ walk. walk.all) ok ∙ kept.all;
      tests = rw (ap (λ walk. walk.ahead) ok) (rw set tests);
      last = rw (ap (λ walk. walk.ahead) ok) (rw set last);
      tally = rw (ap (λ walk. walk.ahead) ok) (rw set tally);
    }

-- entries that pass their tests have these bounds
bounds_read : (cmp : List ℕ → List ℕ → Ordering) (before : Option (List ℕ)) (so_far : Tally) (q : List Entry) (x : Bounds) → 0 < length q → entries_test cmp before q ≡ Ok tt → first_key q ≡ x.smallest → last_key [] q ≡ x.largest
    → tally_after so_far before q ≡ x.tally → bounds_reading cmp before so_far q ≡ Ok x
bounds_read cmp before so_far [] x some passed first last counted = absurd (omega (arith, some))
bounds_read cmp before so_far (e ∷ q) x some passed first last counted =
    ap (λ (r : Result (Unit {0}) Fault). r >>= λ _. done (record { smallest = first_key (e ∷ q); largest = last_key [] (e ∷ q); tally = tally_after so_far before (e ∷ q) })) passed
    ∙ ap (λ (k : List ℕ). let y : Bounds = record { smallest = k; largest = last_key [] (e ∷ q); tally = tally_after so_far before (e ∷ q) } in done y) first
    ∙ ap (λ (k : List ℕ). let y : Bounds = record { smallest = x.smallest; largest = k; tally = tally_after so_far before (e ∷ q) } in done y) last
    ∙ ap (λ (t : Tally). let y : Bounds = record { smallest = x.smallest; largest = x.largest; tally = t } in done y) counted

pub returns-clause-bounds : goal.returns-clause-bounds
returns-clause-bounds g c ok =
    let cmp = g.C.Comparator.cmp in
    let q = c.loop-largest.cursor.ahead in
    let entries = c.args.cursor.now.ahead in
    let before : Option (List ℕ) = option_map (λ key. key.bytes.now) c.args.before in
    let kept = c.loop-largest.invariant in
    let start = first_entry entries c.key.result.now c.value.result.now c.key.ensures c.value.ensures in
    let none : q ≡ [] = nil_from_length q (none_valid c.valid-in-loop-largest.result q c.valid-in-loop-largest.ensures.some.1 c.loop-largest-test.false) in
    let found : Bounds = record { smallest = c.in_ok-smallest.smallest; largest = c.loop-largest.largest; tally = c.loop-largest.tally } in
    bounds_read cmp before c.args.so_far entries found
    (c.valid.ensures.some.0 c.if-not-valid.false)
    (sym kept.tests ∙ ap (entries_test cmp (Some c.loop-largest.largest)) none)
    (ap first_key start ∙ sym c.in_ok-first.ensures.key ∙ ok_is _ _ c.in_ok-smallest.ensures)
    (sym kept.last ∙ ap (last_key c.loop-largest.largest) none)
    (sym kept.tally ∙ ap (tally_after c.loop-largest.tally (Some c.loop-largest.largest)) none)
