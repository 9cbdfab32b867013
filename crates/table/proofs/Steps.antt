-- Tests one after the other, as the loops make them.
use Rattle.std.proofs.Common.{◌≡◌, ℕ, ◌+◌, ◌<◌, ◌≤◌, Bool, true, false, ◌&&◌, List, [], ◌∷◌, ◌++◌, length, get_or, drop, Option, Some, Result, Ok, Err, refl, sym, ap, subst, ◌∙◌, append_assoc, arith}
use Rattle.std.specs.Prelude.{IfOk, IfErr, IsOkAnd, slice_get}
use Rattle.std.specs.Option.{option_map}
use Rattle.std.specs.declared.cmp.Ordering.{Ordering}
use Rattle.std.proofs.lemmas.List.{drop_more, nil_from_length, length-drop}
use Rattle.std.proofs.lemmas.Option.{same_Some, none-some}
use Rattle.coding.specs.Answers.{EqualOrMemory, FailsOrMemory, fault, ◌>>=◌}
use Rattle.coding.specs.declared.fault.Fault.{Fault}
use Rattle.coding.specs.declared.fault.FaultName.TheVariants.{Block}
use Rattle.coding.proofs.Refusals.{FailsOrMemory-from, unless_from}
use Rattle.coding.proofs.Binds.{done, failed}
use Rattle.block.specs.EncodedEntry.{Entry, IsBlock}
use Rattle.block.specs.BuilderView.{last_key}
use Rattle.block.specs.BlockReading.{block_reading}
use Rattle.table.specs.EntryTests.{first_key, entry_test, entries_test}
use Rattle.table.specs.BoundsReading.{bounds_reading}
use Rattle.table.specs.TallySteps.{tally_after}
use Rattle.table.specs.declared.tally.Tally.{Tally}
use Rattle.table.specs.IndexReading.{IndexEntry, index_entry, index_reading}
use Rattle.block.proofs.BlockReadings.{reads_blocks, refused}

-- ---- a block

-- what is accepted, what alone is, and the one refusal, are the reading of a block
pub check_gives : {X : Type 0} (view : X → List Entry) (bytes : List ℕ) (r : Result X Fault) → IfOk r (λ b. IsBlock bytes (view b)) → ((q : List Entry) → IsBlock bytes q → IsOkAnd r (λ b. view b ≡ q)) → IfErr r (λ e. e ≡ fault Block)
    → EqualOrMemory view r (block_reading bytes)
check_gives view bytes (Ok b) found only e = reads_blocks.only bytes (view b) found
check_gives view bytes (Err e) found only name = of_reading (block_reading bytes) refl
  where
    of_reading : (a : Result (List Entry) Fault) → block_reading bytes ≡ a → FailsOrMemory e a
    of_reading (Ok q) h = absurd (only q (reads_blocks.found bytes q h))
    of_reading (Err d) h = FailsOrMemory-from e (failed d) (ap (λ (x : Fault). failed x) (refused bytes d h ∙ sym name))

-- ---- a list, one element after the other

-- the first entry of a list, by its key and its value
pub first_entry : (q : List Entry) (key value : List ℕ) → option_map (λ e. e.key) (slice_get q 0) ≡ Some key → option_map (λ e. e.value) (slice_get q 0) ≡ Some value → q ≡ record { key = key; value = value } ∷ drop 1 q
first_entry [] key value k v = absurd (none-some key k)
first_entry (e ∷ q) key value k v =
    ap (λ (x : List ℕ). record { key = x; value = e.value } ∷ q) (same_Some _ _ k) ∙ ap (λ (x : List ℕ). record { key = key; value = x } ∷ q) (same_Some _ _ v)

-- what was read before, and what is still read
abbrev pub with_front : {A : Type 0} → List A → Result (List A) Fault → Result (List A) Fault
with_front front others = others >>= λ xs. Ok (front ++ xs)

regroup : {A : Type 0} (front : List A) (x : A) (others : Result (List A) Fault) → with_front front (others >>= λ xs. Ok (x ∷ xs)) ≡ with_front (front ++ x ∷ []) others
regroup {A} front x (Ok xs) = ap (λ (ys : List A). done ys) (sym (append_assoc front (x ∷ []) xs))
regroup front x (Err f) = refl

-- ---- the index

pub index_goes_on : (bytes : List ℕ) (front : List IndexEntry) (q : List Entry) (e : Entry) (x : IndexEntry) (total : Result (List IndexEntry) Fault) → q ≡ e ∷ drop 1 q → index_entry bytes e ≡ Ok x
    → with_front front (index_reading bytes q) ≡ total → with_front (front ++ x ∷ []) (index_reading bytes (drop 1 q)) ≡ total
index_goes_on bytes front q e x total first passed so_far =
    let one : index_reading bytes q ≡ (index_reading bytes (drop 1 q) >>= λ xs. Ok (x ∷ xs)) =
    ap (index_reading bytes) first ∙ ap (λ (r : Result IndexEntry Fault). r >>= λ y. index_reading bytes (drop 1 q) >>= λ xs. Ok (y ∷ xs)) passed in
    sym (regroup front x (index_reading bytes (drop 1 q))) ∙ sym (ap (with_front front) one) ∙ so_far

pub index_ends : (bytes : List ℕ) (front : List IndexEntry) (q : List Entry) (e : Entry) (f : Fault) (total : Result (List IndexEntry) Fault) → q ≡ e ∷ drop 1 q → index_entry bytes e ≡ Err f
    → with_front front (index_reading bytes q) ≡ total → total ≡ Err f
index_ends bytes front q e f total first refused so_far =
    let one : index_reading bytes q ≡ Err f =
    ap (index_reading bytes) first ∙ ap (λ (r : Result IndexEntry Fault). r >>= λ y. index_reading bytes (drop 1 q) >>= λ xs. Ok (y ∷ xs)) refused in
    sym so_far ∙ ap (with_front front) one

-- ---- the entries of a data block

-- one entry further on
pub entries_go_on : (cmp : List ℕ → List ℕ → Ordering) (before : Option (List ℕ)) (q : List Entry) (key value : List ℕ) (total : Result (Unit {0}) Fault) → q ≡ record { key = key; value = value } ∷ drop 1 q
    → Ok tt ≡ entry_test cmp before (record { key = key; value = value }) → entries_test cmp before q ≡ total → entries_test cmp (Some key) (drop 1 q) ≡ total
entries_go_on cmp before q key value total first passed so_far =
    ap (λ (r : Result (Unit {0}) Fault). r >>= λ _. entries_test cmp (Some key) (drop 1 q)) passed
    ∙ sym (ap (entries_test cmp before) first) ∙ so_far

pub entries_end : (cmp : List ℕ → List ℕ → Ordering) (before : Option (List ℕ)) (q : List Entry) (key value : List ℕ) (f : Fault) (total : Result (Unit {0}) Fault) → q ≡ record { key = key; value = value } ∷ drop 1 q
    → Err f ≡ entry_test cmp before (record { key = key; value = value }) → entries_test cmp before q ≡ total → total ≡ Err f
entries_end cmp before q key value f total first refused so_far =
    sym so_far ∙ ap (entries_test cmp before) first ∙ sym (ap (λ (r : Result (Unit {0}) Fault). r >>= λ _. entries_test cmp (Some key) (drop 1 q)) refused)

pub last_goes_on : (before : List ℕ) (q : List Entry) (key value : List ℕ) (total : List ℕ) → q ≡ record { key = key; value = value } ∷ drop 1 q → last_key before q ≡ total → last_key key (drop 1 q) ≡ total
last_goes_on before q key value total first so_far = sym (ap (last_key before) first) ∙ so_far

-- ---- refusals

-- what a step is refused by, all is refused by
pub fails_map : {Y Z : Type 0} (e : Fault) (a : Result Y Fault) (b : Result Z Fault) → (a ≡ Err e → b ≡ Err e) → FailsOrMemory e a → FailsOrMemory e b
fails_map e a b f h = unless_from e (a ≡ Err e) (b ≡ Err e) f h

-- a refusal that is handed on
pub handed_on : {X Y : Type 0} (view : X → Y) (r : Result X Fault) (e d : Fault) (total : Result Y Fault) → r ≡ Err e → e ≡ d → FailsOrMemory d total → EqualOrMemory view r total
handed_on {X} {Y} view r e d total same name h =
    subst (λ (x : Result X Fault). EqualOrMemory view x total) (sym same) (subst (λ (x : Fault). FailsOrMemory x total) (sym name) h)

-- ---- the bounds of a data block

pub bounds_refused : (cmp : List ℕ → List ℕ → Ordering) (before : Option (List ℕ)) (so_far : Tally) (q : List Entry) (d : Fault) → 0 < length q → entries_test cmp before q ≡ Err d → bounds_reading cmp before so_far q ≡ Err d
bounds_refused cmp before so_far [] d some h = absurd (omega arith)
bounds_refused cmp before so_far (e ∷ q) d some h =
    ap (λ (r : Result (Unit {0}) Fault). r >>= λ _. done (record { smallest = first_key (e ∷ q); largest = last_key [] (e ∷ q); tally = tally_after so_far before (e ∷ q) })) h

-- ---- a loop's list

-- the element at a place, and those after it
pub next_item : {A : Type 0} (xs : List A) (i : ℕ) (x : A) → i < length xs → x ≡ get_or xs i x → drop i xs ≡ x ∷ drop (i + 1) xs
next_item {A} xs i x lt e = drop_more xs i x lt ∙ ap (λ (y : A). y ∷ drop (i + 1) xs) (sym e)

-- what both branches of a && b gave
pub both_hold : (a b f : Bool) → a ≡ true → f ≡ b → f ≡ (a && b)
both_hold true b f e h = h
both_hold false b f e h = absurd cc

pub one_fails : (a b f : Bool) → a ≡ false → f ≡ false → f ≡ (a && b)
one_fails true b f e h = absurd cc
one_fails false b f e h = h

pub past_end : {A : Type 0} (xs : List A) (i : ℕ) → length xs ≤ i → drop i xs ≡ []
past_end xs i le = nil_from_length (drop i xs) (omega (arith, length-drop i xs))
