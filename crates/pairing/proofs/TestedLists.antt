-- Testing entries one after the other, as a loop does.
use Rattle.std.proofs.Common.{◌≡◌, ℕ, suc, ◌+◌, ◌%◌, Bool, true, false, cond, nat_lt, List, [], ◌∷◌, ◌++◌, ◌<◌, ◌-◌, length, get_or, drop, Option, Some, None, Result, Ok, Err, refl, sym, ap, ◌∙◌, append_assoc, drop-cons, arith}
use Rattle.std.proofs.lemmas.List.{append-nil}
use Rattle.std.specs.List.{slice_get}
use Rattle.std.proofs.lemmas.Option.{slice_get_within, get_or_from_slice_get}
use Rattle.ikey.proofs.Binds.{bind_ok, done, ok_is}
use Rattle.ikey.specs.Answers.{EqualOrMemory, fault, ◌>>=◌}
use Rattle.ikey.specs.fault.Fault.{Fault}
use Rattle.ikey.specs.fault.FaultName.TheVariants.{Key, TooLarge, Order}
use Rattle.ikey.specs.Bytewise.{bytewise_cmp}
use Rattle.ikey.specs.Key.{tag_of, internal_key_reading}
use Rattle.table.specs.EntryTests.{is_above}
use Rattle.std.specs.Prelude.{IfOk}
use Rattle.std.specs.Global.{Vec}
use Rattle.block.specs.EncodedEntry.{Entry, IsBlock}
use Rattle.block.specs.BlockReading.{block_reading}
use Rattle.block.proofs.BlockReadings.{reads_blocks}
use Rattle.pairing.specs.TestedUnion.{last_key_or, tested_entries}
use Rattle.pairing.specs.declared.tested_entry.TestedEntry.{TestedEntry}
use Rattle.pairing.specs.EntryTests.{file_entry_test, tested_after}

-- what was tested before, and what is still tested
abbrev pub with_front : List Entry → Result (List Entry) Fault → Result (List Entry) Fault
with_front front tested = tested >>= λ es. Ok (front ++ es)

pub last_key-push : (before : Option (List ℕ)) (es : List Entry) (e : Entry) → last_key_or before (es ++ e ∷ []) ≡ Some e.key
last_key-push before [] e = refl
last_key-push before (x ∷ es) e = last_key-push (Some x.key) es e

pub regroup : (front : List Entry) (e : Entry) (tested : Result (List Entry) Fault) → with_front front (tested >>= λ es. Ok (e ∷ es)) ≡ with_front (front ++ e ∷ []) tested
regroup front e (Ok es) = ap (λ (xs : List Entry). Ok xs) (sym (append_assoc front (e ∷ []) es))
regroup front e (Err f) = refl

pub goes_on : (front q : List Entry) (key value internal : List ℕ) (total : Result (List Entry) Fault) → q ≡ record { key = key; value = value } ∷ drop 1 q → Ok internal ≡ file_entry_test (last_key_or None front) key value
    → with_front front (tested_after (last_key_or None front) q) ≡ total → with_front (front ++ record { key = key; value = value } ∷ []) (tested_after (last_key_or None (front ++ record { key = key; value = value } ∷ [])) (drop 1 q)) ≡ total
goes_on front q key value internal total first passed so_far =
    let e : Entry = record { key = key; value = value } in
    let one : tested_after (last_key_or None front) q ≡ (tested_after (Some key) (drop 1 q) >>= λ es. Ok (e ∷ es)) =
    ap (tested_after (last_key_or None front)) first ∙ ap (λ (r : Result (List ℕ) Fault). r >>= λ k. tested_after (Some key) (drop 1 q) >>= λ es. Ok (e ∷ es)) (sym passed) in
    ap (λ (b : Option (List ℕ)). with_front (front ++ e ∷ []) (tested_after b (drop 1 q))) (last_key-push None front e)
    ∙ sym (regroup front e (tested_after (Some key) (drop 1 q))) ∙ sym (ap (with_front front) one) ∙ so_far

pub ends : (front q : List Entry) (key value : List ℕ) (f : Fault) (total : Result (List Entry) Fault) → q ≡ record { key = key; value = value } ∷ drop 1 q → Err f ≡ file_entry_test (last_key_or None front) key value
    → with_front front (tested_after (last_key_or None front) q) ≡ total → total ≡ Err f
ends front q key value f total first failed so_far =
    let e : Entry = record { key = key; value = value } in
    let one : tested_after (last_key_or None front) q ≡ Err f =
    ap (tested_after (last_key_or None front)) first ∙ ap (λ (r : Result (List ℕ) Fault). r >>= λ k. tested_after (Some key) (drop 1 q) >>= λ es. Ok (e ∷ es)) (sym failed) in
    sym so_far ∙ ap (with_front front) one

-- the last element of a longer list
pub get_or-cons : (t : TestedEntry) (ts : List TestedEntry) (d : TestedEntry) → 0 < length ts → get_or (t ∷ ts) (length (t ∷ ts) - 1) d ≡ get_or ts (length ts - 1) d
get_or-cons t ts d some =
    let n : length (t ∷ ts) - 1 ≡ suc (length ts - 1) = omega arith in
    ap (λ (i : ℕ). get_or (t ∷ ts) i d) n

-- the last of tested entries
pub last_key-tested_entries : (before : Option (List ℕ)) (ts : List TestedEntry) (d : TestedEntry) → 0 < length ts → last_key_or before (tested_entries ts) ≡ Some (get_or ts (length ts - 1) d).key
last_key-tested_entries before [] d some = absurd (omega arith)
last_key-tested_entries before (t ∷ []) d some = refl
last_key-tested_entries before (t ∷ u ∷ ts) d some =
    last_key-tested_entries (Some t.key) (u ∷ ts) d (omega arith) ∙ ap (λ (x : TestedEntry). Some x.key) (sym (get_or-cons t (u ∷ ts) d (omega arith)))

-- the same of the last one as a slice gives it
pub last_key_read : (ts : List TestedEntry) (t : TestedEntry) → Some t ≡ slice_get ts (length ts - 1) → last_key_or None (tested_entries ts) ≡ Some t.key
last_key_read ts t is =
    let within = slice_get_within ts (length ts - 1) t (sym is) in
    last_key-tested_entries None ts t (omega (arith, within)) ∙ ap (λ (x : TestedEntry). Some x.key) (get_or_from_slice_get ts (length ts - 1) t t (sym is))

-- what is accepted are the entries themselves
pub tested_same : (before : Option (List ℕ)) (q es : List Entry) → tested_after before q ≡ Ok es → q ≡ es
tested_same before [] es h = ok_is [] es h
tested_same before (e ∷ q) es h =
    let a = bind_ok (file_entry_test before e.key e.value) (λ k. tested_after (Some e.key) q >>= λ xs. Ok (e ∷ xs)) es h in
    let b = bind_ok (tested_after (Some e.key) q) (λ xs. Ok (e ∷ xs)) es a.2 in
    ap (λ (xs : List Entry). e ∷ xs) (tested_same (Some e.key) q b.0 b.1) ∙ ok_is (e ∷ b.0) es b.2

-- three tests, each with its refusal
three : {A : Type 0} (s t u : Bool) (d e f : Fault) (x y : A) → cond s (Err d) (cond t (Err e) (cond u (Err f) (Ok x))) ≡ done y → x ≡ y
three true t u d e f x y h = absurd cc
three false true u d e f x y h = absurd cc
three false false true d e f x y h = absurd cc
three false false false d e f x y h = ok_is x y h

two : {A : Type 0} (s t : Bool) (d e : Fault) (x y : A) → cond s (Err d) (cond t (Ok x) (Err e)) ≡ done y → x ≡ y
two true t d e x y h = absurd cc
two false true d e x y h = ok_is x y h
two false false d e x y h = absurd cc

-- what passes the tests is the key itself
pub entry_test_same : (before : Option (List ℕ)) (key value internal : List ℕ) → file_entry_test before key value ≡ Ok internal → key ≡ internal
entry_test_same before key value internal h =
    let a = bind_ok (internal_key_reading key) _ internal h in
    three (nat_lt (length key) 8) (nat_lt 1 (tag_of key % 256)) (nat_lt (65535 + 8) (length key)) (fault Key) (fault Key) (fault TooLarge) key a.0 a.1
    ∙ two (nat_lt 16777215 (length value)) (is_above bytewise_cmp before key) (fault TooLarge) (fault Order) a.0 internal a.2

-- the entries that were tested are those of the block
pub found_tested : (bytes : List ℕ) (q : List Entry) (r : Result (Vec TestedEntry) Fault) → IsBlock bytes q → EqualOrMemory (λ v. tested_entries v.items) r (tested_after None q) → IfOk r (λ v. block_reading bytes ≡ Ok (tested_entries v.items))
found_tested bytes q (Ok v) block given = reads_blocks.only bytes q block ∙ ap done (tested_same None q (tested_entries v.items) given)
found_tested bytes q (Err e) block given = tt

drop_at : (ts : List TestedEntry) (i : ℕ) (t : TestedEntry) → i < length ts → drop i ts ≡ get_or ts i t ∷ drop (i + 1) ts
drop_at ts i t within = let n : suc i ≡ i + 1 = omega arith in drop-cons ts i t within ∙ ap (λ (k : ℕ). get_or ts i t ∷ drop k ts) n

-- the entry at a place goes after those that are done
pub one_more : (done : List Entry) (ts : List TestedEntry) (i : ℕ) (t : TestedEntry) (key : List ℕ) (whole : List Entry) → i < length ts → t ≡ get_or ts i t → key ≡ t.key → done ++ tested_entries (drop i ts) ≡ whole
    → (done ++ record { key = key; value = t.value.now } ∷ []) ++ tested_entries (drop (i + 1) ts) ≡ whole
one_more done ts i t key whole within is same so_far =
    append_assoc done (record { key = key; value = t.value.now } ∷ []) (tested_entries (drop (i + 1) ts))
    ∙ ap (λ (k : List ℕ). done ++ record { key = k; value = t.value.now } ∷ tested_entries (drop (i + 1) ts)) same
    ∙ ap (λ (x : TestedEntry). done ++ tested_entries (x ∷ drop (i + 1) ts)) is
    ∙ ap (λ (q : List TestedEntry). done ++ tested_entries q) (sym (drop_at ts i t within))
    ∙ so_far
