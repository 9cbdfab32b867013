-- What is known of entries that passed their tests.
use Rattle.std.proofs.Common.{◌≡◌, ℕ, ◌+◌, ◌%◌, ◌≤◌, Bool, true, false, cond, nat_lt, nat_le, List, [], ◌∷◌, ◌++◌, length, Option, Some, None, Result, Ok, Err, refl, sym, ap, subst, ◌∙◌}
use Rattle.std.specs.List.{AllByRecursion}
use Rattle.std.specs.Cmp.{IsTotalOrder}
use Rattle.std.specs.declared.cmp.Ordering.{Ordering}
use Rattle.std.specs.declared.cmp.Ordering.TheVariants.{Less}
use Rattle.std.proofs.lemmas.Bool.{leb-true}
use Rattle.coding.specs.Answers.{fault, ◌>>=◌}
use Rattle.coding.specs.declared.fault.Fault.{Fault}
use Rattle.coding.specs.declared.fault.FaultName.{FaultName}
use Rattle.coding.specs.declared.fault.FaultName.TheVariants.{Key, TooLarge, Order, Empty}
use Rattle.coding.proofs.Binds.{done, bind_ok, ok_is}
use Rattle.block.specs.EncodedEntry.{Entry}
use Rattle.block.proofs.Areas.{AllByRecursion-weaker}
use Rattle.ikey.specs.Key.{tag_of, internal_key_reading}
use Rattle.ikey.specs.Order.{internal_cmp}
use Rattle.ikey.proofs.Ordered.{internal_cmp-total, is_lt-true}
use Rattle.table.specs.TestResult.{test_result}
use Rattle.table.specs.EntryTests.{is_above, last_key_after, entry_test, entries_test, is_some_list, data_test, HaveKeys}
use Rattle.table.specs.IndexReading.{IndexEntry}
use Rattle.table.specs.TableContents.{DataBlock, blocks_reading, entries_of}
use Rattle.table.specs.EntriesFrom.{EntriesRise, entries_from}
use Rattle.table.specs.RestartSearch.{first_is_below}
use Rattle.table.proofs.CheckedTables.{read_block}

-- ---- one entry

three : {A : Type 0} (s t u : Bool) (d e f : Fault) (x y : A) → cond s (Err d) (cond t (Err e) (cond u (Err f) (Ok x))) ≡ done y → x ≡ y
three true t u d e f x y h = absurd cc
three false true u d e f x y h = absurd cc
three false false true d e f x y h = absurd cc
three false false false d e f x y h = ok_is x y h

-- an internal key that is read is the bytes themselves
pub key_same : (key k : List ℕ) → internal_key_reading key ≡ Ok k → key ≡ k
key_same key k h = three (nat_lt (length key) 8) (nat_lt 1 (tag_of key % 256)) (nat_lt (65535 + 8) (length key)) (fault Key) (fault Key) (fault TooLarge) key k h

pub passed : (b : Bool) (n : FaultName) (x : Unit {0}) → test_result b n ≡ Ok x → b ≡ true
passed true n x h = refl
passed false n x h = absurd cc

-- what an entry that stands after this key has passed
pub record Passed (cmp : List ℕ → List ℕ → Ordering) (before : Option (List ℕ)) (e : Entry) : Type 0 where
  pub key : internal_key_reading e.key ≡ Ok e.key
  pub value : length e.value ≤ 16777215
  pub above : is_above cmp before e.key ≡ true

pub passed_entry : (cmp : List ℕ → List ℕ → Ordering) (before : Option (List ℕ)) (e : Entry) (x : Unit {0}) → entry_test cmp before e ≡ Ok x → Passed cmp before e
passed_entry cmp before e x h =
    let a = bind_ok (internal_key_reading e.key) _ x h in
    let b = bind_ok (test_result (nat_le (length e.value) 16777215) TooLarge) _ x a.2 in
    record {
      key = a.1 ∙ ap (λ (k : List ℕ). done k) (sym (key_same e.key a.0 a.1));
      value = leb-true (length e.value) 16777215 (passed (nat_le (length e.value) 16777215) TooLarge b.0 b.1);
      above = passed (is_above cmp before e.key) Order x b.2;
    }

-- ---- one after the other

pub record Passes (cmp : List ℕ → List ℕ → Ordering) (before : Option (List ℕ)) (e : Entry) (es : List Entry) : Type 0 where
  pub first : Passed cmp before e
  pub behind : entries_test cmp (Some e.key) es ≡ Ok tt

pub passes : (cmp : List ℕ → List ℕ → Ordering) (before : Option (List ℕ)) (e : Entry) (es : List Entry) → entries_test cmp before (e ∷ es) ≡ Ok tt → Passes cmp before e es
passes cmp before e es h =
    let a = bind_ok (entry_test cmp before e) (λ _. entries_test cmp (Some e.key) es) tt h in
    record { first = passed_entry cmp before e a.0 a.1; behind = a.2 }

pub have_keys : (cmp : List ℕ → List ℕ → Ordering) (before : Option (List ℕ)) (es : List Entry) → entries_test cmp before es ≡ Ok tt → HaveKeys es
have_keys cmp before [] h = tt
have_keys cmp before (e ∷ es) h = let p = passes cmp before e es h in (p.first.key, have_keys cmp (Some e.key) es p.behind)

pub behind_again : (before : Option (List ℕ)) (e : Entry) (es : List Entry) → last_key_after (Some e.key) es ≡ last_key_after before (e ∷ es)
behind_again before e [] = refl
behind_again before e (f ∷ es) = refl

pub entries_test-append : (cmp : List ℕ → List ℕ → Ordering) (before : Option (List ℕ)) (es fs : List Entry) → entries_test cmp before es ≡ Ok tt → entries_test cmp (last_key_after before es) fs ≡ Ok tt → entries_test cmp before (es ++ fs) ≡ Ok tt
entries_test-append cmp before [] fs h q = q
entries_test-append cmp before (e ∷ es) fs h q =
    let a = bind_ok (entry_test cmp before e) (λ _. entries_test cmp (Some e.key) es) tt h in
    ap (λ (r : Result (Unit {0}) Fault). r >>= λ _. entries_test cmp (Some e.key) (es ++ fs)) a.1
    ∙ entries_test-append cmp (Some e.key) es fs a.2 (subst (λ (k : Option (List ℕ)). entries_test cmp k fs ≡ Ok tt) (sym (behind_again before e es)) q)

-- the entries of a data block
pub data_tests : (cmp : List ℕ → List ℕ → Ordering) (before : Option (List ℕ)) (es : List Entry) → data_test cmp before es ≡ Ok tt → entries_test cmp before es ≡ Ok tt
data_tests cmp before es h = (bind_ok (test_result (is_some_list es) Empty) (λ _. entries_test cmp before es) tt h).2

-- the entries of all data blocks pass one after the other
pub all_tests : (cmp : List ℕ → List ℕ → Ordering) (before : Option (List ℕ)) (index : List IndexEntry) (blocks : List DataBlock) → blocks_reading cmp before index ≡ Ok blocks → entries_test cmp before (entries_of blocks) ≡ Ok tt
all_tests cmp before [] blocks h = ap (λ (bs : List DataBlock). entries_test cmp before (entries_of bs)) (sym (ok_is [] blocks h))
all_tests cmp before (i ∷ is) blocks h =
    let r = read_block cmp before i is blocks h in
    subst (λ (bs : List DataBlock). entries_test cmp before (entries_of bs) ≡ Ok tt) r.same
    (entries_test-append cmp before r.entries (entries_of r.others) (data_tests cmp before r.entries r.tests) (all_tests cmp (last_key_after before r.entries) is r.others r.behind))

-- ---- rising

-- each of these is above this key, if there is one
abbrev pub AllAbove : (List ℕ → List ℕ → Ordering) → Option (List ℕ) → List Entry → Type 0
AllAbove cmp None es = Unit {0}
AllAbove cmp (Some before) es = AllByRecursion (λ f. internal_cmp cmp before f.key ≡ Less) es

pub all_above : (cmp : List ℕ → List ℕ → Ordering) (before : Option (List ℕ)) (e : Entry) (es : List Entry) → IsTotalOrder cmp → is_above cmp before e.key ≡ true → AllByRecursion (λ f. internal_cmp cmp e.key f.key ≡ Less) es → AllAbove cmp before (e ∷ es)
all_above cmp None e es total h q = tt
all_above cmp (Some before) e es total h q =
    let first : internal_cmp cmp before e.key ≡ Less = is_lt-true (internal_cmp cmp before e.key) h in
    (first, AllByRecursion-weaker (λ f. internal_cmp cmp e.key f.key ≡ Less) (λ f. internal_cmp cmp before f.key ≡ Less) (λ f more. (internal_cmp-total total).trans before e.key f.key first more) es q)

rising_by : (cmp : List ℕ → List ℕ → Ordering) (before : Option (List ℕ)) (es : List Entry) → IsTotalOrder cmp → entries_test cmp before es ≡ Ok tt → AllAbove cmp before es × EntriesRise cmp es
rising_by cmp None [] total h = (tt, tt)
rising_by cmp (Some before) [] total h = (tt, tt)
rising_by cmp before (e ∷ es) total h =
    let p = passes cmp before e es h in
    let more = rising_by cmp (Some e.key) es total p.behind in
    (all_above cmp before e es total p.first.above more.0, (more.0, more.1))

pub rising : (cmp : List ℕ → List ℕ → Ordering) (before : Option (List ℕ)) (es : List Entry) → IsTotalOrder cmp → entries_test cmp before es ≡ Ok tt → EntriesRise cmp es
rising cmp before es total h = (rising_by cmp before es total h).1

-- ---- the first entries go

pub seek_ends : (cmp : List ℕ → List ℕ → Ordering) (target : List ℕ) (q total : List Entry) → first_is_below cmp target q ≡ false → entries_from cmp target q ≡ total → q ≡ total
seek_ends cmp target [] total h e = e
seek_ends cmp target (x ∷ q) total h e = ap (λ (b : Bool). cond b (entries_from cmp target q) (x ∷ q)) (sym h) ∙ e
