-- The blocks that an index names, as a relation and as a reading; their entries and index keys in order.
use Rattle.std.proofs.Common.{◌≡◌, ◌≢◌, ℕ, ◌^◌, ◌<◌, ◌≤◌, Bool, true, not, nat_le, List, [], ◌∷◌, ◌++◌, length, Option, Some, None, Result, Ok, refl, sym, ap, subst, ◌∙◌, arith}
use Rattle.std.specs.List.{AllByRecursion}
use Rattle.std.specs.Ordering.{is_lt, is_gt}
use Rattle.std.specs.declared.cmp.Ordering.{Ordering}
use Rattle.std.specs.declared.cmp.Ordering.TheVariants.{Less, Equal, Greater}
use Rattle.std.proofs.lemmas.Bool.{le-leb, and_parts, and_from}
use Rattle.std.proofs.lemmas.List.{append-nil}
use Rattle.coding.specs.Answers.{◌>>=◌}
use Rattle.coding.specs.declared.fault.Fault.{Fault}
use Rattle.coding.specs.declared.fault.FaultName.TheVariants.{TooLarge, Order, Empty}
use Rattle.coding.proofs.Binds.{done, bind_ok, ok_is}
use Rattle.block.specs.EncodedEntry.{Entry}
use Rattle.block.specs.BuilderView.{last_key}
use Rattle.ikey.specs.Key.{internal_key_reading}
use Rattle.ikey.specs.Order.{internal_cmp}
use Rattle.ikey.proofs.Ordered.{is_lt-true}
use Rattle.table.specs.declared.handle.BlockHandle.{BlockHandle}
use Rattle.table.specs.Handle.{handle_bytes, handle_reading, HandleBehind}
use Rattle.table.proofs.Handles.{handle_reading-spelled, reads_handle}
use Rattle.table.specs.TestResult.{test_result}
use Rattle.table.specs.EntryTests.{first_key, is_above, last_key_after, entry_test, entries_test, is_some_list, data_test, HaveKeys}
use Rattle.table.specs.IndexReading.{IndexEntry, handle_alone, one_handle, stored_at, block_in, index_entry, index_reading}
use Rattle.table.specs.TableContents.{DataBlock, blocks_reading, is_between_index_keys, index_fits, entries_of}
use Rattle.table.specs.EntriesFrom.{EntriesRise}
use Rattle.table.specs.TableBytes.{AreNamed, IsBelowNextBlock, AreBetween, AreBytes}
use Rattle.table.proofs.CheckedTables.{read_block}
use Rattle.table.proofs.EntryTests.{AllAbove, key_same, passes, behind_again}
use Rattle.table.proofs.StoredTables.{bind_is, stands_read, stands_fit, read_stands}

-- ---- entries

pub values_of : (cmp : List ℕ → List ℕ → Ordering) (before : Option (List ℕ)) (es : List Entry) → entries_test cmp before es ≡ Ok tt → AllByRecursion (λ e. length e.value ≤ 16777215) es
values_of cmp before [] h = tt
values_of cmp before (e ∷ es) h = let p = passes cmp before e es h in (p.first.value, values_of cmp (Some e.key) es p.behind)

above_first : (cmp : List ℕ → List ℕ → Ordering) (before : Option (List ℕ)) (e : Entry) (es : List Entry) → AllAbove cmp before (e ∷ es) → is_above cmp before e.key ≡ true
above_first cmp None e es h = refl
above_first cmp (Some k) e es h = ap is_lt h.0

pub tests_of : (cmp : List ℕ → List ℕ → Ordering) (before : Option (List ℕ)) (es : List Entry) → HaveKeys es → AllByRecursion (λ e. length e.value ≤ 16777215) es → AllAbove cmp before es → EntriesRise cmp es → entries_test cmp before es ≡ Ok tt
tests_of cmp before [] keys values above rising = refl
tests_of cmp before (e ∷ es) keys values above rising =
    let first : entry_test cmp before e ≡ Ok tt =
    bind_is (internal_key_reading e.key) e.key (λ _. test_result (nat_le (length e.value) 16777215) TooLarge >>= λ _. test_result (is_above cmp before e.key) Order) (done tt) keys.0
    (ap (λ (b : Bool). test_result b TooLarge >>= λ _. test_result (is_above cmp before e.key) Order) (le-leb (length e.value) 16777215 values.0) ∙ ap (λ (b : Bool). test_result b Order) (above_first cmp before e es above)) in
    ap (λ (r : Result (Unit {0}) Fault). r >>= λ _. entries_test cmp (Some e.key) es) first
    ∙ tests_of cmp (Some e.key) es keys.1 values.1 rising.0 rising.1

-- the tests of two lists are those of one and then the other
pub record Splits (cmp : List ℕ → List ℕ → Ordering) (before : Option (List ℕ)) (es fs : List Entry) : Type 0 where
  pub front : entries_test cmp before es ≡ Ok tt
  pub rest : entries_test cmp (last_key_after before es) fs ≡ Ok tt

pub splits : (cmp : List ℕ → List ℕ → Ordering) (before : Option (List ℕ)) (es fs : List Entry) → entries_test cmp before (es ++ fs) ≡ Ok tt → Splits cmp before es fs
splits cmp before [] fs h = record { front = refl; rest = h }
splits cmp before (e ∷ es) fs h =
    let a = bind_ok (entry_test cmp before e) (λ _. entries_test cmp (Some e.key) (es ++ fs)) tt h in
    let s = splits cmp (Some e.key) es fs a.2 in
    record {
      front = ap (λ (r : Result (Unit {0}) Fault). r >>= λ _. entries_test cmp (Some e.key) es) a.1 ∙ s.front;
      rest = subst (λ (k : Option (List ℕ)). entries_test cmp k fs ≡ Ok tt) (behind_again before e es) s.rest;
    }

-- ---- what an index names

-- the blocks that are read of an index
abbrev pub Holds : List IndexEntry → List DataBlock → Type 0
Holds [] [] = Unit {0}
Holds (i ∷ is) (b ∷ bs) = (i.key ≡ b.index_key) × (block_in i.stored ≡ Ok b.entries) × (is_some_list b.entries ≡ true) × Holds is bs
Holds _ _ = ⊥

pub record NamedRead (bytes : List ℕ) (es : List Entry) (bs : List DataBlock) : Type 0 where
  pub index : List IndexEntry
  pub read : index_reading bytes es ≡ Ok index
  pub holds : Holds index bs

some_list : (q : List Entry) → 0 < length q → is_some_list q ≡ true
some_list [] h = absurd (omega arith)
some_list (e ∷ q) h = refl

-- a spelling alone is one handle
one_handle-spelled : (value : List ℕ) (handle : BlockHandle) → handle.offset < 2 ^ 64 → handle.size < 2 ^ 64 → value ≡ handle_bytes handle.offset handle.size → one_handle (handle_reading value) ≡ Ok handle
one_handle-spelled value handle a b e =
    ap one_handle (handle_reading-spelled value handle.offset handle.size [] a b (e ∙ sym (append-nil (handle_bytes handle.offset handle.size))))

pub named_read : (bytes : List ℕ) (es : List Entry) (bs : List DataBlock) → length bytes ≤ 2 ^ 30 → AreNamed bytes es bs → NamedRead bytes es bs
named_read bytes [] [] small h = record { index = []; read = refl; holds = tt }
named_read bytes [] (b ∷ bs) small h = absurd h
named_read bytes (e ∷ es) [] small h = absurd h
named_read bytes (e ∷ es) (b ∷ bs) small h =
    let n = h.0 in
    let fits = stands_fit bytes n.handle b.entries small n.block in
    let r = stands_read bytes n.handle b.entries n.block in
    let more = named_read bytes es bs small h.1 in
    let i : IndexEntry = record { key = e.key; stored = r.bytes_there } in
    let first : index_entry bytes e ≡ Ok i =
    bind_is (internal_key_reading e.key) e.key (λ key. one_handle (handle_reading e.value) >>= λ handle. stored_at bytes handle >>= λ s. Ok (record { key = key; stored = s })) (done i) n.is_key
    (bind_is (one_handle (handle_reading e.value)) n.handle (λ handle. stored_at bytes handle >>= λ s. Ok (record { key = e.key; stored = s })) (done i) (one_handle-spelled e.value n.handle fits.offset fits.size n.value)
    (bind_is (stored_at bytes n.handle) r.bytes_there (λ s. Ok (record { key = e.key; stored = s })) (done i) r.at refl)) in
    record {
      index = i ∷ more.index;
      read = bind_is (index_entry bytes e) i (λ x. index_reading bytes es >>= λ xs. Ok (x ∷ xs)) (done (i ∷ more.index)) first
          (bind_is (index_reading bytes es) more.index (λ xs. Ok (i ∷ xs)) (done (i ∷ more.index)) more.read refl);
      holds = (n.key, r.entries, some_list b.entries n.some, more.holds);
    }

pub blocks_read : (cmp : List ℕ → List ℕ → Ordering) (before : Option (List ℕ)) (index : List IndexEntry) (bs : List DataBlock) → Holds index bs → entries_test cmp before (entries_of bs) ≡ Ok tt → blocks_reading cmp before index ≡ Ok bs
blocks_read cmp before [] [] h t = refl
blocks_read cmp before [] (b ∷ bs) h t = absurd h
blocks_read cmp before (i ∷ is) [] h t = absurd h
blocks_read cmp before (i ∷ is) (b ∷ bs) h t =
    let s = splits cmp before b.entries (entries_of bs) t in
    let tests : data_test cmp before b.entries ≡ Ok tt = ap (λ (x : Bool). test_result x Empty >>= λ _. entries_test cmp before b.entries) h.2 ∙ s.front in
    bind_is (block_in i.stored) b.entries (λ q. data_test cmp before q >>= λ _. blocks_reading cmp (last_key_after before q) is >>= λ others. Ok (record { index_key = i.key; entries = q } ∷ others)) (done (b ∷ bs)) h.1
    (bind_is (data_test cmp before b.entries) tt (λ _. blocks_reading cmp (last_key_after before b.entries) is >>= λ others. Ok (record { index_key = i.key; entries = b.entries } ∷ others)) (done (b ∷ bs)) tests
    (bind_is (blocks_reading cmp (last_key_after before b.entries) is) bs (λ others. Ok (record { index_key = i.key; entries = b.entries } ∷ others)) (done (b ∷ bs)) (blocks_read cmp (last_key_after before b.entries) is bs h.3 s.rest)
    (ap (λ (k : List ℕ). done (record { index_key = k; entries = b.entries } ∷ bs)) h.0)))

-- the one handle that a value is
record Spells (value : List ℕ) (handle : BlockHandle) : Type 0 where
  whole : value ≡ handle_bytes handle.offset handle.size

spells : (value : List ℕ) (handle : BlockHandle) → one_handle (handle_reading value) ≡ Ok handle → Spells value handle
spells value handle h = of_reading (handle_reading value) refl h
  where
    of_found : (found : BlockHandle) (rest : List ℕ) → handle_reading value ≡ Some (record { handle = found; rest = rest }) → handle_alone found rest ≡ Ok handle → Spells value handle
    of_found found [] e h =
        let r = reads_handle value found.offset found.size [] e in
        subst (Spells value) (ok_is found handle h) (record { whole = r.parts ∙ append-nil (handle_bytes found.offset found.size) })
    of_found found (b ∷ rest) e h = absurd cc

    of_reading : (o : Option HandleBehind) → handle_reading value ≡ o → one_handle o ≡ Ok handle → Spells value handle
    of_reading None e h = absurd cc
    of_reading (Some found) e h = of_found found.handle found.rest e h

data_some : (cmp : List ℕ → List ℕ → Ordering) (before : Option (List ℕ)) (q : List Entry) → data_test cmp before q ≡ Ok tt → 0 < length q
data_some cmp before [] h = absurd cc
data_some cmp before (e ∷ q) h = omega arith

pub read_named : (cmp : List ℕ → List ℕ → Ordering) (bytes : List ℕ) (es : List Entry) (before : Option (List ℕ)) (index : List IndexEntry) (bs : List DataBlock) → AreBytes bytes → index_reading bytes es ≡ Ok index → blocks_reading cmp before index ≡ Ok bs → AreNamed bytes es bs
read_named cmp bytes [] before index bs fits h k =
    let none : [] ≡ index = ok_is [] index h in
    subst (AreNamed bytes []) (ok_is [] bs (ap (blocks_reading cmp before) none ∙ k)) tt
read_named cmp bytes (e ∷ es) before index bs fits h k =
    let a = bind_ok (index_entry bytes e) (λ x. index_reading bytes es >>= λ xs. Ok (x ∷ xs)) index h in
    let c = bind_ok (index_reading bytes es) (λ xs. Ok (a.0 ∷ xs)) index a.2 in
    let key = bind_ok (internal_key_reading e.key) (λ key. one_handle (handle_reading e.value) >>= λ handle. stored_at bytes handle >>= λ s. Ok (record { key = key; stored = s })) a.0 a.1 in
    let handle = bind_ok (one_handle (handle_reading e.value)) (λ handle. stored_at bytes handle >>= λ s. Ok (record { key = key.0; stored = s })) a.0 key.2 in
    let there = bind_ok (stored_at bytes handle.0) (λ s. Ok (record { key = key.0; stored = s })) a.0 handle.2 in
    let same : record { key = key.0; stored = there.0 } ≡ a.0 = ok_is (record { key = key.0; stored = there.0 }) a.0 there.2 in
    let r = read_block cmp before a.0 c.0 bs (ap (blocks_reading cmp before) (ok_is (a.0 ∷ c.0) index c.2) ∙ k) in
    let block : block_in there.0 ≡ Ok r.entries = ap (λ (i : IndexEntry). block_in i.stored) same ∙ r.block in
    let key_is : e.key ≡ a.0.key = key_same e.key key.0 key.1 ∙ ap (λ (i : IndexEntry). i.key) same in
    subst (AreNamed bytes (e ∷ es)) r.same (
      record {
        handle = handle.0;
        key = key_is;
        is_key = key.1 ∙ ap (λ (x : List ℕ). done x) (sym (key_same e.key key.0 key.1));
        value = (spells e.value handle.0 handle.1).whole;
        block = read_stands bytes handle.0 there.0 r.entries fits there.1 block;
        some = data_some cmp before r.entries r.tests;
      },
      read_named cmp bytes es (last_key_after before r.entries) c.0 r.others fits c.1 r.behind,
    )

-- ---- the index keys in order

-- the first block, if there is one, is above this index key, if there is one
abbrev pub IsAboveNext : (List ℕ → List ℕ → Ordering) → Option (List ℕ) → List DataBlock → Type 0
IsAboveNext cmp None bs = Unit {0}
IsAboveNext cmp (Some key) bs = IsBelowNextBlock cmp key bs

not_greater : (o : Ordering) → not (is_gt o) ≡ true → o ≢ Greater
not_greater Less h e = absurd cc
not_greater Equal h e = absurd cc
not_greater Greater h e = absurd cc

is_not_greater : (o : Ordering) → o ≢ Greater → not (is_gt o) ≡ true
is_not_greater Less h = refl
is_not_greater Equal h = refl
is_not_greater Greater h = absurd (h refl)

above_next : (cmp : List ℕ → List ℕ → Ordering) (below : Option (List ℕ)) (b : DataBlock) (bs : List DataBlock) → is_above cmp below (first_key b.entries) ≡ true → IsAboveNext cmp below (b ∷ bs)
above_next cmp None b bs h = tt
above_next cmp (Some k) b bs h = is_lt-true (internal_cmp cmp k (first_key b.entries)) h

is_above_next : (cmp : List ℕ → List ℕ → Ordering) (below : Option (List ℕ)) (b : DataBlock) (bs : List DataBlock) → IsAboveNext cmp below (b ∷ bs) → is_above cmp below (first_key b.entries) ≡ true
is_above_next cmp None b bs h = refl
is_above_next cmp (Some k) b bs h = ap is_lt h

no_next : (cmp : List ℕ → List ℕ → Ordering) (below : Option (List ℕ)) → IsAboveNext cmp below []
no_next cmp None = tt
no_next cmp (Some k) = tt

pub fits_between : (cmp : List ℕ → List ℕ → Ordering) (below : Option (List ℕ)) (bs : List DataBlock) → index_fits cmp below bs ≡ true → IsAboveNext cmp below bs × AreBetween cmp bs
fits_between cmp below [] h = (no_next cmp below, tt)
fits_between cmp below (b ∷ bs) h =
    let a = and_parts (is_between_index_keys cmp below b) (index_fits cmp (Some b.index_key) bs) h in
    let c = and_parts (is_above cmp below (first_key b.entries)) (not (is_gt (internal_cmp cmp (last_key [] b.entries) b.index_key))) a.0 in
    let more = fits_between cmp (Some b.index_key) bs a.1 in
    (above_next cmp below b bs c.0, (not_greater (internal_cmp cmp (last_key [] b.entries) b.index_key) c.1, more.0, more.1))

pub between_fits : (cmp : List ℕ → List ℕ → Ordering) (below : Option (List ℕ)) (bs : List DataBlock) → IsAboveNext cmp below bs → AreBetween cmp bs → index_fits cmp below bs ≡ true
between_fits cmp below [] above h = refl
between_fits cmp below (b ∷ bs) above h =
    and_from (is_between_index_keys cmp below b) (index_fits cmp (Some b.index_key) bs)
    (and_from (is_above cmp below (first_key b.entries)) (not (is_gt (internal_cmp cmp (last_key [] b.entries) b.index_key))) (is_above_next cmp below b bs above) (is_not_greater (internal_cmp cmp (last_key [] b.entries) b.index_key) h.0))
    (between_fits cmp (Some b.index_key) bs h.1 h.2)
