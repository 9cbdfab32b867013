-- The walk over a table's data blocks by its index.
use Rattle.std.proofs.Common.{◌≡◌, ℕ, zero, suc, ◌+◌, ◌<◌, Bool, true, false, not, cond, List, [], ◌∷◌, ◌++◌, map, length, drop, Option, Some, None, Result, Ok, Err, refl, sym, ap, subst, ◌∙◌, true≢false, arith, append_assoc}
use Rattle.std.specs.List.{AllByRecursion}
use Rattle.std.specs.Cmp.{IsTotalOrder}
use Rattle.std.specs.Prelude.{IsOk, OnOk, OnErr, slice_get}
use Rattle.std.specs.Option.{option_map}
use Rattle.std.specs.Result.{result_unwrap_or}
use Rattle.std.specs.Ordering.{is_lt, is_gt, is_le, ordering_reverse}
use Rattle.std.specs.BTreeMap.Comparable.{le_lt_trans}
use Rattle.std.specs.declared.cmp.Ordering.{Ordering}
use Rattle.std.specs.declared.cmp.Ordering.TheVariants.{Less, Equal, Greater}
use Rattle.std.proofs.lemmas.List.{nil_from_length, drop-drop}
use Rattle.std.proofs.lemmas.Option.{same_Some, none-some}
use Rattle.std.proofs.lemmas.Bool.{and_parts}
use Rattle.coding.specs.Answers.{◌>>=◌}
use Rattle.coding.specs.declared.fault.Fault.{Fault}
use Rattle.coding.proofs.Binds.{done, bind_ok, ok_is}
use Rattle.block.specs.EncodedEntry.{Entry, IsBlock}
use Rattle.block.specs.BuilderView.{last_key}
use Rattle.ikey.specs.Key.{internal_key_reading, user_of}
use Rattle.ikey.specs.Order.{internal_cmp}
use Rattle.ikey.proofs.Ordered.{internal_cmp-total, is_lt-true}
use Rattle.table.specs.declared.handle.BlockHandle.{BlockHandle}
use Rattle.table.specs.Handle.{HandleBehind, handle_reading}
use Rattle.table.specs.Trailer.{stored_reading}
use Rattle.block.specs.BlockReading.{block_reading}
use Rattle.table.specs.EntryTests.{first_key, is_above, last_key_after, is_some_list, data_test, HaveKeys}
use Rattle.table.specs.IndexReading.{IndexEntry, handle_alone, one_handle, stored_at, block_in, index_entry, index_reading}
use Rattle.table.specs.TableContents.{DataBlock, blocks_reading, is_between_index_keys, index_fits, entries_of, Contents}
use Rattle.table.specs.CheckedContents.{contents_in}
use Rattle.table.specs.SoundTables.{IsChecked}
use Rattle.table.specs.EntriesFrom.{EntriesRise, entries_from}
use Rattle.table.specs.RestartSearch.{first_is_below}
use Rattle.table.specs.IndexWalk.{block_named, entries_named, all_named, NamesBlock, Indexes, IsWalkLeft}
use Rattle.block.proofs.BlockReadings.{reads_blocks}
use Rattle.table.proofs.Searches.{from_place}
use Rattle.table.proofs.CheckedTables.{read_block, read_data, blocks_are, contents_are, users_of}
use Rattle.table.proofs.EntryTests.{key_same, have_keys, data_tests, all_tests, AllAbove, all_above, rising}

-- ---- the data block that an entry of the index names

pub block_named-by : (bytes value : List ℕ) → block_named bytes value ≡ (one_handle (handle_reading value) >>= λ handle. stored_at bytes handle >>= λ there. block_in there)
unfolding block_named
block_named-by bytes value = refl

pub named_entries : (bytes : List ℕ) (i : Entry) (q : List Entry) → block_named bytes i.value ≡ Ok q → entries_named bytes i ≡ q
unfolding entries_named
named_entries bytes i q h = ap (λ (r : Result (List Entry) Fault). result_unwrap_or r []) h

-- an entry that is read, and the block that it names
record Reads (bytes : List ℕ) (i : Entry) (x : IndexEntry) : Type 0 where
  key : internal_key_reading i.key ≡ Ok i.key
  same : i.key ≡ x.key
  block : block_named bytes i.value ≡ block_in x.stored

reads : (bytes : List ℕ) (i : Entry) (x : IndexEntry) → index_entry bytes i ≡ Ok x → Reads bytes i x
reads bytes i x h =
    let key = bind_ok (internal_key_reading i.key) (λ key. one_handle (handle_reading i.value) >>= λ handle. stored_at bytes handle >>= λ s. Ok (record { key = key; stored = s })) x h in
    let handle = bind_ok (one_handle (handle_reading i.value)) (λ handle. stored_at bytes handle >>= λ s. Ok (record { key = key.0; stored = s })) x key.2 in
    let there = bind_ok (stored_at bytes handle.0) (λ s. Ok (record { key = key.0; stored = s })) x handle.2 in
    let same : record { key = key.0; stored = there.0 } ≡ x = ok_is (record { key = key.0; stored = there.0 }) x there.2 in
    let own : i.key ≡ key.0 = key_same i.key key.0 key.1 in
    record {
      key = key.1 ∙ ap (λ (k : List ℕ). done k) (sym own);
      same = own ∙ ap (λ (y : IndexEntry). y.key) same;
      block =
          block_named-by bytes i.value
          ∙ ap (λ (r : Result _ Fault). r >>= λ h. stored_at bytes h >>= λ s. block_in s) handle.1
          ∙ ap (λ (r : Result (List ℕ) Fault). r >>= λ s. block_in s) there.1
          ∙ ap (λ (y : IndexEntry). block_in y.stored) same;
    }

-- ---- its keys are not above its index key

not_gt_le : (o : Ordering) → not (is_gt o) ≡ true → is_le o ≡ true
not_gt_le Less h = refl
not_gt_le Equal h = refl
not_gt_le Greater h = absurd cc

-- below a key that is not above another
before_within : (cmp : List ℕ → List ℕ → Ordering) (a b k : List ℕ) → IsTotalOrder cmp → internal_cmp cmp a b ≡ Less → is_le (internal_cmp cmp b k) ≡ true → internal_cmp cmp a k ≡ Less
before_within cmp a b k total lt le = of_order (internal_cmp cmp b k) refl le
  where
    laws : IsTotalOrder (internal_cmp cmp)
    laws = internal_cmp-total total

    of_order : (o : Ordering) → internal_cmp cmp b k ≡ o → is_le o ≡ true → internal_cmp cmp a k ≡ Less
    of_order Less e le = laws.trans a b k lt e
    of_order Equal e le = laws.antisymm a k ∙ ap ordering_reverse (sym (laws.congr b k a e) ∙ laws.antisymm b a ∙ ap ordering_reverse lt)
    of_order Greater e le = absurd cc

-- keys that rise to one that is not above another
all_within : (cmp : List ℕ → List ℕ → Ordering) (k : List ℕ) (es : List Entry) → IsTotalOrder cmp → EntriesRise cmp es → is_le (internal_cmp cmp (last_key [] es) k) ≡ true → AllByRecursion (λ e. is_le (internal_cmp cmp e.key k) ≡ true) es
all_within cmp k [] total rises le = tt
all_within cmp k (e ∷ []) total rises le = (le, tt)
all_within cmp k (e ∷ f ∷ es) total rises le =
    let more = all_within cmp k (f ∷ es) total rises.1 le in
    (ap is_le (before_within cmp e.key f.key k total rises.0.0 more.0), more)

-- ---- all of them

some_entries : (cmp : List ℕ → List ℕ → Ordering) (before : Option (List ℕ)) (q : List Entry) → data_test cmp before q ≡ Ok tt → 0 < length q
some_entries cmp before [] h = absurd cc
some_entries cmp before (e ∷ q) h = omega arith

names_block : (cmp : List ℕ → List ℕ → Ordering) (bytes : List ℕ) (before : Option (List ℕ)) (i : Entry) (x : IndexEntry) (q : List Entry) → IsTotalOrder cmp → Reads bytes i x → block_in x.stored ≡ Ok q → data_test cmp before q ≡ Ok tt
    → not (is_gt (internal_cmp cmp (last_key [] q) x.key)) ≡ true → NamesBlock cmp bytes i
names_block cmp bytes before i x q total r block tests last =
    let named : entries_named bytes i ≡ q = named_entries bytes i q (r.block ∙ block) in
    let passed = data_tests cmp before q tests in
    let le : is_le (internal_cmp cmp (last_key [] q) i.key) ≡ true = ap (λ (k : List ℕ). is_le (internal_cmp cmp (last_key [] q) k)) r.same ∙ not_gt_le (internal_cmp cmp (last_key [] q) x.key) last in
    record {
      key = r.key;
      block = r.block ∙ block ∙ ap (λ (es : List Entry). done es) (sym named);
      some = subst (λ (es : List Entry). 0 < length es) (sym named) (some_entries cmp before q tests);
      keys = subst HaveKeys (sym named) (have_keys cmp before q passed);
      rising = subst (EntriesRise cmp) (sym named) (rising cmp before q total passed);
      within = subst (AllByRecursion (λ e. is_le (internal_cmp cmp e.key i.key) ≡ true)) (sym named) (all_within cmp i.key q total (rising cmp before q total passed) le);
    }

-- an index key is above those that its block's first key is above
above_first : (cmp : List ℕ → List ℕ → Ordering) (below : Option (List ℕ)) (q : List Entry) (k : List ℕ) → IsTotalOrder cmp → 0 < length q → AllByRecursion (λ e. is_le (internal_cmp cmp e.key k) ≡ true) q → is_above cmp below (first_key q) ≡ true → is_above cmp below k ≡ true
above_first cmp below [] k total some within above = absurd (omega arith)
above_first cmp None (e ∷ q) k total some within above = refl
above_first cmp (Some b) (e ∷ q) k total some within above = ap is_lt (before_within cmp b e.key k total (is_lt-true (internal_cmp cmp b e.key) above) within.0)

none_above : (cmp : List ℕ → List ℕ → Ordering) (below : Option (List ℕ)) → AllAbove cmp below []
none_above cmp None = tt
none_above cmp (Some b) = tt

-- Entries of the index name these blocks. Their keys rise, the first of them from this one.
record NameAll (cmp : List ℕ → List ℕ → Ordering) (bytes : List ℕ) (below : Option (List ℕ)) (es : List Entry) (blocks : List DataBlock) : Type 0 where
  each : AllByRecursion (NamesBlock cmp bytes) es
  above : AllAbove cmp below es
  keys_rise : EntriesRise cmp es
  whole : all_named bytes es ≡ entries_of blocks

name_all : (cmp : List ℕ → List ℕ → Ordering) (bytes : List ℕ) (before below : Option (List ℕ)) (es : List Entry) (index : List IndexEntry) (blocks : List DataBlock) → IsTotalOrder cmp → index_reading bytes es ≡ Ok index → blocks_reading cmp before index ≡ Ok blocks → index_fits cmp below blocks ≡ true
    → NameAll cmp bytes below es blocks
name_all cmp bytes before below [] index blocks total h k fits =
    let none : [] ≡ index = ok_is [] index h in
    record { each = tt; above = none_above cmp below; keys_rise = tt; whole = ap entries_of (ok_is [] blocks (ap (blocks_reading cmp before) none ∙ k)) }
name_all cmp bytes before below (e ∷ es) index blocks total h k fits =
    let a = bind_ok (index_entry bytes e) (λ x. index_reading bytes es >>= λ xs. Ok (x ∷ xs)) index h in
    let c = bind_ok (index_reading bytes es) (λ xs. Ok (a.0 ∷ xs)) index a.2 in
    let r = read_block cmp before a.0 c.0 blocks (ap (blocks_reading cmp before) (ok_is (a.0 ∷ c.0) index c.2) ∙ k) in
    let b : DataBlock = record { index_key = a.0.key; entries = r.entries } in
    let f = and_parts (is_between_index_keys cmp below b) (index_fits cmp (Some a.0.key) r.others) (subst (λ (bs : List DataBlock). index_fits cmp below bs ≡ true) (sym r.same) fits) in
    let g = and_parts (is_above cmp below (first_key r.entries)) (not (is_gt (internal_cmp cmp (last_key [] r.entries) a.0.key))) f.0 in
    let read = reads bytes e a.0 a.1 in
    let here : entries_named bytes e ≡ r.entries = named_entries bytes e r.entries (read.block ∙ r.block) in
    let names = names_block cmp bytes before e a.0 r.entries total read r.block r.tests g.1 in
    let more = name_all cmp bytes (last_key_after before r.entries) (Some a.0.key) es c.0 r.others total c.1 r.behind f.1 in
    let behind : AllAbove cmp (Some e.key) es = subst (λ (k : List ℕ). AllAbove cmp (Some k) es) (sym read.same) more.above in
    record {
      each = (names, more.each);
      above = all_above cmp below e es total (above_first cmp below (entries_named bytes e) e.key total names.some names.within (ap (λ (q : List Entry). is_above cmp below (first_key q)) here ∙ g.0)) behind;
      keys_rise = (behind, more.keys_rise);
      whole =
          ap (λ (q : List Entry). q ++ all_named bytes es) here
          ∙ ap (λ (q : List Entry). r.entries ++ q) more.whole
          ∙ ap entries_of r.same;
    }

-- the index of a table that was checked
pub indexes : (cmp : List ℕ → List ℕ → Ordering) (bytes : List ℕ) (named : List Entry) (smallest largest : List ℕ) (x : Contents) → IsTotalOrder cmp → IsChecked cmp bytes named smallest largest → contents_in cmp bytes ≡ x
    → Indexes cmp x.bytes named x.entries
indexes cmp bytes named smallest largest x total k e =
    let d = read_data cmp k.index k.blocks k.data_blocks in
    let all = name_all cmp bytes None None named k.index k.blocks total k.index_entries d.read d.fits in
    subst (λ (y : Contents). Indexes cmp y.bytes named y.entries) (sym (contents_are cmp bytes k.blocks (blocks_are cmp bytes named smallest largest k)) ∙ e)
    (record {
      some = some_named named k.index_entries d.some;
      named = all.each;
      keys_rise = all.keys_rise;
      whole = all.whole;
      rising = rising cmp None (entries_of k.blocks) total (all_tests cmp None k.index k.blocks d.read);
    })
  where
    some_named : (es : List Entry) → index_reading bytes es ≡ Ok k.index → is_some_list k.index ≡ true → 0 < length es
    some_named [] h some = let none : [] ≡ k.index = ok_is [] k.index h in absurd cc
    some_named (e ∷ es) h some = omega arith

-- the keys of the index block are those of the index
pub users_named : (bytes : List ℕ) (es : List Entry) (index : List IndexEntry) → index_reading bytes es ≡ Ok index → map (λ (e : Entry). user_of e.key) es ≡ users_of index
users_named bytes [] index h = ap users_of (ok_is [] index h)
users_named bytes (e ∷ es) index h =
    let a = bind_ok (index_entry bytes e) (λ x. index_reading bytes es >>= λ xs. Ok (x ∷ xs)) index h in
    let c = bind_ok (index_reading bytes es) (λ xs. Ok (a.0 ∷ xs)) index a.2 in
    let read = reads bytes e a.0 a.1 in
    ap (λ (k : List ℕ). user_of k ∷ map (λ (x : Entry). user_of x.key) es) read.same
    ∙ ap (λ (us : List (List ℕ)). user_of a.0.key ∷ us) (users_named bytes es c.0 c.1)
    ∙ ap users_of (ok_is (a.0 ∷ c.0) index c.2)

-- the user keys of the first entry and of those after it
pub users_go_on : (front : List (List ℕ)) (es : List Entry) (key user : List ℕ) (total : List (List ℕ)) → 0 < length es → option_map (λ e. e.key) (slice_get es 0) ≡ Some key → user ≡ user_of key
    → front ++ map (λ (e : Entry). user_of e.key) es ≡ total → (front ++ user ∷ []) ++ map (λ (e : Entry). user_of e.key) (drop 1 es) ≡ total
users_go_on front [] key user total some first u h = absurd (omega arith)
users_go_on front (e ∷ es) key user total some first u h =
    let same : e.key ≡ key = same_Some e.key key first in
    append_assoc front (user ∷ []) (map (λ (x : Entry). user_of x.key) es)
    ∙ ap (λ (v : List ℕ). front ++ v ∷ map (λ (x : Entry). user_of x.key) es) (u ∙ ap user_of (sym same))
    ∙ h

-- ---- how the block is found again

-- what is found on the way to a block that an index names
record Found (bytes value : List ℕ) : Type 0 where
  handle : BlockHandle
  stored : List ℕ
  contents : List ℕ
  entries : List Entry
  spelled : one_handle (handle_reading value) ≡ Ok handle
  place : stored_at bytes handle ≡ Ok stored
  tests : stored_reading stored ≡ Ok contents
  block : block_reading contents ≡ Ok entries
  whole : block_named bytes value ≡ Ok entries

found : (bytes value : List ℕ) → IsOk (block_named bytes value) → Found bytes value
found bytes value h = of_reading (block_named bytes value) refl h
  where
    of_reading : (r : Result (List Entry) Fault) → block_named bytes value ≡ r → IsOk r → Found bytes value
    of_reading (Ok q) e ok =
        let a = bind_ok (one_handle (handle_reading value)) (λ handle. stored_at bytes handle >>= λ there. block_in there) q (sym (block_named-by bytes value) ∙ e) in
        let b = bind_ok (stored_at bytes a.0) (λ there. block_in there) q a.2 in
        let d = bind_ok (stored_reading b.0) block_reading q b.2 in
        record { handle = a.0; stored = b.0; contents = d.0; entries = q; spelled = a.1; place = b.1; tests = d.1; block = d.2; whole = e }
    of_reading (Err d) e ok = absurd cc

-- the handle that is read there
same_handle : (bytes value : List ℕ) (f : Found bytes value) (o : HandleBehind) → handle_reading value ≡ Some o → o.handle ≡ f.handle
same_handle bytes value f o h = alone o.rest (sym (ap one_handle h) ∙ f.spelled)
  where
    alone : (rest : List ℕ) → handle_alone o.handle rest ≡ Ok f.handle → o.handle ≡ f.handle
    alone [] e = ok_is o.handle f.handle e
    alone (b ∷ rest) e = absurd cc

pub some_handle : (bytes value : List ℕ) → IsOk (block_named bytes value) → handle_reading value ≡ None → ⊥
some_handle bytes value h none =
    let f = found bytes value h in
    let no : one_handle None ≡ Ok f.handle = sym (ap one_handle none) ∙ f.spelled in
    absurd cc

pub some_stored : (bytes value : List ℕ) (o : HandleBehind) (d : Fault) → IsOk (block_named bytes value) → handle_reading value ≡ Some o → stored_at bytes o.handle ≡ Err d → ⊥
some_stored bytes value o d h e refused =
    let f = found bytes value h in
    let no : Err d ≡ done f.stored = sym refused ∙ ap (stored_at bytes) (same_handle bytes value f o e) ∙ f.place in
    absurd cc

-- the stored block that is found there
pub record Stands (bytes value stored : List ℕ) : Type 0 where
  pub contents : List ℕ
  pub entries : List Entry
  pub tests : stored_reading stored ≡ Ok contents
  pub block : IsBlock contents entries
  pub whole : block_named bytes value ≡ Ok entries

pub stands : (bytes value stored : List ℕ) (o : HandleBehind) → IsOk (block_named bytes value) → handle_reading value ≡ Some o → stored_at bytes o.handle ≡ Ok stored → Stands bytes value stored
stands bytes value stored o h e place =
    let f = found bytes value h in
    let same : f.stored ≡ stored = ok_is f.stored stored (sym f.place ∙ ap (stored_at bytes) (sym (same_handle bytes value f o e)) ∙ place) in
    subst (Stands bytes value) same (record { contents = f.contents; entries = f.entries; tests = f.tests; block = reads_blocks.found f.contents f.entries f.block; whole = f.whole })

-- ---- what is left of it all

-- the entries from an internal key on, if these are what is left of a block from there on
abbrev pub from_left : (List ℕ → List ℕ → Ordering) → List ℕ → List Entry → List Entry → List Entry
from_left cmp target [] ahead = entries_from cmp target ahead
from_left cmp target (e ∷ es) ahead = e ∷ (es ++ ahead)

pub from_append : (cmp : List ℕ → List ℕ → Ordering) (target : List ℕ) (es ahead : List Entry) → entries_from cmp target (es ++ ahead) ≡ from_left cmp target (entries_from cmp target es) ahead
from_append cmp target [] ahead = refl
from_append cmp target (e ∷ es) ahead = by_test (is_lt (internal_cmp cmp e.key target)) (from_append cmp target es ahead)
  where
    by_test : (b : Bool) → entries_from cmp target (es ++ ahead) ≡ from_left cmp target (entries_from cmp target es) ahead
        → cond b (entries_from cmp target (es ++ ahead)) (e ∷ (es ++ ahead)) ≡ from_left cmp target (cond b (entries_from cmp target es) (e ∷ es)) ahead
    by_test true more = more
    by_test false more = refl

-- a block whose index key is below the internal key is below it whole
pub passed_over : (cmp : List ℕ → List ℕ → Ordering) (bytes target : List ℕ) (i : Entry) (ahead : List Entry) → IsTotalOrder cmp → NamesBlock cmp bytes i → internal_cmp cmp i.key target ≡ Less → entries_from cmp target (entries_named bytes i ++ ahead) ≡ entries_from cmp target ahead
passed_over cmp bytes target i ahead total n lt = of_entries (entries_named bytes i) n.within
  where
    of_entries : (es : List Entry) → AllByRecursion (λ e. is_le (internal_cmp cmp e.key i.key) ≡ true) es → entries_from cmp target (es ++ ahead) ≡ entries_from cmp target ahead
    of_entries [] h = refl
    of_entries (e ∷ es) h =
        let below : internal_cmp cmp e.key target ≡ Less = le_lt_trans (internal_cmp-total total) e.key i.key target h.0 lt in
        ap (λ (o : Ordering). cond (is_lt o) (entries_from cmp target (es ++ ahead)) (e ∷ (es ++ ahead))) below ∙ of_entries es h.1

pub keys_from : (cmp : List ℕ → List ℕ → Ordering) (target : List ℕ) (q : List Entry) → HaveKeys q → HaveKeys (entries_from cmp target q)
keys_from cmp target [] h = tt
keys_from cmp target (e ∷ es) h = by_test (is_lt (internal_cmp cmp e.key target)) (keys_from cmp target es h.1)
  where
    by_test : (b : Bool) → HaveKeys (entries_from cmp target es) → HaveKeys (cond b (entries_from cmp target es) (e ∷ es))
    by_test true more = more
    by_test false more = h

-- the entries from an internal key on are all but the first n
from_drops : (cmp : List ℕ → List ℕ → Ordering) (target : List ℕ) (q : List Entry) → (n : ℕ) × (entries_from cmp target q ≡ drop n q)
from_drops cmp target [] = (0, refl)
from_drops cmp target (e ∷ es) = by_test (is_lt (internal_cmp cmp e.key target)) (from_drops cmp target es)
  where
    by_test : (b : Bool) → (n : ℕ) × (entries_from cmp target es ≡ drop n es) → (n : ℕ) × (cond b (entries_from cmp target es) (e ∷ es) ≡ drop n (e ∷ es))
    by_test true more = (suc more.0, more.1)
    by_test false more = (0, refl)

-- ---- a walk within a table

-- What is left of a block from an internal key on, and the index after it, if the entries from there on are these.
pub record Seeks (cmp : List ℕ → List ℕ → Ordering) (bytes target : List ℕ) (block index total : List Entry) : Type 0 where
  pub keys : HaveKeys block
  pub named : AllByRecursion (NamesBlock cmp bytes) index
  pub reached : from_left cmp target block (all_named bytes index) ≡ total

-- blocks whose index keys are below the internal key are passed over
pub names_from : (cmp : List ℕ → List ℕ → Ordering) (bytes target : List ℕ) (names : List Entry) → IsTotalOrder cmp → AllByRecursion (NamesBlock cmp bytes) names
    → AllByRecursion (NamesBlock cmp bytes) (entries_from cmp target names) × (entries_from cmp target (all_named bytes (entries_from cmp target names)) ≡ entries_from cmp target (all_named bytes names))
names_from cmp bytes target [] total h = (tt, refl)
names_from cmp bytes target (i ∷ is) total h = by_order (internal_cmp cmp i.key target) refl (names_from cmp bytes target is total h.1)
  where
    by_order : (o : Ordering) → internal_cmp cmp i.key target ≡ o
        → AllByRecursion (NamesBlock cmp bytes) (entries_from cmp target is) × (entries_from cmp target (all_named bytes (entries_from cmp target is)) ≡ entries_from cmp target (all_named bytes is))
        → AllByRecursion (NamesBlock cmp bytes) (cond (is_lt o) (entries_from cmp target is) (i ∷ is)) × (entries_from cmp target (all_named bytes (cond (is_lt o) (entries_from cmp target is) (i ∷ is))) ≡ entries_from cmp target (all_named bytes (i ∷ is)))
    by_order Less e more = (more.0, more.1 ∙ sym (passed_over cmp bytes target i (all_named bytes is) total h.0 e))
    by_order Equal e more = (h, refl)
    by_order Greater e more = (h, refl)

pub seek_begins : (cmp : List ℕ → List ℕ → Ordering) (bytes target : List ℕ) (names block index total : List Entry) → IsTotalOrder cmp → IsWalkLeft cmp bytes names block index → block ++ all_named bytes index ≡ total → first_is_below cmp target total ≡ true
    → Seeks cmp bytes target [] (entries_from cmp target names) (entries_from cmp target total)
seek_begins cmp bytes target names block index total laws k same below =
    let left : total ≡ drop k.passed (all_named bytes names) = sym same ∙ k.behind in
    let ahead = names_from cmp bytes target names laws k.all.named in
    record {
      keys = tt;
      named = ahead.0;
      reached =
          ahead.1
          ∙ sym (from_place cmp target (all_named bytes names) k.passed laws k.all.rising (sym (ap (first_is_below cmp target) left) ∙ below))
          ∙ sym (ap (entries_from cmp target) left);
    }

-- the first of the index, if nothing is left of the block
record Next (cmp : List ℕ → List ℕ → Ordering) (bytes target : List ℕ) (i : Entry) (is total : List Entry) : Type 0 where
  first : NamesBlock cmp bytes i
  behind : AllByRecursion (NamesBlock cmp bytes) is
  reached : entries_from cmp target (entries_named bytes i ++ all_named bytes is) ≡ total

next : (cmp : List ℕ → List ℕ → Ordering) (bytes target : List ℕ) (block : List Entry) (i : Entry) (is total : List Entry) → Seeks cmp bytes target block (i ∷ is) total → length block ≡ 0 → Next cmp bytes target i is total
next cmp bytes target block i is total k none = record {
  first = k.named.0;
  behind = k.named.1;
  reached = sym (ap (λ (b : List Entry). from_left cmp target b (all_named bytes (i ∷ is))) (nil_from_length block none)) ∙ k.reached;
}

-- its block is walked
pub seek_enters : (cmp : List ℕ → List ℕ → Ordering) (bytes target : List ℕ) (block index total : List Entry) (value : List ℕ) (q : List Entry) → Seeks cmp bytes target block index total → length block ≡ 0
    → option_map (λ e. e.value) (slice_get index 0) ≡ Some value → block_named bytes value ≡ Ok q → Seeks cmp bytes target (entries_from cmp target q) (drop 1 index) total
seek_enters cmp bytes target block [] total value q k none first h = absurd (none-some value first)
seek_enters cmp bytes target block (i ∷ is) total value q k none first h =
    let n = next cmp bytes target block i is total k none in
    let here : entries_named bytes i ≡ q = named_entries bytes i q (ap (block_named bytes) (same_Some i.value value first) ∙ h) in
    subst (λ (es : List Entry). Seeks cmp bytes target (entries_from cmp target es) is total) here (record {
      keys = keys_from cmp target (entries_named bytes i) n.first.keys;
      named = n.behind;
      reached = sym (from_append cmp target (entries_named bytes i) (all_named bytes is)) ∙ n.reached;
    })

-- the entries from there on are reached
pub seek_ends : (cmp : List ℕ → List ℕ → Ordering) (bytes target : List ℕ) (block index total : List Entry) → Seeks cmp bytes target block index total → (block ≡ [] → index ≡ []) → block ++ all_named bytes index ≡ total
seek_ends cmp bytes target block index total k ended = of_block block ended k.reached
  where
    of_block : (block : List Entry) → (block ≡ [] → index ≡ []) → from_left cmp target block (all_named bytes index) ≡ total → block ++ all_named bytes index ≡ total
    of_block [] ended h =
        let none : index ≡ [] = ended refl in
        ap (all_named bytes) none ∙ sym (ap (λ (q : List Entry). entries_from cmp target (all_named bytes q)) none) ∙ h
    of_block (e ∷ es) ended h = h

pub seek_leaves : (cmp : List ℕ → List ℕ → Ordering) (bytes target : List ℕ) (names old_block old_index block index total : List Entry) → IsWalkLeft cmp bytes names old_block old_index → old_block ++ all_named bytes old_index ≡ total
    → Seeks cmp bytes target block index (entries_from cmp target total) → (block ≡ [] → index ≡ []) → IsWalkLeft cmp bytes names block index
seek_leaves cmp bytes target names old_block old_index block index total old same k ended =
    let more = from_drops cmp target total in
    record {
      all = old.all;
      keys = k.keys;
      named = k.named;
      passed = old.passed + more.0;
      behind = seek_ends cmp bytes target block index (entries_from cmp target total) k ended ∙ more.1 ∙ ap (drop more.0) (sym same ∙ old.behind) ∙ drop-drop more.0 old.passed (all_named bytes names);
      ended = ended;
    }

-- ---- the walk's other facts

drop_rises : (cmp : List ℕ → List ℕ → Ordering) (n : ℕ) (q : List Entry) → EntriesRise cmp q → EntriesRise cmp (drop n q)
drop_rises cmp zero q h = h
drop_rises cmp (suc n) [] h = tt
drop_rises cmp (suc n) (e ∷ q) h = drop_rises cmp n q h.1

-- what is left rises
pub left_rises : (cmp : List ℕ → List ℕ → Ordering) (bytes : List ℕ) (names block index total : List Entry) → IsWalkLeft cmp bytes names block index → block ++ all_named bytes index ≡ total → EntriesRise cmp total
left_rises cmp bytes names block index total k same = subst (EntriesRise cmp) (sym k.behind ∙ same) (drop_rises cmp k.passed (all_named bytes names) k.all.rising)

-- the first of these entries of the index names a data block
pub first_named : (cmp : List ℕ → List ℕ → Ordering) (bytes : List ℕ) (index : List Entry) (value : List ℕ) → AllByRecursion (NamesBlock cmp bytes) index → option_map (λ e. e.value) (slice_get index 0) ≡ Some value → IsOk (block_named bytes value)
first_named cmp bytes [] value h first = absurd (none-some value first)
first_named cmp bytes (i ∷ is) value h first =
    subst (λ (v : List ℕ). IsOk (block_named bytes v)) (same_Some i.value value first) (subst (λ (r : Result (List Entry) Fault). IsOk r) (sym h.0.block) refl)

pub first_data : (cmp : List ℕ → List ℕ → Ordering) (bytes : List ℕ) (index : List Entry) (value : List ℕ) (q : List Entry) → AllByRecursion (NamesBlock cmp bytes) index → option_map (λ e. e.value) (slice_get index 0) ≡ Some value → block_named bytes value ≡ Ok q → HaveKeys q × EntriesRise cmp q
first_data cmp bytes [] value q h first named = absurd (none-some value first)
first_data cmp bytes (i ∷ is) value q h first named =
    let here : entries_named bytes i ≡ q = named_entries bytes i q (ap (block_named bytes) (same_Some i.value value first) ∙ named) in
    (subst HaveKeys here h.0.keys, subst (EntriesRise cmp) here h.0.rising)

-- an entry is taken off
left_behind : (cmp : List ℕ → List ℕ → Ordering) (bytes : List ℕ) (names block index : List Entry) → IsWalkLeft cmp bytes names block index → 0 < length block → (drop 1 block ≡ [] → index ≡ []) → IsWalkLeft cmp bytes names (drop 1 block) index
left_behind cmp bytes names [] index k some ended = absurd (omega arith)
left_behind cmp bytes names (e ∷ es) index k some ended = record {
  all = k.all;
  keys = k.keys.1;
  named = k.named;
  passed = k.passed + 1;
  behind = ap (drop 1) k.behind ∙ drop-drop 1 k.passed (all_named bytes names);
  ended = ended;
}

-- and none if that is refused
pub left_advanced : {T E : Type 0} (cmp : List ℕ → List ℕ → Ordering) (bytes : List ℕ) (names block index new : List Entry) (r : Result T E) → IsWalkLeft cmp bytes names block index → 0 < length block → (drop 1 block ≡ [] → index ≡ [])
    → OnOk r (new ≡ drop 1 block) → OnErr r (new ≡ block) → IsWalkLeft cmp bytes names new index
left_advanced cmp bytes names block index new (Ok x) k some ended ok err = subst (λ (b : List Entry). IsWalkLeft cmp bytes names b index) (sym ok) (left_behind cmp bytes names block index k some ended)
left_advanced cmp bytes names block index new (Err e) k some ended ok err = subst (λ (b : List Entry). IsWalkLeft cmp bytes names b index) (sym err) k

-- something is left of a block if something is left at all
pub some_left : (cmp : List ℕ → List ℕ → Ordering) (bytes : List ℕ) (names block index total : List Entry) → IsWalkLeft cmp bytes names block index → block ++ all_named bytes index ≡ total → 0 < length total → 0 < length block
some_left cmp bytes names [] index total k same some =
    let none : all_named bytes index ≡ [] = ap (all_named bytes) (k.ended refl) in
    absurd (omega (arith, ap length none, ap length same))
some_left cmp bytes names (e ∷ es) index total k same some = omega arith

-- after an entry that is not the last another is left
pub not_last : (b : Bool) (block : List Entry) → (length block ≡ 1 → b ≡ true) → b ≡ false → 0 < length block → drop 1 block ≡ [] → ⊥
not_last b [] last h some none = omega arith
not_last b (e ∷ es) last h some none = true≢false (sym (last (ap (λ (q : List Entry). suc (length q)) none)) ∙ h)

-- the last entry of a block is taken off, and the next block is entered
pub left_enters : (cmp : List ℕ → List ℕ → Ordering) (bytes : List ℕ) (names block index : List Entry) (value : List ℕ) (q : List Entry) → IsWalkLeft cmp bytes names block index → length block ≡ 1 → option_map (λ e. e.value) (slice_get index 0) ≡ Some value → block_named bytes value ≡ Ok q → IsWalkLeft cmp bytes names q (drop 1 index)
left_enters cmp bytes names block [] value q k one first named = absurd (none-some value first)
left_enters cmp bytes names [] (i ∷ is) value q k one first named = absurd (omega (arith, one))
left_enters cmp bytes names (e ∷ f ∷ es) (i ∷ is) value q k one first named = absurd (omega (arith, one))
left_enters cmp bytes names (e ∷ []) (i ∷ is) value q k one first named =
    let here : entries_named bytes i ≡ q = named_entries bytes i q (ap (block_named bytes) (same_Some i.value value first) ∙ named) in
    record {
      all = k.all;
      keys = subst HaveKeys here k.named.0.keys;
      named = k.named.1;
      passed = k.passed + 1;
      behind = ap (λ (b : List Entry). b ++ all_named bytes is) (sym here) ∙ ap (drop 1) k.behind ∙ drop-drop 1 k.passed (all_named bytes names);
      ended = λ none. absurd (omega (arith, k.named.0.some, ap length here, ap length none));
    }

-- all of a table is left
pub left_all : (cmp : List ℕ → List ℕ → Ordering) (bytes : List ℕ) (names entries : List Entry) (value : List ℕ) (q : List Entry) → Indexes cmp bytes names entries → option_map (λ e. e.value) (slice_get names 0) ≡ Some value → block_named bytes value ≡ Ok q → IsWalkLeft cmp bytes names q (drop 1 names)
left_all cmp bytes [] entries value q x first h = absurd (none-some value first)
left_all cmp bytes (i ∷ is) entries value q x first h =
    let here : entries_named bytes i ≡ q = named_entries bytes i q (ap (block_named bytes) (same_Some i.value value first) ∙ h) in
    record {
      all = record { some = x.some; named = x.named; keys_rise = x.keys_rise; whole = refl; rising = subst (EntriesRise cmp) (sym x.whole) x.rising };
      keys = subst HaveKeys here x.named.0.keys;
      named = x.named.1;
      passed = 0;
      behind = ap (λ (b : List Entry). b ++ all_named bytes is) (sym here);
      ended = λ none. absurd (omega (arith, x.named.0.some, ap length here, ap length none));
    }

pub named_keys : (cmp : List ℕ → List ℕ → Ordering) (bytes : List ℕ) (index : List Entry) → AllByRecursion (NamesBlock cmp bytes) index → HaveKeys index
named_keys cmp bytes [] h = tt
named_keys cmp bytes (i ∷ is) h = (h.0.key, named_keys cmp bytes is h.1)

pub none_valid : (b : Bool) (q : List Entry) → (0 < length q → b ≡ true) → b ≡ false → length q ≡ 0
none_valid b [] some h = refl
none_valid b (e ∷ q) some h = let yes : b ≡ true = some (omega arith) in absurd cc

pub some_valid : (b : Bool) (q : List Entry) → (b ≡ true → 0 < length q) → b ≡ true → q ≡ [] → ⊥
some_valid b q some h none = omega (arith, some h, ap length none)

-- the keys of the entries after the first
pub keys_behind : (es : List Entry) → HaveKeys es → HaveKeys (drop 1 es)
keys_behind [] h = tt
keys_behind (e ∷ es) h = h.1
