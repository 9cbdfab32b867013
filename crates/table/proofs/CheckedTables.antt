-- What is known of a table that was checked.
use Rattle.std.proofs.Common.{◌≡◌, ℕ, ◌-◌, Bool, true, false, List, [], ◌∷◌, ◌++◌, map, length, Option, Some, None, Result, Ok, Err, refl, sym, ap, subst, ◌∙◌, arith}
use Rattle.std.specs.Prelude.{slice_get, IfOk}
use Rattle.std.specs.Option.{option_map}
use Rattle.std.specs.Result.{result_map_both}
use Rattle.std.specs.declared.cmp.Ordering.{Ordering}
use Rattle.coding.specs.Answers.{EqualOrMemory, ◌>>=◌}
use Rattle.coding.specs.declared.fault.Fault.{Fault}
use Rattle.coding.specs.declared.fault.FaultName.TheVariants.{Empty, Index}
use Rattle.coding.proofs.Binds.{done, bind_ok, ok_is}
use Rattle.block.specs.EncodedEntry.{Entry}
use Rattle.block.specs.BuilderView.{last_key}
use Rattle.ikey.specs.Key.{user_of}
use Rattle.table.specs.TestResult.{test_result}
use Rattle.table.specs.EntryTests.{HaveInternalKeys, first_key, last_key_after, is_some_list, data_test}
use Rattle.table.specs.BoundsReading.{bounds_of}
use Rattle.table.specs.declared.bounds.Bounds.{Bounds}
use Rattle.table.specs.IndexReading.{IndexEntry, block_in, index_reading}
use Rattle.table.specs.TableContents.{DataBlock, blocks_reading, index_fits, data_reading, index_in, blocks_of, entries_of, Contents, contents_of, contents_reading, table_reading}
use Rattle.table.specs.CheckedContents.{contents_in}
use Rattle.table.specs.SoundTables.{HasBounds, IsChecked}
use Rattle.table.specs.TableBytes.{IsTable}
use Rattle.table.proofs.Steps.{fails_map}
use Rattle.table.proofs.DataSteps.{all_bounds}

-- ---- what it holds

pub blocks_are : (cmp : List ℕ → List ℕ → Ordering) (bytes : List ℕ) (named : List Entry) (smallest largest : List ℕ) (k : IsChecked cmp bytes named smallest largest) → blocks_of cmp bytes ≡ Ok k.blocks
unfolding blocks_of
blocks_are cmp bytes named smallest largest k =
    ap (λ (r : Result (List Entry) Fault). r >>= λ entries. index_reading bytes entries >>= λ is. data_reading cmp is) k.index_block
    ∙ ap (λ (r : Result (List IndexEntry) Fault). r >>= λ is. data_reading cmp is) k.index_entries
    ∙ k.data_blocks

pub contents_are : (cmp : List ℕ → List ℕ → Ordering) (bytes : List ℕ) (blocks : List DataBlock) → blocks_of cmp bytes ≡ Ok blocks → contents_in cmp bytes ≡ contents_of bytes blocks
contents_are cmp bytes blocks h = rw h refl

pub contents_read : (cmp : List ℕ → List ℕ → Ordering) (bytes : List ℕ) (blocks : List DataBlock) → blocks_of cmp bytes ≡ Ok blocks → contents_reading cmp bytes ≡ Ok (contents_in cmp bytes)
contents_read cmp bytes blocks h = rw h refl

-- ---- its entries

-- blocks that were read, one after the other
pub record ReadBlock (cmp : List ℕ → List ℕ → Ordering) (before : Option (List ℕ)) (i : IndexEntry) (is : List IndexEntry) (blocks : List DataBlock) : Type 0 where
  pub entries : List Entry
  pub others : List DataBlock
  pub block : block_in i.stored ≡ Ok entries
  pub tests : data_test cmp before entries ≡ Ok tt
  pub behind : blocks_reading cmp (last_key_after before entries) is ≡ Ok others
  pub same : record { index_key = i.key; entries = entries } ∷ others ≡ blocks

pub read_block : (cmp : List ℕ → List ℕ → Ordering) (before : Option (List ℕ)) (i : IndexEntry) (is : List IndexEntry) (blocks : List DataBlock) → blocks_reading cmp before (i ∷ is) ≡ Ok blocks → ReadBlock cmp before i is blocks
read_block cmp before i is blocks h =
    let a = bind_ok (block_in i.stored) _ blocks h in
    let b = bind_ok (data_test cmp before a.0) _ blocks a.2 in
    let d = bind_ok (blocks_reading cmp (last_key_after before a.0) is) (λ others. done (record { index_key = i.key; entries = a.0 } ∷ others)) blocks b.2 in
    record { entries = a.0; others = d.0; block = a.1; tests = b.1; behind = d.1; same = ok_is _ _ d.2 }

pub record HasEntry (es : List Entry) : Type 0 where
  pub first : Entry
  pub others : List Entry
  pub same : es ≡ first ∷ others

some_tested : (cmp : List ℕ → List ℕ → Ordering) (before : Option (List ℕ)) (q : List Entry) → data_test cmp before q ≡ Ok tt → HasEntry q
some_tested cmp before [] h = absurd cc
some_tested cmp before (e ∷ q) h = record { first = e; others = q; same = refl }

-- the parts of the reading of data blocks
pub record ReadData (cmp : List ℕ → List ℕ → Ordering) (index : List IndexEntry) (blocks : List DataBlock) : Type 0 where
  pub some : is_some_list index ≡ true
  pub read : blocks_reading cmp None index ≡ Ok blocks
  pub fits : index_fits cmp None blocks ≡ true

passed : (b : Bool) (x : Unit {0}) → test_result b Empty ≡ Ok x → b ≡ true
passed true x h = refl
passed false x h = absurd cc

fitted : (b : Bool) (x : Unit {0}) → test_result b Index ≡ Ok x → b ≡ true
fitted true x h = refl
fitted false x h = absurd cc

pub read_data : (cmp : List ℕ → List ℕ → Ordering) (index : List IndexEntry) (blocks : List DataBlock) → data_reading cmp index ≡ Ok blocks → ReadData cmp index blocks
read_data cmp index blocks h =
    let a = bind_ok (test_result (is_some_list index) Empty) _ blocks h in
    let b = bind_ok (blocks_reading cmp None index) _ blocks a.2 in
    let d = bind_ok (test_result (index_fits cmp None b.0) Index) (λ _. done b.0) blocks b.2 in
    let same : b.0 ≡ blocks = ok_is _ _ d.2 in
    record {
      some = passed (is_some_list index) a.0 a.1;
      read = subst (λ (bs : List DataBlock). blocks_reading cmp None index ≡ Ok bs) same b.1;
      fits = subst (λ (bs : List DataBlock). index_fits cmp None bs ≡ true) same (fitted (index_fits cmp None b.0) d.0 d.1);
    }

some_of_blocks : (cmp : List ℕ → List ℕ → Ordering) (index : List IndexEntry) (blocks : List DataBlock) → is_some_list index ≡ true → blocks_reading cmp None index ≡ Ok blocks → HasEntry (entries_of blocks)
some_of_blocks cmp [] blocks s h = absurd cc
some_of_blocks cmp (i ∷ is) blocks s h =
    let r = read_block cmp None i is blocks h in
    let t = some_tested cmp None r.entries r.tests in
    subst (λ (bs : List DataBlock). HasEntry (entries_of bs)) r.same
    (record { first = t.first; others = t.others ++ entries_of r.others; same = ap (λ (es : List Entry). es ++ entries_of r.others) t.same })

-- a table has an entry
pub some_entry : (cmp : List ℕ → List ℕ → Ordering) (index : List IndexEntry) (blocks : List DataBlock) → data_reading cmp index ≡ Ok blocks → HasEntry (entries_of blocks)
some_entry cmp index blocks h = let r = read_data cmp index blocks h in some_of_blocks cmp index blocks r.some r.read

pub first_is : (es : List Entry) → HasEntry es → option_map (λ e. e.key) (slice_get es 0) ≡ Some (first_key es)
first_is [] s = let n : [] ≡ s.first ∷ s.others = s.same in absurd cc
first_is (e ∷ es) s = refl

last_at : (e : Entry) (es : List Entry) → option_map (λ x. x.key) (slice_get (e ∷ es) (length es)) ≡ Some (last_key e.key es)
last_at e [] = refl
last_at e (f ∷ es) = last_at f es

pub last_is : (es : List Entry) → HasEntry es → option_map (λ e. e.key) (slice_get es (length es - 1)) ≡ Some (last_key [] es)
last_is [] s = let n : [] ≡ s.first ∷ s.others = s.same in absurd cc
last_is (e ∷ es) s =
    let n : length (e ∷ es) - 1 ≡ length es = omega arith in
    ap (λ (i : ℕ). option_map (λ x. x.key) (slice_get (e ∷ es) i)) n ∙ last_at e es

-- ---- the keys of its index

pub keys_kept : (cmp : List ℕ → List ℕ → Ordering) (before : Option (List ℕ)) (index : List IndexEntry) (blocks : List DataBlock) → blocks_reading cmp before index ≡ Ok blocks → map (λ b. user_of b.index_key) blocks ≡ map (λ i. user_of i.key) index
keys_kept cmp before [] blocks h = ap (λ (bs : List DataBlock). map (λ b. user_of b.index_key) bs) (sym (ok_is [] blocks h))
keys_kept cmp before (i ∷ is) blocks h =
    let r = read_block cmp before i is blocks h in
    sym (ap (λ (bs : List DataBlock). map (λ b. user_of b.index_key) bs) r.same) ∙ ap (λ (us : List (List ℕ)). user_of i.key ∷ us) (keys_kept cmp (last_key_after before r.entries) is r.others r.behind)

-- ---- what a check finds

pub blocks_by : (cmp : List ℕ → List ℕ → Ordering) (bytes : List ℕ) → blocks_of cmp bytes ≡ (index_in bytes >>= λ entries. index_reading bytes entries >>= λ index. data_reading cmp index)
unfolding blocks_of
blocks_by cmp bytes = refl

contents_refused : (cmp : List ℕ → List ℕ → Ordering) (bytes : List ℕ) (d : Fault) → blocks_of cmp bytes ≡ Err d → contents_reading cmp bytes ≡ Err d
contents_refused cmp bytes d h = ap (λ (r : Result (List DataBlock) Fault). r >>= λ blocks. done (contents_of bytes blocks)) h

pub index_refused : (cmp : List ℕ → List ℕ → Ordering) (bytes : List ℕ) (d : Fault) → index_in bytes ≡ Err d → contents_reading cmp bytes ≡ Err d
index_refused cmp bytes d h =
    contents_refused cmp bytes d (blocks_by cmp bytes ∙ ap (λ (r : Result (List Entry) Fault). r >>= λ entries. index_reading bytes entries >>= λ index. data_reading cmp index) h)

pub entries_refused : (cmp : List ℕ → List ℕ → Ordering) (bytes : List ℕ) (named : List Entry) (d : Fault) → index_in bytes ≡ Ok named → index_reading bytes named ≡ Err d → contents_reading cmp bytes ≡ Err d
entries_refused cmp bytes named d e h =
    contents_refused cmp bytes d (blocks_by cmp bytes ∙ ap (λ (r : Result (List Entry) Fault). r >>= λ entries. index_reading bytes entries >>= λ index. data_reading cmp index) e
    ∙ ap (λ (r : Result (List IndexEntry) Fault). r >>= λ index. data_reading cmp index) h)

map_err : {A B : Type 0} (f : A → B) (r : Result A Fault) (d : Fault) → result_map_both f (λ e. e) r ≡ Err d → r ≡ Err d
map_err f (Ok x) d h = absurd cc
map_err {A} f (Err e) d h = ap (λ (x : Fault). let y : Result A Fault = Err x in y) (let same : e ≡ d = cc in same)

map_ok : {A B : Type 0} (f : A → B) (r : Result A Fault) (y : B) → result_map_both f (λ e. e) r ≡ Ok y → (x : A) × (r ≡ Ok x) × (f x ≡ y)
map_ok f (Ok x) y h = (x, refl, let same : f x ≡ y = cc in same)
map_ok f (Err e) y h = absurd cc

pub bounds_refused : (cmp : List ℕ → List ℕ → Ordering) (bytes : List ℕ) (named : List Entry) (index : List IndexEntry) (d : Fault) → index_in bytes ≡ Ok named → index_reading bytes named ≡ Ok index → all_bounds cmp index ≡ Err d
    → contents_reading cmp bytes ≡ Err d
bounds_refused cmp bytes named index d e f h =
    contents_refused cmp bytes d (blocks_by cmp bytes ∙ ap (λ (r : Result (List Entry) Fault). r >>= λ entries. index_reading bytes entries >>= λ is. data_reading cmp is) e
    ∙ ap (λ (r : Result (List IndexEntry) Fault). r >>= λ is. data_reading cmp is) f ∙ map_err bounds_of (data_reading cmp index) d h)

pub checked : (cmp : List ℕ → List ℕ → Ordering) (bytes : List ℕ) (named : List Entry) (index : List IndexEntry) (x : Bounds) → index_in bytes ≡ Ok named → index_reading bytes named ≡ Ok index → all_bounds cmp index ≡ Ok x
    → ((es : List Entry) → table_reading cmp bytes ≡ Ok es → HaveInternalKeys es) → HasBounds cmp bytes named x
checked cmp bytes named index x e f h keys =
    let a = map_ok bounds_of (data_reading cmp index) x h in
    let found : IsChecked cmp bytes named x.smallest x.largest =
    record { index = index; blocks = a.0; index_block = e; index_entries = f; data_blocks = a.1; first = sym (ap (λ (y : Bounds). y.smallest) a.2); last = sym (ap (λ (y : Bounds). y.largest) a.2) } in
    record {
      checked = found;
      keys = keys (entries_of a.0) (ap (λ (r : Result (List DataBlock) Fault). r >>= λ blocks. done (entries_of blocks)) (blocks_are cmp bytes named x.smallest x.largest found));
      tally = sym (ap (λ (y : Bounds). y.tally) a.2);
    }

-- ---- the user keys of the index

abbrev pub users_of : List IndexEntry → List (List ℕ)
users_of index = map (λ i. user_of i.key) index

pub users_are : (cmp : List ℕ → List ℕ → Ordering) (bytes : List ℕ) (named : List Entry) (smallest largest : List ℕ) (k : IsChecked cmp bytes named smallest largest) → (contents_in cmp bytes).index_users ≡ users_of k.index
users_are cmp bytes named smallest largest k =
    ap (λ (x : Contents). x.index_users) (contents_are cmp bytes k.blocks (blocks_are cmp bytes named smallest largest k))
    ∙ keys_kept cmp None k.index k.blocks (read_data cmp k.index k.blocks k.data_blocks).read

-- ---- the entries and the whole of what is read

abbrev table_of : List ℕ → Result (List DataBlock) Fault → Result (List Entry) Fault
table_of bytes r = r >>= λ blocks. done (entries_of blocks)

abbrev all_of : List ℕ → Result (List DataBlock) Fault → Result Contents Fault
all_of bytes r = r >>= λ blocks. done (contents_of bytes blocks)

entries_by : (bytes : List ℕ) (r : Result (List DataBlock) Fault) (x : Contents) → all_of bytes r ≡ Ok x → table_of bytes r ≡ Ok x.entries
entries_by bytes (Ok blocks) x h = ap (λ (y : Contents). done y.entries) (ok_is (contents_of bytes blocks) x h)
entries_by bytes (Err e) x h = absurd cc

contents_by : (bytes : List ℕ) (r : Result (List DataBlock) Fault) (e : Fault) → all_of bytes r ≡ Err e → table_of bytes r ≡ Err e
contents_by bytes (Ok blocks) e h = absurd cc
contents_by bytes (Err d) e h = let same : d ≡ e = cc in ap (λ (y : Fault). let f : Result (List Entry) Fault = Err y in f) same

pub entries_read : (cmp : List ℕ → List ℕ → Ordering) (bytes : List ℕ) (x : Contents) → contents_reading cmp bytes ≡ Ok x → table_reading cmp bytes ≡ Ok x.entries
entries_read cmp bytes x h = entries_by bytes (blocks_of cmp bytes) x h

-- what is read of a table is a table
pub found_table : (cmp : List ℕ → List ℕ → Ordering) (bytes : List ℕ) (r : Result Contents Fault) → ((q : List Entry) → table_reading cmp bytes ≡ Ok q → IsTable cmp bytes q) → EqualOrMemory (λ t. t) r (contents_reading cmp bytes) → IfOk r (λ t. IsTable cmp bytes t.entries)
found_table cmp bytes (Ok x) law h = law x.entries (entries_read cmp bytes x h)
found_table cmp bytes (Err e) law h = tt

-- bytes that read as a list give that list, or Memory
pub gives_entries : (cmp : List ℕ → List ℕ → Ordering) (bytes : List ℕ) (r : Result Contents Fault) (q : List Entry) → EqualOrMemory (λ t. t) r (contents_reading cmp bytes) → table_reading cmp bytes ≡ Ok q → EqualOrMemory (λ t. t.entries) r (Ok q)
gives_entries cmp bytes (Ok x) q h e = sym e ∙ entries_read cmp bytes x h
gives_entries cmp bytes (Err d) q h e =
    fails_map d (contents_reading cmp bytes) (done q) (λ f. sym e ∙ contents_by bytes (blocks_of cmp bytes) d f) h
