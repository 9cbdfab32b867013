-- The data blocks of a table, one after the other.
use Rattle.std.proofs.Common.{◌≡◌, ℕ, Bool, true, false, ◌&&◌, not, List, [], ◌∷◌, ◌++◌, Option, Some, None, Result, Ok, Err, refl, sym, ap, subst, ◌∙◌}
use Rattle.std.specs.Result.{result_map_both}
use Rattle.std.specs.Ordering.{is_gt}
use Rattle.std.specs.declared.cmp.Ordering.{Ordering}
use Rattle.coding.specs.Answers.{◌>>=◌}
use Rattle.coding.specs.declared.fault.Fault.{Fault}
use Rattle.coding.specs.declared.fault.FaultName.TheVariants.{Index}
use Rattle.coding.proofs.Binds.{done, failed, bind_ok, ok_is}
use Rattle.block.specs.EncodedEntry.{Entry}
use Rattle.block.specs.BuilderView.{last_key}
use Rattle.ikey.specs.Order.{internal_cmp}
use Rattle.table.specs.TestResult.{test_result}
use Rattle.table.specs.EntryTests.{first_key, last_key_after, is_above, data_test}
use Rattle.table.specs.BoundsReading.{bounds_reading, bounds_of}
use Rattle.table.specs.TallySteps.{tally_of_none, tally_after}
use Rattle.table.specs.declared.bounds.Bounds.{Bounds}
use Rattle.table.specs.declared.tally.Tally.{Tally}
use Rattle.table.specs.IndexReading.{IndexEntry, block_in}
use Rattle.table.specs.TableContents.{DataBlock, blocks_reading, is_between_index_keys, index_fits, data_reading, entries_of}
use Rattle.table.proofs.Tallies.{tally-append, tally_is}

pub last_key-append : (before : List ℕ) (es fs : List Entry) → last_key before (es ++ fs) ≡ last_key (last_key before es) fs
last_key-append before [] fs = refl
last_key-append before (e ∷ es) fs = last_key-append e.key es fs

-- what is known of a data block that passed
pub record Stands (cmp : List ℕ → List ℕ → Ordering) (before : Option (List ℕ)) (so_far : Tally) (q : List Entry) (x : Bounds) : Type 0 where
  pub tests : data_test cmp before q ≡ Ok tt
  pub bounds : record { smallest = first_key q; largest = last_key [] q; tally = tally_after so_far before q } ≡ x

pub stands : (cmp : List ℕ → List ℕ → Ordering) (before : Option (List ℕ)) (so_far : Tally) (q : List Entry) (x : Bounds) → bounds_reading cmp before so_far q ≡ Ok x → Stands cmp before so_far q x
stands cmp before so_far q x h =
    let a = bind_ok (data_test cmp before q) (λ _. done (record { smallest = first_key q; largest = last_key [] q; tally = tally_after so_far before q })) x h in
    record { tests = a.1; bounds = ok_is _ _ a.2 }

bind_done : {A B : Type 0} (r : Result A Fault) (y : B) (d : Fault) → (r >>= λ _. done y) ≡ Err d → r ≡ Err d
bind_done (Ok x) y d h = absurd cc
bind_done {A} (Err e) y d h = ap (λ (x : Fault). let f : Result A Fault = Err x in f) (let same : e ≡ d = cc in same)

-- ---- all of them, and those that are left

-- the bounds of all data blocks
abbrev pub all_bounds : (List ℕ → List ℕ → Ordering) → List IndexEntry → Result Bounds Fault
all_bounds cmp index = result_map_both bounds_of (λ e. e) (data_reading cmp index)

abbrev finished : Bool → Bounds → Result Bounds Fault
finished fits x = test_result fits Index >>= λ _. Ok x

-- the bounds of entries and of those after them
abbrev pub bounds_behind : Bounds → List Entry → Bounds
bounds_behind x es = record { smallest = x.smallest; largest = last_key x.largest es; tally = tally_after x.tally (Some x.largest) es }

-- those of all data blocks, if these are of the blocks so far, this is their last index key, and
-- all index keys before fit or don't
abbrev pub rest_bounds : (List ℕ → List ℕ → Ordering) → Bounds → List ℕ → Bool → List IndexEntry → Result Bounds Fault
rest_bounds cmp x below fits index =
    blocks_reading cmp (Some x.largest) index >>= λ bs. finished (fits && index_fits cmp (Some below) bs) (bounds_behind x (entries_of bs))

turned : (f a b : Bool) → (f && (a && b)) ≡ ((a && f) && b)
turned true true b = refl
turned true false b = refl
turned false true b = refl
turned false false b = refl

-- the bounds of the entries of a block
abbrev bounds_with : List ℕ → Tally → Option (List ℕ) → Entry → List Entry → Bounds
bounds_with smallest so_far before e es = record { smallest = smallest; largest = last_key e.key es; tally = tally_after so_far before (e ∷ es) }

behind_with : (smallest : List ℕ) (so_far : Tally) (before : Option (List ℕ)) (e : Entry) (es fs : List Entry) → bounds_behind (bounds_with smallest so_far before e es) fs ≡ record { smallest = smallest; largest = last_key e.key (es ++ fs); tally = tally_after so_far before (e ∷ (es ++ fs)) }
behind_with smallest so_far before e es fs =
    ap (λ (k : List ℕ). let x : Bounds = record { smallest = smallest; largest = k; tally = tally_after (tally_after so_far before (e ∷ es)) (Some (last_key e.key es)) fs } in x) (sym (last_key-append e.key es fs))
    ∙ ap (λ (t : Tally). let x : Bounds = record { smallest = smallest; largest = last_key e.key (es ++ fs); tally = t } in x) (sym (tally-append so_far before (e ∷ es) fs))

-- one more block, by what is read of those after it
more_by : (cmp : List ℕ → List ℕ → Ordering) (x : Bounds) (below : List ℕ) (fits : Bool) (key : List ℕ) (e : Entry) (es : List Entry) (r : Result (List DataBlock) Fault) → let b : DataBlock = record { index_key = key; entries = e ∷ es } in
    (r >>= λ bs. finished ((is_between_index_keys cmp (Some below) b && fits) && index_fits cmp (Some key) bs) (bounds_behind (bounds_with x.smallest x.tally (Some x.largest) e es) (entries_of bs)))
    ≡ ((r >>= λ bs. Ok (b ∷ bs)) >>= λ bs. finished (fits && index_fits cmp (Some below) bs) (bounds_behind x (entries_of bs)))
more_by cmp x below fits key e es (Err d) = refl
more_by cmp x below fits key e es (Ok bs) =
    let b : DataBlock = record { index_key = key; entries = e ∷ es } in
    ap (λ (t : Bool). finished t (bounds_behind (bounds_with x.smallest x.tally (Some x.largest) e es) (entries_of bs))) (sym (turned fits (is_between_index_keys cmp (Some below) b) (index_fits cmp (Some key) bs)))
    ∙ ap (finished (fits && index_fits cmp (Some below) (b ∷ bs))) (behind_with x.smallest x.tally (Some x.largest) e es (entries_of bs))

first_by : (cmp : List ℕ → List ℕ → Ordering) (key : List ℕ) (e : Entry) (es : List Entry) (r : Result (List DataBlock) Fault) → let b : DataBlock = record { index_key = key; entries = e ∷ es } in
    (r >>= λ bs. finished (is_between_index_keys cmp None b && index_fits cmp (Some key) bs) (bounds_behind (bounds_with e.key tally_of_none None e es) (entries_of bs)))
    ≡ result_map_both bounds_of (λ f. f) ((r >>= λ bs. Ok (b ∷ bs)) >>= λ bs. test_result (index_fits cmp None bs) Index >>= λ _. Ok bs)
first_by cmp key e es (Err d) = refl
first_by cmp key e es (Ok bs) =
    let b : DataBlock = record { index_key = key; entries = e ∷ es } in
    ap (finished (index_fits cmp None (b ∷ bs))) (behind_with e.key tally_of_none None e es (entries_of bs) ∙ ap (λ (t : Tally). let x : Bounds = record { smallest = e.key; largest = last_key e.key (es ++ entries_of bs); tally = t } in x) (tally_is (e ∷ (es ++ entries_of bs))))
    ∙ by (index_fits cmp None (b ∷ bs))
  where
    by : (t : Bool) → finished t (bounds_of (record { index_key = key; entries = e ∷ es } ∷ bs)) ≡ result_map_both bounds_of (λ f. f) (test_result t Index >>= λ _. done (record { index_key = key; entries = e ∷ es } ∷ bs))
    by true = refl
    by false = refl

-- the reading of blocks whose first one passes
first_read : (cmp : List ℕ → List ℕ → Ordering) (before : Option (List ℕ)) (i : IndexEntry) (is : List IndexEntry) (q : List Entry) → block_in i.stored ≡ Ok q → data_test cmp before q ≡ Ok tt
    → blocks_reading cmp before (i ∷ is) ≡ (blocks_reading cmp (last_key_after before q) is >>= λ bs. Ok (record { index_key = i.key; entries = q } ∷ bs))
first_read cmp before i is q e t =
    ap (λ (r : Result (List Entry) Fault). r >>= λ entries. data_test cmp before entries >>= λ _. blocks_reading cmp (last_key_after before entries) is >>= λ bs. Ok (record { index_key = i.key; entries = entries } ∷ bs)) e
    ∙ ap (λ (r : Result (Unit {0}) Fault). r >>= λ _. blocks_reading cmp (last_key_after before q) is >>= λ bs. Ok (record { index_key = i.key; entries = q } ∷ bs)) t

pub blocks_go_on : (cmp : List ℕ → List ℕ → Ordering) (x : Bounds) (below : List ℕ) (fits : Bool) (i : IndexEntry) (is : List IndexEntry) (q : List Entry) (y : Bounds) → block_in i.stored ≡ Ok q → Stands cmp (Some x.largest) x.tally q y
    → rest_bounds cmp (record { smallest = x.smallest; largest = y.largest; tally = y.tally }) i.key ((is_above cmp (Some below) y.smallest && not (is_gt (internal_cmp cmp y.largest i.key))) && fits) is ≡ rest_bounds cmp x below fits (i ∷ is)
blocks_go_on cmp x below fits i is q y e s =
    subst (λ (z : Bounds). rest_bounds cmp (record { smallest = x.smallest; largest = z.largest; tally = z.tally }) i.key ((is_above cmp (Some below) z.smallest && not (is_gt (internal_cmp cmp z.largest i.key))) && fits) is ≡ rest_bounds cmp x below fits (i ∷ is)) s.bounds (of_block q e s.tests)
  where
    of_block : (q : List Entry) → block_in i.stored ≡ Ok q → data_test cmp (Some x.largest) q ≡ Ok tt
        → rest_bounds cmp (record { smallest = x.smallest; largest = last_key [] q; tally = tally_after x.tally (Some x.largest) q }) i.key ((is_above cmp (Some below) (first_key q) && not (is_gt (internal_cmp cmp (last_key [] q) i.key))) && fits) is ≡ rest_bounds cmp x below fits (i ∷ is)
    of_block [] e t = absurd cc
    of_block (f ∷ fs) e t =
        more_by cmp x below fits i.key f fs (blocks_reading cmp (Some (last_key f.key fs)) is)
        ∙ sym (ap (λ (r : Result (List DataBlock) Fault). r >>= λ bs. finished (fits && index_fits cmp (Some below) bs) (bounds_behind x (entries_of bs))) (first_read cmp (Some x.largest) i is (f ∷ fs) e t))

pub blocks_begin : (cmp : List ℕ → List ℕ → Ordering) (i : IndexEntry) (is : List IndexEntry) (q : List Entry) (y : Bounds) → block_in i.stored ≡ Ok q → Stands cmp None tally_of_none q y
    → rest_bounds cmp y i.key (is_above cmp None y.smallest && not (is_gt (internal_cmp cmp y.largest i.key))) is ≡ all_bounds cmp (i ∷ is)
blocks_begin cmp i is q y e s =
    subst (λ (z : Bounds). rest_bounds cmp z i.key (is_above cmp None z.smallest && not (is_gt (internal_cmp cmp z.largest i.key))) is ≡ all_bounds cmp (i ∷ is)) s.bounds (of_block q e s.tests)
  where
    of_block : (q : List Entry) → block_in i.stored ≡ Ok q → data_test cmp None q ≡ Ok tt
        → rest_bounds cmp (record { smallest = first_key q; largest = last_key [] q; tally = tally_after tally_of_none None q }) i.key (is_above cmp None (first_key q) && not (is_gt (internal_cmp cmp (last_key [] q) i.key))) is ≡ all_bounds cmp (i ∷ is)
    of_block [] e t = absurd cc
    of_block (f ∷ fs) e t =
        first_by cmp i.key f fs (blocks_reading cmp (Some (last_key f.key fs)) is)
        ∙ sym (ap (λ (r : Result (List DataBlock) Fault). result_map_both bounds_of (λ f. f) (r >>= λ bs. test_result (index_fits cmp None bs) Index >>= λ _. Ok bs)) (first_read cmp None i is (f ∷ fs) e t))

-- ---- refusals

block_refused : (cmp : List ℕ → List ℕ → Ordering) (before : Option (List ℕ)) (i : IndexEntry) (is : List IndexEntry) (d : Fault) → block_in i.stored ≡ Err d → blocks_reading cmp before (i ∷ is) ≡ Err d
block_refused cmp before i is d e =
    ap (λ (r : Result (List Entry) Fault). r >>= λ entries. data_test cmp before entries >>= λ _. blocks_reading cmp (last_key_after before entries) is >>= λ bs. Ok (record { index_key = i.key; entries = entries } ∷ bs)) e

data_refused : (cmp : List ℕ → List ℕ → Ordering) (before : Option (List ℕ)) (so_far : Tally) (i : IndexEntry) (is : List IndexEntry) (q : List Entry) (d : Fault) → block_in i.stored ≡ Ok q → bounds_reading cmp before so_far q ≡ Err d → blocks_reading cmp before (i ∷ is) ≡ Err d
data_refused cmp before so_far i is q d e h =
    let t = bind_done (data_test cmp before q) (record { smallest = first_key q; largest = last_key [] q; tally = tally_after so_far before q }) d h in
    ap (λ (r : Result (List Entry) Fault). r >>= λ entries. data_test cmp before entries >>= λ _. blocks_reading cmp (last_key_after before entries) is >>= λ bs. Ok (record { index_key = i.key; entries = entries } ∷ bs)) e
    ∙ ap (λ (r : Result (Unit {0}) Fault). r >>= λ _. blocks_reading cmp (last_key_after before q) is >>= λ bs. Ok (record { index_key = i.key; entries = q } ∷ bs)) t

in_rest : (cmp : List ℕ → List ℕ → Ordering) (x : Bounds) (below : List ℕ) (fits : Bool) (index : List IndexEntry) (d : Fault) → blocks_reading cmp (Some x.largest) index ≡ Err d → rest_bounds cmp x below fits index ≡ Err d
in_rest cmp x below fits index d h = ap (λ (r : Result (List DataBlock) Fault). r >>= λ bs. finished (fits && index_fits cmp (Some below) bs) (bounds_behind x (entries_of bs))) h

in_all : (cmp : List ℕ → List ℕ → Ordering) (i : IndexEntry) (is : List IndexEntry) (d : Fault) → blocks_reading cmp None (i ∷ is) ≡ Err d → all_bounds cmp (i ∷ is) ≡ Err d
in_all cmp i is d h = ap (λ (r : Result (List DataBlock) Fault). result_map_both bounds_of (λ f. f) (r >>= λ bs. test_result (index_fits cmp None bs) Index >>= λ _. Ok bs)) h

pub first_block_refused : (cmp : List ℕ → List ℕ → Ordering) (i : IndexEntry) (is : List IndexEntry) (d : Fault) → block_in i.stored ≡ Err d → all_bounds cmp (i ∷ is) ≡ Err d
first_block_refused cmp i is d e = in_all cmp i is d (block_refused cmp None i is d e)

pub first_data_refused : (cmp : List ℕ → List ℕ → Ordering) (i : IndexEntry) (is : List IndexEntry) (q : List Entry) (d : Fault) → block_in i.stored ≡ Ok q → bounds_reading cmp None tally_of_none q ≡ Err d → all_bounds cmp (i ∷ is) ≡ Err d
first_data_refused cmp i is q d e h = in_all cmp i is d (data_refused cmp None tally_of_none i is q d e h)

pub next_block_refused : (cmp : List ℕ → List ℕ → Ordering) (x : Bounds) (below : List ℕ) (fits : Bool) (i : IndexEntry) (is : List IndexEntry) (d : Fault) → block_in i.stored ≡ Err d → rest_bounds cmp x below fits (i ∷ is) ≡ Err d
next_block_refused cmp x below fits i is d e = in_rest cmp x below fits (i ∷ is) d (block_refused cmp (Some x.largest) i is d e)

pub next_data_refused : (cmp : List ℕ → List ℕ → Ordering) (x : Bounds) (below : List ℕ) (fits : Bool) (i : IndexEntry) (is : List IndexEntry) (q : List Entry) (d : Fault) → block_in i.stored ≡ Ok q → bounds_reading cmp (Some x.largest) x.tally q ≡ Err d → rest_bounds cmp x below fits (i ∷ is) ≡ Err d
next_data_refused cmp x below fits i is q d e h = in_rest cmp x below fits (i ∷ is) d (data_refused cmp (Some x.largest) x.tally i is q d e h)

-- a data block that is refused, or one whose entries are
pub first_refused : (cmp : List ℕ → List ℕ → Ordering) (i : IndexEntry) (is : List IndexEntry) (d : Fault) → (block_in i.stored >>= bounds_reading cmp None tally_of_none) ≡ Err d → all_bounds cmp (i ∷ is) ≡ Err d
first_refused cmp i is d h = by (block_in i.stored) refl h
  where
    by : (r : Result (List Entry) Fault) → block_in i.stored ≡ r → (r >>= bounds_reading cmp None tally_of_none) ≡ Err d → all_bounds cmp (i ∷ is) ≡ Err d
    by (Ok q) e t = first_data_refused cmp i is q d e t
    by (Err f) e t = first_block_refused cmp i is d (e ∙ ap (λ (x : Fault). failed x) (let same : f ≡ d = cc in same))

pub next_refused : (cmp : List ℕ → List ℕ → Ordering) (x : Bounds) (below : List ℕ) (fits : Bool) (i : IndexEntry) (is : List IndexEntry) (d : Fault) → (block_in i.stored >>= bounds_reading cmp (Some x.largest) x.tally) ≡ Err d → rest_bounds cmp x below fits (i ∷ is) ≡ Err d
next_refused cmp x below fits i is d h = by (block_in i.stored) refl h
  where
    by : (r : Result (List Entry) Fault) → block_in i.stored ≡ r → (r >>= bounds_reading cmp (Some x.largest) x.tally) ≡ Err d → rest_bounds cmp x below fits (i ∷ is) ≡ Err d
    by (Ok q) e t = next_data_refused cmp x below fits i is q d e t
    by (Err f) e t = next_block_refused cmp x below fits i is d (e ∙ ap (λ (y : Fault). failed y) (let same : f ≡ d = cc in same))

-- at the end the index keys fit or don't
pub blocks_done : (cmp : List ℕ → List ℕ → Ordering) (x : Bounds) (below : List ℕ) (fits : Bool) → rest_bounds cmp x below fits [] ≡ finished fits x
blocks_done cmp x below true = refl
blocks_done cmp x below false = refl
