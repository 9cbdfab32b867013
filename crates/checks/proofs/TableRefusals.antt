-- No refusal of a table is Device.
use Rattle.std.proofs.Common.{◌≡◌, ◌≢◌, ℕ, ◌+◌, ◌-◌, ◌^◌, ◌%◌, nat_le, nat_lt, length, drop, Bool, true, false, List, [], ◌∷◌, Option, Some, None, Result, Ok, Err, IfErr, if◌then◌else◌, subst}
use Rattle.std.specs.Option.{ok_or}
use Rattle.std.specs.declared.cmp.Ordering.{Ordering}
use Rattle.ikey.proofs.Binds.{failed}
use Rattle.ikey.specs.Answers.{◌>>=◌, fault}
use Rattle.ikey.specs.fault.Fault.{Fault}
use Rattle.ikey.specs.fault.FaultName.{FaultName}
use Rattle.ikey.specs.fault.FaultName.TheVariants.{Block, BlockType, Compressed, Device, Empty, Handle, Index, Key, Magic, Order, Range, Short, Size, TooLarge, Trailer}
use Rattle.table.specs.EncodedEntry.{Entry}
use Rattle.table.specs.BlockReading.{block_reading}
use Rattle.table.specs.Footer.{footer_reading}
use Rattle.table.specs.Handle.{HandleBehind, handle_reading}
use Rattle.table.specs.Trailer.{stored_reading}
use Rattle.table.specs.declared.handle.BlockHandle.{BlockHandle}
use Rattle.ikey.specs.Key.{internal_key_reading, tag_of}
use Rattle.table.specs.TableContents.{blocks_of, blocks_reading, contents_reading, data_reading, index_fits, index_in}
use Rattle.table.specs.EntryTests.{data_test, entries_test, entry_test, is_above, is_some_list}
use Rattle.table.specs.IndexReading.{IndexEntry, block_in, handle_alone, index_entry, index_reading, one_handle, stored_at}
use Rattle.table.specs.TestResult.{test_result}
use Rattle.checks.specs.TableReadings.{numbered_reading, tables_reading}

-- each name but Device
unfoldable pub IsOther : FaultName → Type 0
IsOther Device = ⊥
IsOther _ = Unit {0}

-- each refusal of an answer has another name
pub AllOther : {A : Type 0} → Result A Fault → Type 0
AllOther r = IfErr r (λ e. IsOther e.name)

pub value : {A : Type 0} (x : A) → AllOther (Ok x)
unfolding AllOther
value x = tt

pub named : (A : Type 0) (n : FaultName) → IsOther n → AllOther {A = A} (Err (fault n))
unfolding AllOther
named A n h = h

pub bound : {A B : Type 0} (r : Result A Fault) (f : A → Result B Fault) → AllOther r → ((x : A) → AllOther (f x)) → AllOther (r >>= f)
unfolding AllOther
bound (Ok x) f one two = two x
bound (Err e) f one two = one

pub tested : {A : Type 0} (b : Bool) (r s : Result A Fault) → AllOther r → AllOther s → AllOther (if b then r else s)
tested true r s one two = one
tested false r s one two = two

passes : (b : Bool) (n : FaultName) → IsOther n → AllOther (test_result b n)
passes b n h = tested b _ _ (value tt) (named _ n h)

-- a block
stored_other : (bytes : List ℕ) → AllOther (stored_reading bytes)
unfolding stored_reading IsOther
stored_other bytes = tested _ _ _ (named _ Trailer tt) (tested _ _ _ (named _ Compressed tt) (tested _ _ _ (named _ BlockType tt) (value _)))

block_other : (bytes : List ℕ) → AllOther (block_reading bytes)
unfolding block_reading IsOther
block_other bytes = tested _ _ _ (value _) (named _ Block tt)

pub in_other : (stored : List ℕ) → AllOther (block_in stored)
in_other stored = bound (stored_reading stored) _ (stored_other stored) block_other

at_other : (bytes : List ℕ) (handle : BlockHandle) → AllOther (stored_at bytes handle)
unfolding IsOther
at_other bytes handle = tested (nat_le (handle.offset + handle.size + 5 + 48) (length bytes)) _ _ (value _) (named _ Range tt)

-- the footer and the index
pub footer_other : (bytes : List ℕ) → AllOther (footer_reading bytes)
unfolding footer_reading IsOther
footer_other bytes = tested _ _ _ (named _ Magic tt) (by _)
  where
    by : {A : Type 0} (found : Option A) → AllOther (ok_or found (fault Handle))
    by None = named _ Handle tt
    by (Some x) = value x

index_in_other : (bytes : List ℕ) → AllOther (index_in bytes)
unfolding IsOther
index_in_other bytes =
    bound (test_result (nat_le (length bytes) (2 ^ 30)) Size) _ (passes (nat_le (length bytes) (2 ^ 30)) Size tt) (λ a.
    bound (test_result (nat_le 48 (length bytes)) Short) _ (passes (nat_le 48 (length bytes)) Short tt) (λ b.
    bound (footer_reading (drop (length bytes - 48) bytes)) _ (footer_other (drop (length bytes - 48) bytes)) (λ footer.
    bound (stored_at bytes footer.metaindex) _ (at_other bytes footer.metaindex) (λ metaindex.
    bound (stored_at bytes footer.index) _ (at_other bytes footer.index) (λ index.
    bound (block_in metaindex) _ (in_other metaindex) (λ ignored. in_other index))))))

key_other : (key : List ℕ) → AllOther (internal_key_reading key)
unfolding IsOther
key_other key =
    tested (nat_lt (length key) 8) _ _ (named _ Key tt) (tested (nat_lt 1 (tag_of key % 256)) _ _ (named _ Key tt) (tested (nat_lt (65535 + 8) (length key)) _ _ (named _ TooLarge tt) (value key)))

alone_other : (handle : BlockHandle) (rest : List ℕ) → AllOther (handle_alone handle rest)
unfolding IsOther
alone_other handle [] = value handle
alone_other handle (b ∷ rest) = named _ Handle tt

handle_other : (found : Option HandleBehind) → AllOther (one_handle found)
unfolding IsOther
handle_other None = named _ Handle tt
handle_other (Some found) = alone_other found.handle found.rest

entry_other : (bytes : List ℕ) (e : Entry) → AllOther (index_entry bytes e)
entry_other bytes e =
    bound (internal_key_reading e.key) _ (key_other e.key) (λ key.
    bound (one_handle (handle_reading e.value)) _ (handle_other _) (λ handle.
    bound (stored_at bytes handle) _ (at_other bytes handle) (λ stored. value _)))

index_other : (bytes : List ℕ) (es : List Entry) → AllOther (index_reading bytes es)
index_other bytes [] = value []
index_other bytes (e ∷ es) =
    bound (index_entry bytes e) _ (entry_other bytes e) (λ first. bound (index_reading bytes es) _ (index_other bytes es) (λ others. value _))

-- the data blocks
test_other : (cmp : List ℕ → List ℕ → Ordering) (before : Option (List ℕ)) (e : Entry) → AllOther (entry_test cmp before e)
unfolding IsOther
test_other cmp before e =
    bound (internal_key_reading e.key) _ (key_other e.key) (λ key.
    bound (test_result (nat_le (length e.value) 16777215) TooLarge) _ (passes (nat_le (length e.value) 16777215) TooLarge tt) (λ fits. passes (is_above cmp before e.key) Order tt))

tests_other : (cmp : List ℕ → List ℕ → Ordering) (before : Option (List ℕ)) (es : List Entry) → AllOther (entries_test cmp before es)
tests_other cmp before [] = value tt
tests_other cmp before (e ∷ es) = bound (entry_test cmp before e) _ (test_other cmp before e) (λ one. tests_other cmp (Some e.key) es)

data_other : (cmp : List ℕ → List ℕ → Ordering) (before : Option (List ℕ)) (es : List Entry) → AllOther (data_test cmp before es)
unfolding IsOther
data_other cmp before es = bound (test_result (is_some_list es) Empty) _ (passes (is_some_list es) Empty tt) (λ some. tests_other cmp before es)

blocks_other : (cmp : List ℕ → List ℕ → Ordering) (before : Option (List ℕ)) (is : List IndexEntry) → AllOther (blocks_reading cmp before is)
blocks_other cmp before [] = value []
blocks_other cmp before (i ∷ is) =
    bound (block_in i.stored) _ (in_other i.stored) (λ entries.
    bound (data_test cmp before entries) _ (data_other cmp before entries) (λ tested.
    bound (blocks_reading cmp _ is) _ (blocks_other cmp _ is) (λ others. value _)))

reading_other : (cmp : List ℕ → List ℕ → Ordering) (is : List IndexEntry) → AllOther (data_reading cmp is)
unfolding IsOther
reading_other cmp is =
    bound (test_result (is_some_list is) Empty) _ (passes (is_some_list is) Empty tt) (λ some.
    bound (blocks_reading cmp None is) _ (blocks_other cmp None is) (λ blocks.
    bound (test_result (index_fits cmp None blocks) Index) _ (passes (index_fits cmp None blocks) Index tt) (λ fits. value blocks)))

blocks_of_other : (cmp : List ℕ → List ℕ → Ordering) (bytes : List ℕ) → AllOther (blocks_of cmp bytes)
unfolding blocks_of
blocks_of_other cmp bytes =
    bound (index_in bytes) _ (index_in_other bytes) (λ entries.
    bound (index_reading bytes entries) _ (index_other bytes entries) (λ index. reading_other cmp index))

table_other : (cmp : List ℕ → List ℕ → Ordering) (t : ℕ × List ℕ) → AllOther (numbered_reading cmp t)
table_other cmp t =
    bound (contents_reading cmp t.1) _ (bound (blocks_of cmp t.1) _ (blocks_of_other cmp t.1) (λ blocks. value _)) (λ contents. value _)

tables_other : (cmp : List ℕ → List ℕ → Ordering) (loaded : List (ℕ × List ℕ)) → AllOther (tables_reading cmp loaded)
tables_other cmp [] = value []
tables_other cmp (t ∷ loaded) =
    bound (numbered_reading cmp t) _ (table_other cmp t) (λ first. bound (tables_reading cmp loaded) _ (tables_other cmp loaded) (λ others. value _))

other_name : (n : FaultName) → IsOther n → n ≢ Device
unfolding IsOther
other_name n h same = subst IsOther same h

-- What refuses isn't Device.
pub not_device : {A : Type 0} (r : Result A Fault) (e : Fault) → AllOther r → r ≡ failed e → e.name ≢ Device
unfolding AllOther
not_device {A = A} r e h same = other_name e.name (subst (λ (x : Result A Fault). IfErr x (λ f. IsOther f.name)) same h)

pub no_device : (cmp : List ℕ → List ℕ → Ordering) (loaded : List (ℕ × List ℕ)) (e : Fault) → tables_reading cmp loaded ≡ Err e → e.name ≢ Device
no_device cmp loaded e h = not_device (tables_reading cmp loaded) e (tables_other cmp loaded) h
