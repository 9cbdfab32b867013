-- How many entries a table may have: its index and each of its blocks has no more than it has bytes.
use Rattle.std.proofs.Common.{◌≡◌, ℕ, zero, suc, ◌+◌, ◌-◌, ◌*◌, ◌≤◌, ◌^◌, ◌==◌, nat_le, not, slice_index, Bool, true, false, List, [], ◌∷◌, length, take, drop, Option, Some, None, Result, Ok, Err, IfOk, if◌then◌else◌, refl, ap, subst, arith}
use Rattle.std.specs.Option.{option_map_or}
use Rattle.std.specs.declared.cmp.Ordering.{Ordering}
use Rattle.std.proofs.lemmas.Bool.{leb-true}
use Rattle.std.proofs.lemmas.List.{length-append, length-drop}
use Rattle.ikey.proofs.Binds.{bind_ok, ok_is}
use Rattle.byteorder.specs.Endian.{little_number}
use Rattle.ikey.specs.Answers.{fault}
use Rattle.ikey.specs.Crc.{crc32c, masked}
use Rattle.ikey.specs.fault.FaultName.TheVariants.{BlockType, Compressed, Empty, Index, Short, Size, Trailer}
use Rattle.ikey.specs.fault.Fault.{Fault}
use Rattle.table.specs.EncodedEntry.{Entry, EncodedEntry, entries_after, encoded_entry_bytes}
use Rattle.table.specs.EntryFormat.{FieldReading, encoded_entry_at}
use Rattle.table.specs.BlockReading.{area_len, block_reading, is_next, encoded_entries_in, encoded_entries_of, restarts_from_place, restarts_in, with_mark}
use Rattle.table.specs.Trailer.{stored_reading}
use Rattle.table.specs.declared.handle.BlockHandle.{BlockHandle}
use Rattle.table.specs.Footer.{footer_reading}
use Rattle.table.specs.Handle.{handle_reading}
use Rattle.ikey.specs.Key.{internal_key_reading}
use Rattle.table.specs.TableContents.{Contents, DataBlock, blocks_of, blocks_reading, contents_of, contents_reading, data_reading, entries_of, index_fits, index_in}
use Rattle.table.specs.EntryTests.{data_test, is_some_list, last_key_after}
use Rattle.table.specs.IndexReading.{IndexEntry, block_in, index_entry, index_reading, one_handle, stored_at}
use Rattle.table.specs.TestResult.{test_result}
use Rattle.table.proofs.EntryTests.{passed}

-- ---- a block

few_pieces : (n at : ℕ) (restarts bytes : List ℕ) → length (encoded_entries_in n at restarts bytes) ≤ n
few_pieces zero at restarts bytes = omega arith
few_pieces (suc n) at restarts bytes = by (encoded_entry_at bytes) (λ p. few_pieces n (at + length (encoded_entry_bytes p.field)) (restarts_from_place restarts at) p.rest)
  where
    by : (p : Option (FieldReading EncodedEntry)) → ((p : FieldReading EncodedEntry) → length (encoded_entries_in n (at + length (encoded_entry_bytes p.field)) (restarts_from_place restarts at) p.rest) ≤ n)
        → length (option_map_or (λ p. with_mark (is_next restarts at) p.field ∷ encoded_entries_in n (at + length (encoded_entry_bytes p.field)) (restarts_from_place restarts at) p.rest) p []) ≤ suc n
    by None later = omega arith
    by (Some p) later = let few = later p in omega (arith, few)

entries_len : (before : List ℕ) (ps : List EncodedEntry) → length (entries_after before ps) ≡ length ps
entries_len before [] = refl
entries_len before (p ∷ ps) = ap suc (entries_len _ ps)

-- a test that was passed
tested : {A : Type 0} (b : Bool) (e : Fault) (x y : A) → (if b then Ok x else Err e) ≡ Ok y → x ≡ y
tested true e x y h = ok_is x y h
tested false e x y h = absurd cc

few_pieces_of : (bytes : List ℕ) → length (encoded_entries_of bytes) ≤ length bytes
unfolding encoded_entries_of
few_pieces_of bytes =
    let few = few_pieces (area_len bytes) 0 (restarts_in bytes) (take (area_len bytes) bytes) in
    let area : area_len bytes ≤ length bytes = omega arith in
    omega (arith, few, area)

few_in_block : (bytes : List ℕ) (es : List Entry) → block_reading bytes ≡ Ok es → length es ≤ length bytes
unfolding block_reading
few_in_block bytes es h =
    let few = few_pieces_of bytes in
    let len = entries_len [] (encoded_entries_of bytes) in
    subst (λ (xs : List Entry). length xs ≤ length bytes) (tested _ _ _ es h) (omega (arith, few, len))

-- ---- a stored block

few_taken : {A : Type 0} (n : ℕ) (xs : List A) → length (take n xs) ≤ length xs
few_taken zero xs = omega arith
few_taken (suc n) [] = omega arith
few_taken (suc n) (x ∷ xs) = let few = few_taken n xs in omega arith

-- an answer has no more bytes than this
HasFew : ℕ → Result (List ℕ) Fault → Type 0
HasFew n r = IfOk r (λ xs. length xs ≤ n)

few_value : (n : ℕ) (xs : List ℕ) → length xs ≤ n → HasFew n (Ok xs)
unfolding HasFew
few_value n xs h = h

few_refused : (n : ℕ) (e : Fault) → HasFew n (Err e)
unfolding HasFew
few_refused n e = tt

few_tested : (n : ℕ) (b : Bool) (r s : Result (List ℕ) Fault) → HasFew n r → HasFew n s → HasFew n (if b then r else s)
few_tested n true r s one two = one
few_tested n false r s one two = two

few_answered : (n : ℕ) (r : Result (List ℕ) Fault) (xs : List ℕ) → r ≡ Ok xs → HasFew n r → length xs ≤ n
unfolding HasFew
few_answered n r xs same h = subst (λ (x : Result (List ℕ) Fault). IfOk x (λ ys. length ys ≤ n)) same h

few_stored_reading : (bytes : List ℕ) → HasFew (length bytes) (stored_reading bytes)
unfolding stored_reading
few_stored_reading bytes =
    let n = length bytes in
    let kind = slice_index bytes (length bytes - 5) in
    few_tested n (not (little_number 4 (drop (length bytes - 4) bytes) == masked (crc32c (take (length bytes - 4) bytes)))) _ _ (few_refused n (fault Trailer))
    (few_tested n (kind == 1) _ _ (few_refused n (fault Compressed))
    (few_tested n (not (kind == 0)) _ _ (few_refused n (fault BlockType)) (few_value n (take (length bytes - 5) bytes) (few_taken (length bytes - 5) bytes))))

few_contents : (bytes contents : List ℕ) → stored_reading bytes ≡ Ok contents → length contents ≤ length bytes
few_contents bytes contents h = few_answered (length bytes) (stored_reading bytes) contents h (few_stored_reading bytes)

few_in : (stored : List ℕ) (es : List Entry) → block_in stored ≡ Ok es → length es ≤ length stored
few_in stored es h =
    let a = bind_ok (stored_reading stored) block_reading es h in
    let contents = few_contents stored a.0 a.1 in
    let entries = few_in_block a.0 es a.2 in
    omega (arith, contents, entries)

few_stored : (bytes : List ℕ) (handle : BlockHandle) (stored : List ℕ) → stored_at bytes handle ≡ Ok stored → length stored ≤ length bytes
few_stored bytes handle stored h =
    let few = few_taken (handle.size + 5) (drop handle.offset bytes) in
    let left = length-drop handle.offset bytes in
    subst (λ (xs : List ℕ). length xs ≤ length bytes) (tested _ _ _ stored h) (omega (arith, few, left))

-- ---- an index

-- the stored blocks have no more bytes than this
AreWithin : ℕ → List IndexEntry → Type 0
AreWithin n [] = Unit {0}
AreWithin n (i ∷ is) = (length i.stored ≤ n) × AreWithin n is

few_of_entry : (bytes : List ℕ) (e : Entry) (i : IndexEntry) → index_entry bytes e ≡ Ok i → length i.stored ≤ length bytes
few_of_entry bytes e i h =
    let a = bind_ok (internal_key_reading e.key) _ i h in
    let b = bind_ok (one_handle (handle_reading e.value)) _ i a.2 in
    let c = bind_ok (stored_at bytes b.0) _ i b.2 in
    subst (λ (x : IndexEntry). length x.stored ≤ length bytes) (ok_is (record { key = a.0; stored = c.0 }) i c.2) (few_stored bytes b.0 c.0 c.1)

abbrev IsIndexOf : List ℕ → List Entry → List IndexEntry → Type 0
IsIndexOf bytes es is = (length is ≡ length es) × AreWithin (length bytes) is

few_of_index : (bytes : List ℕ) (es : List Entry) (is : List IndexEntry) → index_reading bytes es ≡ Ok is → IsIndexOf bytes es is
unfolding AreWithin
few_of_index bytes [] is h = subst (IsIndexOf bytes []) (ok_is [] is h) (refl, tt)
few_of_index bytes (e ∷ es) is h =
    let a = bind_ok (index_entry bytes e) _ is h in
    let b = bind_ok (index_reading bytes es) _ is a.2 in
    let later = few_of_index bytes es b.0 b.1 in
    subst (IsIndexOf bytes (e ∷ es)) (ok_is (a.0 ∷ b.0) is b.2) (ap suc later.0, (few_of_entry bytes e a.0 a.1, later.1))

-- ---- a table

few_of_blocks : (cmp : List ℕ → List ℕ → Ordering) (n : ℕ) → n ≤ 1073741824 → (before : Option (List ℕ)) (is : List IndexEntry) (blocks : List DataBlock) → AreWithin n is
    → blocks_reading cmp before is ≡ Ok blocks → length (entries_of blocks) ≤ length is * 1073741824
unfolding AreWithin
few_of_blocks cmp n small before [] blocks within h = subst (λ (bs : List DataBlock). length (entries_of bs) ≤ 0) (ok_is [] blocks h) (omega arith)
few_of_blocks cmp n small before (i ∷ is) blocks within h =
    let a = bind_ok (block_in i.stored) _ blocks h in
    let b = bind_ok (data_test cmp before a.0) _ blocks a.2 in
    let c = bind_ok (blocks_reading cmp (last_key_after before a.0) is) _ blocks b.2 in
    let first = few_in i.stored a.0 a.1 in
    let fits = within.0 in
    let later = few_of_blocks cmp n small (last_key_after before a.0) is c.0 within.1 c.1 in
    let both = length-append a.0 (entries_of c.0) in
    subst (λ (bs : List DataBlock). length (entries_of bs) ≤ length (i ∷ is) * 1073741824) (ok_is (record { index_key = i.key; entries = a.0 } ∷ c.0) blocks c.2)
    (omega (arith, first, fits, later, both, small))

-- what is said of an index's entries and of the bytes
record IsIndexIn (bytes : List ℕ) (es : List Entry) : Type 0 where
  small : length bytes ≤ 1073741824
  few : length es ≤ 1073741824

index_in_few : (bytes : List ℕ) (es : List Entry) → index_in bytes ≡ Ok es → IsIndexIn bytes es
index_in_few bytes es h =
    let a = bind_ok (test_result (nat_le (length bytes) (2 ^ 30)) Size) _ es h in
    let b = bind_ok (test_result (nat_le 48 (length bytes)) Short) _ es a.2 in
    let c = bind_ok (footer_reading (drop (length bytes - 48) bytes)) _ es b.2 in
    let d = bind_ok (stored_at bytes c.0.metaindex) _ es c.2 in
    let e = bind_ok (stored_at bytes c.0.index) _ es d.2 in
    let f = bind_ok (block_in d.0) _ es e.2 in
    let size : length bytes ≤ 2 ^ 30 = leb-true (length bytes) (2 ^ 30) (passed (nat_le (length bytes) (2 ^ 30)) Size a.0 a.1) in
    let stored = few_stored bytes c.0.index e.0 e.1 in
    let entries = few_in e.0 es f.2 in
    record { small = omega (arith, size); few = omega (arith, size, stored, entries) }

few_of_data : (cmp : List ℕ → List ℕ → Ordering) (n : ℕ) → n ≤ 1073741824 → (is : List IndexEntry) (blocks : List DataBlock) → AreWithin n is
    → data_reading cmp is ≡ Ok blocks → length (entries_of blocks) ≤ length is * 1073741824
few_of_data cmp n small is blocks within h =
    let a = bind_ok (test_result (is_some_list is) Empty) _ blocks h in
    let b = bind_ok (blocks_reading cmp None is) _ blocks a.2 in
    let c = bind_ok (test_result (index_fits cmp None b.0) Index) _ blocks b.2 in
    subst (λ (bs : List DataBlock). length (entries_of bs) ≤ length is * 1073741824) (ok_is b.0 blocks c.2) (few_of_blocks cmp n small None is b.0 within b.1)

few_blocks_of : (cmp : List ℕ → List ℕ → Ordering) (bytes : List ℕ) (blocks : List DataBlock) → blocks_of cmp bytes ≡ Ok blocks → length (entries_of blocks) ≤ 2 ^ 60
unfolding blocks_of
few_blocks_of cmp bytes blocks h =
    let a = bind_ok (index_in bytes) _ blocks h in
    let b = bind_ok (index_reading bytes a.0) _ blocks a.2 in
    let index = index_in_few bytes a.0 a.1 in
    let is = few_of_index bytes a.0 b.0 b.1 in
    let few = few_of_data cmp (length bytes) index.small b.0 blocks is.1 b.2 in
    omega (arith, few, is.0, index.few)

-- A table has at most 2^60 entries.
pub few_entries : (cmp : List ℕ → List ℕ → Ordering) (bytes : List ℕ) (t : Contents) → contents_reading cmp bytes ≡ Ok t → length t.entries ≤ 2 ^ 60
few_entries cmp bytes t h =
    let a = bind_ok (blocks_of cmp bytes) _ t h in
    subst (λ (x : Contents). length x.entries ≤ 2 ^ 60) (ok_is (contents_of bytes a.0) t a.2) (few_blocks_of cmp bytes a.0 a.1)
