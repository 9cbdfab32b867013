-- A walk over bytes that may be a block: its steps, and how it ends.
use Rattle.std.proofs.Common.{◌≡◌, ◌≢◌, ℕ, zero, suc, ◌+◌, ◌-◌, ◌<◌, ◌≤◌, Bool, true, false, cond, List, [], ◌∷◌, length, drop, Option, Some, None, Result, Ok, Err, refl, sym, ap, subst, ◌∙◌, arith}
use Rattle.std.specs.Prelude.{IfOk}
use Rattle.coding.specs.Answers.{fault}
use Rattle.coding.specs.declared.fault.Fault.{Fault}
use Rattle.coding.specs.declared.fault.FaultName.TheVariants.{Block}
use Rattle.coding.proofs.Binds.{failed}
use Rattle.block.specs.EncodedEntry.{Entry, EncodedEntry, key_after, IsBlock}
use Rattle.block.specs.EntryFormat.{FieldReading, encoded_entry_at}
use Rattle.block.specs.EntriesOfBytes.{entries_of_bytes, entries_of_encoded}
use Rattle.block.specs.BuilderState.{IsArea}
use Rattle.block.specs.BlockParts.{BeginsWith, HasBlockParts}
use Rattle.block.specs.BlockPass.{PassState, IsNextEncodedEntry}
use Rattle.block.specs.BlockReading.{block_reading}
use Rattle.block.specs.CheckedBytes.{BlockChecking}
use Rattle.block.specs.CheckingWalk.{Passes}
use Rattle.block.proofs.Areas.{shorter, kept_none, kept_all, is_area, is_area_nil}
use Rattle.block.proofs.Walks.{length-key_after}
use Rattle.block.proofs.Checks.{is_block, no_parts, parts_sound}
use Rattle.block.proofs.BlockReadings.{reads_blocks, refused}

-- ---- the entries that stand in any bytes

-- no entries stand if no piece does
none_in : (n : ℕ) (before bytes : List ℕ) → encoded_entry_at bytes ≡ None → entries_of_bytes n before bytes ≡ []
none_in zero before bytes e = refl
none_in (suc n) before bytes e = rw e refl

one_in : (n : ℕ) (before bytes : List ℕ) (x : FieldReading EncodedEntry) → encoded_entry_at bytes ≡ Some x → entries_of_bytes (suc n) before bytes ≡ record { key = key_after before x.field; value = x.field.value } ∷ entries_of_bytes n (key_after before x.field) x.rest
one_in n before bytes x e = rw e refl

-- as many as there are bytes are enough
enough : (n m : ℕ) (before bytes : List ℕ) → length bytes ≤ n → length bytes ≤ m → entries_of_bytes n before bytes ≡ entries_of_bytes m before bytes
enough n m before bytes le more = by n m before bytes (encoded_entry_at bytes) refl le more
  where
    by : (n m : ℕ) (before bytes : List ℕ) (o : Option (FieldReading EncodedEntry)) → encoded_entry_at bytes ≡ o → length bytes ≤ n → length bytes ≤ m → entries_of_bytes n before bytes ≡ entries_of_bytes m before bytes
    by n m before bytes None e le more = none_in n before bytes e ∙ sym (none_in m before bytes e)
    by zero m before bytes (Some x) e le more = absurd (omega (arith, shorter bytes x e))
    by (suc n) zero before bytes (Some x) e le more = absurd (omega (arith, shorter bytes x e))
    by (suc n) (suc m) before bytes (Some x) e le more =
        one_in n before bytes x e
        ∙ ap (λ (es : List Entry). record { key = key_after before x.field; value = x.field.value } ∷ es) (by n m (key_after before x.field) x.rest (encoded_entry_at x.rest) refl (omega (arith, shorter bytes x e)) (omega (arith, shorter bytes x e)))
        ∙ sym (one_in m before bytes x e)

-- the entry of the piece at the front, and those after it
pub one_behind : (before rest : List ℕ) (x : FieldReading EncodedEntry) → encoded_entry_at rest ≡ Some x → entries_of_encoded before rest ≡ record { key = key_after before x.field; value = x.field.value } ∷ entries_of_encoded (key_after before x.field) x.rest
one_behind before rest x e =
    let less = shorter rest x e in
    let n : length rest ≡ suc (length rest - 1) = omega (arith, less) in
    ap (λ (k : ℕ). entries_of_bytes k before rest) n
    ∙ one_in (length rest - 1) before rest x e
    ∙ ap (λ (es : List Entry). record { key = key_after before x.field; value = x.field.value } ∷ es) (enough (length rest - 1) (length x.rest) (key_after before x.field) x.rest (omega (arith, less)) (omega arith))

-- ---- refusals

-- bytes that are no block are refused as Block
pub no_block : (bytes : List ℕ) → ((q : List Entry) → IsBlock bytes q → ⊥) → block_reading bytes ≡ Err (fault Block)
no_block bytes none = by (block_reading bytes) refl
  where
    by : (a : Result (List Entry) Fault) → block_reading bytes ≡ a → a ≡ Err (fault Block)
    by (Ok q) h = absurd (none q (reads_blocks.found bytes q h))
    by (Err e) h = ap (λ (f : Fault). failed f) (refused bytes e h)

pub not_split : (bytes : List ℕ) → ((area restarts : List ℕ) → HasBlockParts bytes area restarts → ⊥) → block_reading bytes ≡ Err (fault Block)
not_split bytes none = no_block bytes (λ q h. no_parts bytes q h none)

pub not_area : (bytes area restarts : List ℕ) → HasBlockParts bytes area restarts → (IsArea area restarts → ⊥) → block_reading bytes ≡ Err (fault Block)
not_area bytes area restarts s none = no_block bytes (λ q h. none (parts_sound bytes area restarts q h s).0)

-- ---- the entries of a block

-- if the bytes are a block, its entries stand before the restarts
pub same_entries : (bytes area restarts : List ℕ) → HasBlockParts bytes area restarts → IfOk (block_reading bytes) (λ q. entries_of_encoded [] area ≡ q)
same_entries bytes area restarts s = by (block_reading bytes) refl
  where
    by : (a : Result (List Entry) Fault) → block_reading bytes ≡ a → IfOk a (λ q. entries_of_encoded [] area ≡ q)
    by (Ok q) h = (parts_sound bytes area restarts q (reads_blocks.found bytes q h) s).1
    by (Err e) h = tt

pub reads_area : (bytes area restarts : List ℕ) → HasBlockParts bytes area restarts → IsArea area restarts → block_reading bytes ≡ Ok (entries_of_encoded [] area)
reads_area bytes area restarts s h = reads_blocks.only bytes (entries_of_encoded [] area) (is_block bytes area restarts s h)

-- ---- the walk

-- a walk that has begun stands at an entry
pub passes_first : (bytes area restarts : List ℕ) (x : FieldReading EncodedEntry) (others key : List ℕ) → HasBlockParts bytes area restarts → BeginsWith restarts 0 → area ≢ [] → IsNextEncodedEntry area area restarts 0 x others → key ≡ x.field.unshared → Passes bytes area x.rest others key true
passes_first bytes area restarts x others key s begins some n key_is =
    let len : x.field.shared + length x.field.unshared ≡ length key = omega (arith, n.shared, ap length key_is) in
    record {
      restarts = restarts;
      split = s;
      begins = begins;
      some = λ _. some;
      walks = λ _. subst (PassState area restarts x.rest others) len (n.kept restarts begins (kept_none area restarts some));
      ended = λ no. absurd cc;
    }

pub passes_next : (bytes area rest pending key : List ℕ) (x : FieldReading EncodedEntry) (others key' : List ℕ) → Passes bytes area rest pending key true → IsNextEncodedEntry area rest pending (length key) x others → key' ≡ key_after key x.field → Passes bytes area x.rest others key' true
passes_next bytes area rest pending key x others key' p n key_is =
    let len : x.field.shared + length x.field.unshared ≡ length key' = sym (ap length key_is ∙ length-key_after key x.field n.shared) in
    record {
      restarts = p.restarts;
      split = p.split;
      begins = p.begins;
      some = p.some;
      walks = λ _. subst (PassState area p.restarts x.rest others) len (n.kept p.restarts p.begins (p.walks refl));
      ended = λ no. absurd cc;
    }

-- the walk is over
pub passes_end : (bytes area rest pending key : List ℕ) → Passes bytes area rest pending key true → rest ≡ [] → pending ≡ [] → Passes bytes area rest pending key false
passes_end bytes area rest pending key p none passed =
    let kept = subst (λ (t : List ℕ). PassState area p.restarts [] t (length key)) passed (subst (λ (t : List ℕ). PassState area p.restarts t pending (length key)) none (p.walks refl)) in
    record {
      restarts = p.restarts;
      split = p.split;
      begins = p.begins;
      some = λ no. absurd cc;
      walks = λ no. absurd cc;
      ended = λ _. is_area area p.restarts (length key) (p.some refl) (omega (arith, p.split.len, p.split.fits)) kept;
    }

pub passes_nothing : (bytes area restarts rest pending key : List ℕ) → HasBlockParts bytes area restarts → BeginsWith restarts 0 → IsArea area restarts → Passes bytes area rest pending key false
passes_nothing bytes area restarts rest pending key s begins h = record {
  restarts = restarts;
  split = s;
  begins = begins;
  some = λ no. absurd cc;
  walks = λ no. absurd cc;
  ended = λ _. h;
}

-- the end of the block without entries
pub passes_none : (rest pending key : List ℕ) → Passes (0 ∷ 0 ∷ 0 ∷ 0 ∷ 1 ∷ 0 ∷ 0 ∷ 0 ∷ []) [] rest pending key false
passes_none rest pending key =
    let restarts : List ℕ = 0 ∷ 0 ∷ 0 ∷ 0 ∷ [] in
    let begins : BeginsWith restarts 0 = ([], refl) in
    let split : HasBlockParts (0 ∷ 0 ∷ 0 ∷ 0 ∷ 1 ∷ 0 ∷ 0 ∷ 0 ∷ []) [] restarts = record { count = 1; some = omega arith; fits = omega arith; len = refl; whole = refl } in
    passes_nothing (0 ∷ 0 ∷ 0 ∷ 0 ∷ 1 ∷ 0 ∷ 0 ∷ 0 ∷ []) [] restarts rest pending key split begins (is_area_nil restarts begins refl)

-- restarts that are left over are none of a block
pub left_over : (bytes area rest pending key : List ℕ) → Passes bytes area rest pending key true → rest ≡ [] → pending ≢ [] → block_reading bytes ≡ Err (fault Block)
left_over bytes area rest pending key p none some =
    let kept = subst (λ (t : List ℕ). PassState area p.restarts t pending (length key)) none (p.walks refl) in
    not_area bytes area p.restarts p.split (λ h. some (kept_all area p.restarts pending (length key) kept h))

-- no piece stands next
pub not_next : (bytes area rest pending key : List ℕ) → Passes bytes area rest pending key true → ((restarts : List ℕ) → rest ≢ [] → PassState area restarts rest pending (length key) → IsArea area restarts → ⊥) → rest ≢ [] → block_reading bytes ≡ Err (fault Block)
not_next bytes area rest pending key p none some = not_area bytes area p.restarts p.split (none p.restarts some (p.walks refl))

-- a walk that is over has read a block
pub read_all : (bytes area rest pending key : List ℕ) (valid : Bool) → Passes bytes area rest pending key valid → valid ≡ false → block_reading bytes ≡ Ok (entries_of_encoded [] area)
read_all bytes area rest pending key valid p over = reads_area bytes area p.restarts p.split (p.ended over)

-- ---- the view

-- an entry is still to come
pub stands : (valid : Bool) (e : Entry) (behind now : List Entry) → cond valid (e ∷ behind) [] ≡ now → 0 < length now → valid ≡ true
stands true e behind now view some = refl
stands false e behind now view some = absurd (omega (arith, ap length view))

abbrev pub with_ahead : BlockChecking → List Entry → BlockChecking
with_ahead v ahead = record { bytes = v.bytes; all = v.all; ahead = ahead }

-- one entry less is ahead
pub one_less : (was now : BlockChecking) (ahead : List Entry) → was ≡ now → ahead ≡ drop 1 was.ahead → with_ahead was ahead ≡ with_ahead now (drop 1 now.ahead)
one_less was now ahead view same = ap (with_ahead was) same ∙ ap (λ (v : BlockChecking). with_ahead v (drop 1 v.ahead)) view

pub none_less : (valid : Bool) (e : Entry) (key rest : List ℕ) → rest ≡ [] → [] ≡ drop 1 (cond valid (e ∷ entries_of_encoded key rest) [])
none_less true e key rest none = sym (ap (entries_of_encoded key) none)
none_less false e key rest none = refl

-- the next entry is the first of those after
pub next_less : (valid : Bool) (e first : Entry) (behind more : List Entry) → valid ≡ true → behind ≡ first ∷ more → cond valid (first ∷ more) [] ≡ drop 1 (cond valid (e ∷ behind) [])
next_less true e first behind more on same = sym same
next_less false e first behind more on same = absurd cc
