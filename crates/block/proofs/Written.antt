-- The pieces that are written of entries: they give the entries back, they are lawful, and one more entry adds one piece.
use Rattle.std.proofs.Common.{◌≡◌, ℕ, zero, suc, ◌+◌, ◌*◌, ◌%◌, ◌^◌, ◌<◌, ◌≤◌, Bool, true, false, cond, eqb, List, [], ◌∷◌, ◌++◌, length, get_or, take, drop, refl, sym, ap, subst, ◌∙◌, append_assoc, add-zero, lit<, arith}
use Rattle.std.specs.List.{flat_map, common_prefix_len, AllByRecursion}
use Rattle.std.specs.Simd.{first_chunks}
use Rattle.std.proofs.lemmas.Bool.{eqb-true}
use Rattle.std.proofs.lemmas.List.{take-append-drop, length-append, length-drop, drop-drop, append-nil}
use Rattle.std.proofs.lemmas.List.Sums.{common_prefix_len-le}
use Rattle.std.proofs.Math.Nat.{zero-mod}
use Rattle.byteorder.specs.Endian.{little_bytes}
use Rattle.coding.specs.Varint.{varint}
use Rattle.coding.proofs.Varints.{length-varint_le, length-varint_pos}
use Rattle.block.specs.EncodedEntry.{Entry, EncodedEntry, encoded_entry_bytes, key_after, entries_after, restarts_from, restarts_of, restart_bytes, block_bytes, IsEncodedEntryAfter, AreEncodedEntries, BeginsWithRestart, AreOfBlock, IsBlock}
use Rattle.block.specs.BlockFormat.{encoded_entry_of, encoded_entries_from, block}

-- ---- the longest common beginning

-- how many bytes two keys share
abbrev pub common : List ℕ → List ℕ → ℕ
common before key = common_prefix_len eqb before key

step_take : (same : Bool) (x y n : ℕ) (xs ys : List ℕ) → (same ≡ true → x ≡ y) → take n xs ≡ take n ys → take (cond same (1 + n) 0) (x ∷ xs) ≡ take (cond same (1 + n) 0) (y ∷ ys)
step_take true x y n xs ys same rest =
    let k : 1 + n ≡ suc n = omega arith in
    let heads : x ≡ y = same refl in
    rw (k, heads, rest) refl
step_take false x y n xs ys same rest = refl

-- the bytes that two keys share are the same in both
pub take-common : (xs ys : List ℕ) → take (common xs ys) xs ≡ take (common xs ys) ys
take-common [] ys = refl
take-common (x ∷ xs) [] = refl
take-common (x ∷ xs) (y ∷ ys) = step_take (eqb x y) x y (common xs ys) xs ys (eqb-true x y) (take-common xs ys)

-- ---- one piece

-- the piece of an entry, by whether a restart points at it
abbrev pub piece_at_restart : Bool → List ℕ → Entry → EncodedEntry
piece_at_restart restart before e =
    cond restart
    (record { is_restart = true; shared = 0; unshared = e.key; value = e.value })
    (record { is_restart = false; shared = common before e.key; unshared = drop (common before e.key) e.key; value = e.value })

key_by : (restart : Bool) (before : List ℕ) (e : Entry) → key_after before (piece_at_restart restart before e) ≡ e.key
key_by true before e = refl
key_by false before e = ap (λ (front : List ℕ). front ++ drop (common before e.key) e.key) (take-common before e.key) ∙ take-append-drop (common before e.key) e.key

value_by : (restart : Bool) (before : List ℕ) (e : Entry) → (piece_at_restart restart before e).value ≡ e.value
value_by true before e = refl
value_by false before e = refl

-- what a piece holds of its entry
pub record Holds (before : List ℕ) (e : Entry) (p : EncodedEntry) : Type 0 where
  pub shared : p.shared ≤ length before
  pub restart : p.is_restart ≡ true → p.shared ≡ 0
  pub key_len : p.shared + length p.unshared ≡ length e.key
  pub value : p.value ≡ e.value

holds_by : (restart : Bool) (before : List ℕ) (e : Entry) → Holds before e (piece_at_restart restart before e)
holds_by true before e = record { shared = omega arith; restart = λ _. refl; key_len = omega arith; value = refl }
holds_by false before e =
    let le = common_prefix_len-le eqb before e.key in
    record {
      shared = le.0;
      restart = λ no. absurd cc;
      key_len = omega (arith, le.1, length-drop (common before e.key) e.key);
      value = refl;
    }

-- the piece of an entry makes its key out of the key before it
pub key_after-entry_of_lengths : (r i : ℕ) (before : List ℕ) (e : Entry) → key_after before (encoded_entry_of r i before e) ≡ e.key
key_after-entry_of_lengths r i before e = key_by (eqb (i % r) 0) before e

pub value-entry_of_lengths : (r i : ℕ) (before : List ℕ) (e : Entry) → (encoded_entry_of r i before e).value ≡ e.value
value-entry_of_lengths r i before e = value_by (eqb (i % r) 0) before e

pub entry_of_lengths-holds : (r i : ℕ) (before : List ℕ) (e : Entry) → Holds before e (encoded_entry_of r i before e)
entry_of_lengths-holds r i before e = holds_by (eqb (i % r) 0) before e

-- the pieces of entries give the entries back
pub entries_after-pieces_from : (r i : ℕ) (before : List ℕ) (q : List Entry) → entries_after before (encoded_entries_from r i before q) ≡ q
entries_after-pieces_from r i before [] = refl
entries_after-pieces_from r i before (e ∷ es) =
    rw (key_after-entry_of_lengths r i before e, value-entry_of_lengths r i before e, entries_after-pieces_from r (i + 1) e.key es) refl

-- ---- the pieces are lawful

-- three lengths have a byte each at the least
pub length-piece_bytes_ge : (p : EncodedEntry) → 3 + length p.unshared + length p.value ≤ length (encoded_entry_bytes p)
length-piece_bytes_ge p =
    omega (
      arith,
      length-append (varint p.shared) (varint (length p.unshared) ++ (varint (length p.value) ++ (p.unshared ++ p.value))),
      length-append (varint (length p.unshared)) (varint (length p.value) ++ (p.unshared ++ p.value)),
      length-append (varint (length p.value)) (p.unshared ++ p.value),
      length-append p.unshared p.value,
      length-varint_pos p.shared,
      length-varint_pos (length p.unshared),
      length-varint_pos (length p.value),
    )

-- three lengths have thirty bytes at the most
pub length-piece_bytes_le : (p : EncodedEntry) → length (encoded_entry_bytes p) ≤ 30 + length p.unshared + length p.value
length-piece_bytes_le p =
    omega (
      arith,
      length-append (varint p.shared) (varint (length p.unshared) ++ (varint (length p.value) ++ (p.unshared ++ p.value))),
      length-append (varint (length p.unshared)) (varint (length p.value) ++ (p.unshared ++ p.value)),
      length-append (varint (length p.value)) (p.unshared ++ p.value),
      length-append p.unshared p.value,
      length-varint_le p.shared,
      length-varint_le (length p.unshared),
      length-varint_le (length p.value),
    )

-- if the pieces of entries have so few bytes that each number has its width, the key before them counted too
pub ArePieces-pieces_from : (r i : ℕ) (before : List ℕ) (q : List Entry) → length before + length (flat_map encoded_entry_bytes (encoded_entries_from r i before q)) < 2 ^ 32 → AreEncodedEntries (length before) (encoded_entries_from r i before q)
ArePieces-pieces_from r i before [] fits = tt
ArePieces-pieces_from r i before (e ∷ es) fits =
    let p = encoded_entry_of r i before e in
    let h = entry_of_lengths-holds r i before e in
    let len = length-append (encoded_entry_bytes p) (flat_map encoded_entry_bytes (encoded_entries_from r (i + 1) e.key es)) in
    let own = length-piece_bytes_ge p in
    let first : IsEncodedEntryAfter (length before) p = record {
      shared = h.shared;
      restart = h.restart;
      shared_fits = omega (arith, h.shared);
      unshared_fits = omega arith;
      value_fits = omega arith;
    } in
    let others : AreEncodedEntries (length e.key) (encoded_entries_from r (i + 1) e.key es) = ArePieces-pieces_from r (i + 1) e.key es (omega (arith, h.shared, h.key_len)) in
    (first, subst (λ (n : ℕ). AreEncodedEntries n (encoded_entries_from r (i + 1) e.key es)) (sym h.key_len) others)

BeginsWithRestart-pieces_from : (r : ℕ) (q : List Entry) → BeginsWithRestart (encoded_entries_from r 0 [] q)
BeginsWithRestart-pieces_from r [] = tt
BeginsWithRestart-pieces_from r (e ∷ es) = rw (zero-mod r) refl

-- ---- restarts

one_restart : (restart : Bool) (at : ℕ) → length (cond restart (at ∷ []) []) ≤ 1
one_restart true at = omega arith
one_restart false at = omega arith

pub AllByRecursion-append : {X : Type 0} (P : X → Type 0) (xs ys : List X) → AllByRecursion P xs → AllByRecursion P ys → AllByRecursion P (xs ++ ys)
AllByRecursion-append P [] ys h k = k
AllByRecursion-append P (x ∷ xs) ys h k = (h.0, AllByRecursion-append P xs ys h.1 k)

here_fits : (restart : Bool) (at : ℕ) → at < 2 ^ 32 → AllByRecursion (λ n. n < 2 ^ 32) (cond restart (at ∷ []) [])
here_fits true at lt = (lt, tt)
here_fits false at lt = tt

restarts_from-fit : (at : ℕ) (ps : List EncodedEntry) → at + length (flat_map encoded_entry_bytes ps) < 2 ^ 32 → AllByRecursion (λ n. n < 2 ^ 32) (restarts_from at ps)
restarts_from-fit at [] fits = tt
restarts_from-fit at (p ∷ ps) fits =
    let len = length-append (encoded_entry_bytes p) (flat_map encoded_entry_bytes ps) in
    AllByRecursion-append (λ n. n < 2 ^ 32) (cond p.is_restart (at ∷ []) []) (restarts_from (at + length (encoded_entry_bytes p)) ps) (here_fits p.is_restart at (omega arith)) (restarts_from-fit (at + length (encoded_entry_bytes p)) ps (omega arith))

restarts_of-fit : (ps : List EncodedEntry) → length (flat_map encoded_entry_bytes ps) < 2 ^ 32 → AllByRecursion (λ n. n < 2 ^ 32) (restarts_of ps)
restarts_of-fit [] fits = (lit< tt, tt)
restarts_of-fit (p ∷ ps) fits = restarts_from-fit 0 (p ∷ ps) (omega arith)

-- the restarts of one more piece
pub restarts_from-push : (at : ℕ) (ps : List EncodedEntry) (p : EncodedEntry) → restarts_from at (ps ++ p ∷ []) ≡ restarts_from at ps ++ cond p.is_restart ((at + length (flat_map encoded_entry_bytes ps)) ∷ []) []
restarts_from-push at [] p = rw (add-zero at) (append-nil (cond p.is_restart (at ∷ []) []))
restarts_from-push at (x ∷ xs) p =
    let len = length-append (encoded_entry_bytes x) (flat_map encoded_entry_bytes xs) in
    let place : (at + length (encoded_entry_bytes x)) + length (flat_map encoded_entry_bytes xs) ≡ at + length (encoded_entry_bytes x ++ flat_map encoded_entry_bytes xs) = omega arith in
    rw (restarts_from-push (at + length (encoded_entry_bytes x)) xs p, place)
    (sym (append_assoc (cond x.is_restart (at ∷ []) []) (restarts_from (at + length (encoded_entry_bytes x)) xs) (cond p.is_restart ((at + length (encoded_entry_bytes x ++ flat_map encoded_entry_bytes xs)) ∷ []) [])))

-- ---- how long a block is

length-four_bytes : (xs : List ℕ) → length (flat_map (little_bytes 4) xs) ≡ 4 * length xs
length-four_bytes [] = refl
length-four_bytes (x ∷ xs) = omega (arith, length-four_bytes xs, length-append (little_bytes 4 x) (flat_map (little_bytes 4) xs))

pub length-block_bytes : (ps : List EncodedEntry) → length (block_bytes ps) ≡ length (flat_map encoded_entry_bytes ps) + 4 * length (restarts_of ps) + 4
length-block_bytes ps =
    omega (
      arith,
      length-append (flat_map encoded_entry_bytes ps) (restart_bytes (restarts_of ps)),
      length-append (flat_map (little_bytes 4) (restarts_of ps)) (little_bytes 4 (length (restarts_of ps))),
      length-four_bytes (restarts_of ps),
    )

pub length-block : (r : ℕ) (q : List Entry) → length (block r q) ≡ length (flat_map encoded_entry_bytes (encoded_entries_from r 0 [] q)) + 4 * length (restarts_of (encoded_entries_from r 0 [] q)) + 4
unfolding block
length-block r q = length-block_bytes (encoded_entries_from r 0 [] q)

-- ---- the block of a list reads as that list

pub AreOfBlock-pieces_from : (r : ℕ) (q : List Entry) → length (block r q) ≤ 2 ^ 31 → AreOfBlock (encoded_entries_from r 0 [] q)
AreOfBlock-pieces_from r q fits =
    let len = length-block r q in
    record {
      pieces = ArePieces-pieces_from r 0 [] q (omega arith);
      first = BeginsWithRestart-pieces_from r q;
      restarts = (omega arith, restarts_of-fit (encoded_entries_from r 0 [] q) (omega arith));
    }

pub block_reads_back : (r : ℕ) (q : List Entry) → length (block r q) ≤ 2 ^ 31 → IsBlock (block r q) q
unfolding block
block_reads_back r q fits = (encoded_entries_from r 0 [] q, AreOfBlock-pieces_from r q fits, refl, entries_after-pieces_from r 0 [] q)

-- ---- a walk along two keys

-- one of the words of eight bytes
pub word_at : (count i : ℕ) (xs : List ℕ) → i < count → get_or (first_chunks 8 count xs) i [] ≡ take 8 (drop (8 * i) xs)
word_at zero i xs lt = absurd (omega arith)
word_at (suc count) zero xs lt = refl
word_at (suc count) (suc i) xs lt =
    let place : 8 * suc i ≡ 8 + 8 * i = omega arith in
    rw place (word_at count i (drop 8 xs) (omega arith) ∙ ap (take 8) (drop-drop (8 * i) 8 xs))
