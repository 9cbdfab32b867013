-- What a builder keeps: it gives the entries back, and one more entry adds its piece.
use Rattle.std.proofs.Common.{◌≡◌, ℕ, suc, ◌+◌, ◌*◌, ◌%◌, ◌^◌, ◌<◌, ◌≤◌, Bool, true, false, cond, eqb, List, [], ◌∷◌, ◌++◌, length, take, drop, max, refl, sym, ap, subst, ◌∙◌, add-zero, zero-add, inl, inr, ◌⊎◌, arith}
use Rattle.std.specs.List.{flat_map}
use Rattle.std.proofs.lemmas.Bool.{cases_eq, eq-eqb, ne_eqb}
use Rattle.std.proofs.lemmas.List.{take-append-drop, length-append, length_push, append-nil, nil_from_length}
use Rattle.std.proofs.lemmas.List.Concat.{flat_map-append}
use Rattle.std.proofs.lemmas.Nat.{mod_below}
use Rattle.std.proofs.Math.Nat.{zero-mod, mod-add-mod, mod_self, mod-eq_of_lt}
use Rattle.block.specs.EncodedEntry.{Entry, EncodedEntry, encoded_entry_bytes, restarts_from, restarts_of, restart_bytes}
use Rattle.block.specs.EntriesOfBytes.{entries_of_encoded}
use Rattle.block.specs.BlockFormat.{encoded_entry_of, encoded_entries_from, block}
use Rattle.block.specs.BuilderView.{last_key, with_entry}
use Rattle.block.specs.BuilderState.{IsBlockBuilder}
use Rattle.block.proofs.Pieces.{AreWide-of, entries_of_encoded-pieces}
use Rattle.block.proofs.Written.{common, take-common, piece_at_restart, entries_after-pieces_from, AreOfBlock-pieces_from, restarts_from-push, length-block}

-- what is kept gives the entries back
pub entries_of_encoded-built : {r : ℕ} {q : List Entry} {pieces restarts last : List ℕ} {since : ℕ} → IsBlockBuilder r q pieces restarts last since → entries_of_encoded [] pieces ≡ q
entries_of_encoded-built {r = r} {q = q} h =
    ap (entries_of_encoded []) h.pieces_are
    ∙ entries_of_encoded-pieces [] (encoded_entries_from r 0 [] q) (AreWide-of 0 (encoded_entries_from r 0 [] q) (AreOfBlock-pieces_from r q h.fits).pieces)
    ∙ entries_after-pieces_from r 0 [] q

pub IsBuilt-nil : (r : ℕ) → 1 ≤ r → r ≤ 1024 → IsBlockBuilder r [] [] [] [] 0
IsBuilt-nil r pos le = record {
  interval_pos = pos;
  interval_le = le;
  pieces_are = refl;
  restarts_are = refl;
  last_is = refl;
  since_is = sym (zero-mod r);
  fits = omega (arith, length-block r []);
}

-- ---- one more entry

pub pieces_from-push : (r i : ℕ) (before : List ℕ) (q : List Entry) (e : Entry) → encoded_entries_from r i before (q ++ e ∷ []) ≡ encoded_entries_from r i before q ++ encoded_entry_of r (i + length q) (last_key before q) e ∷ []
pieces_from-push r i before [] e = rw (add-zero i) refl
pieces_from-push r i before (x ∷ xs) e =
    let place : i + 1 + length xs ≡ i + suc (length xs) = omega arith in
    rw (pieces_from-push r (i + 1) x.key xs e, place) refl

pub last_key-push : (before : List ℕ) (q : List Entry) (e : Entry) → last_key before (q ++ e ∷ []) ≡ e.key
last_key-push before [] e = refl
last_key-push before (x ∷ xs) e = last_key-push x.key xs e

is_restart-by : (restart : Bool) (before : List ℕ) (e : Entry) → (piece_at_restart restart before e).is_restart ≡ restart
is_restart-by true before e = refl
is_restart-by false before e = refl

-- the piece that the next entry adds
abbrev pub next_piece : ℕ → List ℕ → List ℕ → List ℕ → EncodedEntry
next_piece since last key value = piece_at_restart (eqb since 0) last (record { key = key; value = value })

-- the entries after the last whole interval, one entry further on
abbrev pub next_since : ℕ → ℕ → ℕ
next_since r since = cond (eqb (since + 1) r) 0 (since + 1)

next_since-mod : (r n : ℕ) → 1 ≤ r → next_since r (n % r) ≡ (n + 1) % r
next_since-mod r n pos =
    let below : n % r < r = mod_below n r pos in
    elim (cases_eq (n % r + 1) r) [
      | inl same ↦ rw (eq-eqb (n % r + 1) r same) (sym (mod_self r) ∙ ap (λ (k : ℕ). k % r) (sym same) ∙ mod-add-mod n r 1)
      | inr other ↦ rw (ne_eqb (n % r + 1) r other) (let lt : n % r + 1 < r = omega arith in sym (mod-eq_of_lt lt) ∙ mod-add-mod n r 1)
    ]

-- fewer than an interval are counted
pub since_below : {r : ℕ} {q : List Entry} {pieces restarts last : List ℕ} {since : ℕ} → IsBlockBuilder r q pieces restarts last since → since < r
since_below {r = r} {q = q} h = omega (arith, h.since_is, mod_below (length q) r h.interval_pos)

-- the first piece of all begins with a restart, so the restarts of pieces are those from 0
restarts_of-cons : (p : EncodedEntry) (ps : List EncodedEntry) → p.is_restart ≡ true → length (restarts_of (p ∷ ps)) ≡ max (length (restarts_from 0 (p ∷ ps))) 1
restarts_of-cons p ps first =
    let len : length (restarts_from 0 (p ∷ ps)) ≡ length {A = ℕ} (cond p.is_restart (0 ∷ []) []) + length (restarts_from (0 + length (encoded_entry_bytes p)) ps) = length-append (cond p.is_restart (0 ∷ []) []) (restarts_from (0 + length (encoded_entry_bytes p)) ps) in
    let one : length {A = ℕ} (cond p.is_restart (0 ∷ []) []) ≡ 1 = rw first refl in
    omega (arith, len, one)

pub length-restarts_of : (r : ℕ) (q : List Entry) → length (restarts_of (encoded_entries_from r 0 [] q)) ≡ max (length (restarts_from 0 (encoded_entries_from r 0 [] q))) 1
length-restarts_of r [] = refl
length-restarts_of r (e ∷ es) = restarts_of-cons (encoded_entry_of r 0 [] e) (encoded_entries_from r (0 + 1) e.key es) (rw (zero-mod r) refl)

-- how long the block is that would be made of what is kept
pub length-built : {r : ℕ} {q : List Entry} {pieces restarts last : List ℕ} {since : ℕ} → IsBlockBuilder r q pieces restarts last since → length (block r q) ≡ length pieces + 4 * max (length restarts) 1 + 4
length-built {r = r} {q = q} h =
    rw (h.pieces_are, h.restarts_are) (omega (arith, length-block r q, length-restarts_of r q))

-- with one more entry
pub IsBuilt-push : {r : ℕ} {q : List Entry} {pieces restarts last : List ℕ} {since : ℕ} (key value : List ℕ) → IsBlockBuilder r q pieces restarts last since → length (block r (with_entry q key value)) ≤ 2 ^ 31
    → IsBlockBuilder r (with_entry q key value) (pieces ++ encoded_entry_bytes (next_piece since last key value)) (restarts ++ cond (eqb since 0) (length pieces ∷ []) []) key (next_since r since)
IsBuilt-push {r = r} {q = q} {pieces = pieces} {restarts = restarts} {last = last} {since = since} key value h fits =
    let e : Entry = record { key = key; value = value } in
    let p = next_piece since last key value in
    let same : encoded_entry_of r (0 + length q) (last_key [] q) e ≡ p =
    ap (λ (n : ℕ). piece_at_restart (eqb (n % r) 0) (last_key [] q) e) (zero-add (length q))
    ∙ ap (λ (n : ℕ). piece_at_restart (eqb n 0) (last_key [] q) e) (sym h.since_is)
    ∙ ap (λ (k : List ℕ). piece_at_restart (eqb since 0) k e) (sym h.last_is) in
    let pushed : encoded_entries_from r 0 [] (q ++ e ∷ []) ≡ encoded_entries_from r 0 [] q ++ p ∷ [] =
    pieces_from-push r 0 [] q e ∙ ap (λ (x : EncodedEntry). encoded_entries_from r 0 [] q ++ x ∷ []) same in
    let bytes : flat_map encoded_entry_bytes (encoded_entries_from r 0 [] q ++ p ∷ []) ≡ pieces ++ encoded_entry_bytes p =
    flat_map-append encoded_entry_bytes (encoded_entries_from r 0 [] q) (p ∷ [])
    ∙ ap (λ (x : List ℕ). flat_map encoded_entry_bytes (encoded_entries_from r 0 [] q) ++ x) (append-nil (encoded_entry_bytes p))
    ∙ ap (λ (x : List ℕ). x ++ encoded_entry_bytes p) (sym h.pieces_are) in
    let at : 0 + length (flat_map encoded_entry_bytes (encoded_entries_from r 0 [] q)) ≡ length pieces = zero-add _ ∙ ap length (sym h.pieces_are) in
    let noted : restarts_from 0 (encoded_entries_from r 0 [] q ++ p ∷ []) ≡ restarts ++ cond (eqb since 0) (length pieces ∷ []) [] =
    restarts_from-push 0 (encoded_entries_from r 0 [] q) p
    ∙ ap (λ (n : ℕ). restarts_from 0 (encoded_entries_from r 0 [] q) ++ cond p.is_restart (n ∷ []) []) at
    ∙ ap (λ (x : List ℕ). x ++ cond p.is_restart (length pieces ∷ []) []) (sym h.restarts_are)
    ∙ ap (λ (b : Bool). restarts ++ cond b (length pieces ∷ []) []) (is_restart-by (eqb since 0) last e) in
    record {
      interval_pos = h.interval_pos;
      interval_le = h.interval_le;
      pieces_are = sym (ap (flat_map encoded_entry_bytes) pushed ∙ bytes);
      restarts_are = sym (ap (restarts_from 0) pushed ∙ noted);
      last_is = sym (last_key-push [] q e);
      since_is = ap (next_since r) h.since_is ∙ next_since-mod r (length q) h.interval_pos ∙ ap (λ (n : ℕ). n % r) (sym (length_push q e));
      fits = fits;
    }

-- ---- how the next piece is made

-- the bytes left out of the key of the next entry
abbrev pub next_shared : ℕ → List ℕ → List ℕ → ℕ
next_shared since last key = cond (eqb since 0) 0 (common last key)

bytes_by : (restart : Bool) (last key value : List ℕ) → encoded_entry_bytes (record { is_restart = false; shared = cond restart 0 (common last key); unshared = drop (cond restart 0 (common last key)) key; value = value }) ≡ encoded_entry_bytes (piece_at_restart restart last (record { key = key; value = value }))
bytes_by true last key value = refl
bytes_by false last key value = refl

pub next_piece_bytes : (since : ℕ) (last key value unshared : List ℕ) (shared : ℕ) → shared ≡ next_shared since last key → unshared ≡ drop shared key
    → encoded_entry_bytes (record { is_restart = false; shared = shared; unshared = unshared; value = value }) ≡ encoded_entry_bytes (next_piece since last key value)
next_piece_bytes since last key value unshared shared shared_is unshared_is =
    rw (unshared_is, shared_is) (bytes_by (eqb since 0) last key value)

key_by : (restart : Bool) (last key : List ℕ) → take (cond restart 0 (common last key)) last ++ drop (cond restart 0 (common last key)) key ≡ key
key_by true last key = refl
key_by false last key = ap (λ (front : List ℕ). front ++ drop (common last key) key) (take-common last key) ∙ take-append-drop (common last key) key

-- what is left of the last key and what is not shared make the key
pub next_last : (since : ℕ) (last key unshared : List ℕ) (shared : ℕ) → shared ≡ next_shared since last key → unshared ≡ drop shared key → take shared last ++ unshared ≡ key
next_last since last key unshared shared shared_is unshared_is = rw (unshared_is, shared_is) (key_by (eqb since 0) last key)

-- what a builder keeps, by the entries that its pieces give
pub record IsKept (r : ℕ) (q : List Entry) (pieces restarts last : List ℕ) (since : ℕ) : Type 0 where
  pub built : IsBlockBuilder r (entries_of_encoded [] pieces) pieces restarts last since
  pub entries : entries_of_encoded [] pieces ≡ q

IsKept-built : (r : ℕ) (q : List Entry) (pieces restarts last : List ℕ) (since : ℕ) → IsBlockBuilder r q pieces restarts last since → IsKept r q pieces restarts last since
IsKept-built r q pieces restarts last since h =
    let same = entries_of_encoded-built h in
    record { built = subst (λ (x : List Entry). IsBlockBuilder r x pieces restarts last since) (sym same) h; entries = same }

pub IsKept-next : {r : ℕ} {q : List Entry} {pieces restarts last : List ℕ} {since : ℕ} (key value pieces' restarts' last' : List ℕ) (since' : ℕ) → IsBlockBuilder r q pieces restarts last since → length (block r (with_entry q key value)) ≤ 2 ^ 31
    → pieces' ≡ pieces ++ encoded_entry_bytes (next_piece since last key value) → restarts' ≡ restarts ++ cond (eqb since 0) (length pieces ∷ []) [] → last' ≡ key → since' ≡ next_since r since
    → IsKept r (with_entry q key value) pieces' restarts' last' since'
IsKept-next {r = r} {q = q} {pieces = pieces} {restarts = restarts} {last = last} {since = since} key value pieces' restarts' last' since' h fits pieces_are restarts_are last_is since_is =
    rw (pieces_are, restarts_are, last_is, since_is) (IsKept-built r (with_entry q key value) _ _ _ _ (IsBuilt-push key value h fits))

pub entries_of_encoded-next : {r : ℕ} {q : List Entry} {pieces restarts last : List ℕ} {since : ℕ} (key value pieces' : List ℕ) → IsBlockBuilder r q pieces restarts last since → length (block r (with_entry q key value)) ≤ 2 ^ 31
    → pieces' ≡ pieces ++ encoded_entry_bytes (next_piece since last key value) → entries_of_encoded [] pieces' ≡ with_entry q key value
entries_of_encoded-next key value pieces' h fits pieces_are = ap (entries_of_encoded []) pieces_are ∙ entries_of_encoded-built (IsBuilt-push key value h fits)

-- ---- finishing

-- if no restart is kept there is no entry
pub restarts_of-none : {r : ℕ} {q : List Entry} {pieces restarts last : List ℕ} {since : ℕ} → IsBlockBuilder r q pieces restarts last since → restarts ≡ [] → restarts_of (encoded_entries_from r 0 [] q) ≡ 0 ∷ []
restarts_of-none {q = []} h none = refl
restarts_of-none {r = r} {q = e ∷ es} h none =
    let first : (encoded_entry_of r 0 [] e).is_restart ≡ true = rw (zero-mod r) refl in
    absurd (cc (none, rw first at h.restarts_are))

pub restarts_of-some : {r : ℕ} {q : List Entry} {pieces restarts last : List ℕ} {since : ℕ} → IsBlockBuilder r q pieces restarts last since → 0 < length restarts → restarts_of (encoded_entries_from r 0 [] q) ≡ restarts
restarts_of-some {q = []} h some = absurd (omega (arith, ap length h.restarts_are))
restarts_of-some {q = e ∷ es} h some = sym h.restarts_are

-- The restarts that are written of those that are kept: 0 if there is none.
pub restarts_of-written : {r : ℕ} {q : List Entry} {pieces restarts last : List ℕ} {since : ℕ} (written : List ℕ) → IsBlockBuilder r q pieces restarts last since → ((length restarts ≡ 0) × (written ≡ 0 ∷ [])) ⊎ ((0 < length restarts) × (written ≡ restarts)) → restarts_of (encoded_entries_from r 0 [] q) ≡ written
restarts_of-written {restarts = restarts} written h (inl (none, is)) = restarts_of-none h (nil_from_length restarts none) ∙ sym is
restarts_of-written written h (inr (some, is)) = restarts_of-some h some ∙ sym is

-- the restarts that are written of what is kept
pub length-written : {r : ℕ} {q : List Entry} {pieces restarts last : List ℕ} {since : ℕ} (written : List ℕ) → IsBlockBuilder r q pieces restarts last since → restarts_of (encoded_entries_from r 0 [] q) ≡ written → length written < 2 ^ 32
length-written {r = r} {q = q} written h same = omega (arith, ap length same, length-block r q, h.fits)

pub finished : {r : ℕ} {q : List Entry} {pieces restarts last : List ℕ} {since : ℕ} (written : List ℕ) → IsBlockBuilder r q pieces restarts last since → restarts_of (encoded_entries_from r 0 [] q) ≡ written → pieces ++ restart_bytes written ≡ block r q
unfolding block
finished written h same = rw (h.pieces_are, ← same) refl
