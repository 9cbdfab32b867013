-- A block that is written entry by entry, after other bytes.
use Rattle.std.proofs.Common.{◌≡◌, ℕ, ◌+◌, ◌^◌, ◌<◌, ◌≤◌, true, false, cond, eqb, List, [], ◌∷◌, ◌++◌, length, drop, refl, sym, ap, ◌∙◌, append_assoc, arith}
use Rattle.std.specs.List.{flat_map}
use Rattle.std.proofs.lemmas.List.{append-nil, length-append}
use Rattle.std.proofs.lemmas.Nat.{mod_below}
use Rattle.std.proofs.Math.Nat.{zero-mod}
use Rattle.block.specs.EncodedEntry.{Entry, encoded_entry_bytes, restarts_from, restarts_of, restart_bytes}
use Rattle.block.specs.BlockFormat.{encoded_entry_of, encoded_entries_from, block}
use Rattle.block.specs.BuilderView.{with_entry}
use Rattle.block.specs.BuilderState.{IsBlockBuilder}
use Rattle.block.proofs.Built.{next_piece, next_shared, next_since, next_piece_bytes, IsBuilt-nil, IsBuilt-push}
use Rattle.block.proofs.Written.{length-block}

-- the bytes of the pieces of entries
abbrev pub bytes_of : ℕ → List Entry → List ℕ
bytes_of r q = flat_map encoded_entry_bytes (encoded_entries_from r 0 [] q)

-- After some bytes come the encoded entries of these entries; and restarts, the last key and the number of entries after the last
-- whole interval are those of the entries.
pub record IsAppended (r : ℕ) (q : List Entry) (front out restarts last : List ℕ) (since : ℕ) : Type 0 where
  pub out_is : out ≡ front ++ bytes_of r q
  pub built : IsBlockBuilder r q (bytes_of r q) restarts last since

pub none_appended : (r : ℕ) (front restarts : List ℕ) → 1 ≤ r → r ≤ 1024 → restarts ≡ [] → IsAppended r [] front front restarts [] 0
none_appended r front restarts pos le none = rw none (record { out_is = sym (append-nil front); built = IsBuilt-nil r pos le })

-- how many bytes stand after the front
pub offset_is : {r : ℕ} {q : List Entry} {front out restarts last : List ℕ} {since : ℕ} → IsAppended r q front out restarts last since → length front + length (bytes_of r q) ≡ length out
offset_is {r = r} {q = q} {front = front} h = sym (ap length h.out_is ∙ length-append front (bytes_of r q))

pub offset_fits : {r : ℕ} {q : List Entry} {front out restarts last : List ℕ} {since : ℕ} → IsAppended r q front out restarts last since → length out < length front + 2 ^ 32
offset_fits {r = r} {q = q} h = omega (arith, offset_is h, length-block r q, h.built.fits)

pub since_below : {r : ℕ} {q : List Entry} {front out restarts last : List ℕ} {since : ℕ} → IsAppended r q front out restarts last since → since < r
since_below {r = r} {q = q} h = omega (arith, h.built.since_is, mod_below (length q) r h.built.interval_pos)

-- one more entry
pub one_appended : {r : ℕ} {q : List Entry} {front out restarts last : List ℕ} {since : ℕ} (key value unshared out' restarts' : List ℕ) (shared offset since' : ℕ) → IsAppended r q front out restarts last since
    → length (block r (with_entry q key value)) ≤ 2 ^ 31
    → shared ≡ next_shared since last key → unshared ≡ drop shared key → length front + offset ≡ length out
    → out' ≡ out ++ encoded_entry_bytes (record { is_restart = false; shared = shared; unshared = unshared; value = value })
    → restarts' ≡ restarts ++ cond (eqb since 0) (offset ∷ []) []
    → since' ≡ next_since r since
    → IsAppended r (with_entry q key value) front out' restarts' key since'
one_appended {r = r} {q = q} {front = front} {out = out} {restarts = restarts} {last = last} {since = since} key value unshared out' restarts' shared offset since' h fits shared_is unshared_is offset_at out_new restarts_new since_new =
    let piece = encoded_entry_bytes (record { is_restart = false; shared = shared; unshared = unshared; value = value }) in
    let pushed = IsBuilt-push key value h.built fits in
    let bytes : piece ≡ encoded_entry_bytes (next_piece since last key value) = next_piece_bytes since last key value unshared shared shared_is unshared_is in
    let at : offset ≡ length (bytes_of r q) = omega (arith, offset_at, offset_is h) in
    record {
      out_is = out_new ∙ ap (λ (x : List ℕ). x ++ piece) h.out_is ∙ append_assoc front (bytes_of r q) piece ∙ ap (λ (x : List ℕ). front ++ (bytes_of r q ++ x)) bytes ∙ ap (λ (x : List ℕ). front ++ x) pushed.pieces_are;
      built = record {
        interval_pos = h.built.interval_pos;
        interval_le = h.built.interval_le;
        pieces_are = refl;
        restarts_are = restarts_new ∙ ap (λ (n : ℕ). restarts ++ cond (eqb since 0) (n ∷ []) []) at ∙ pushed.restarts_are;
        last_is = pushed.last_is;
        since_is = since_new ∙ pushed.since_is;
        fits = fits;
      };
    }

-- ---- the restarts that are written

pub restarts_none : (r : ℕ) (q : List Entry) (restarts : List ℕ) → restarts ≡ restarts_from 0 (encoded_entries_from r 0 [] q) → restarts ≡ [] → restarts_of (encoded_entries_from r 0 [] q) ≡ 0 ∷ []
restarts_none r [] restarts are none = refl
restarts_none r (e ∷ es) restarts are none =
    let first : (encoded_entry_of r 0 [] e).is_restart ≡ true = rw (zero-mod r) refl in
    absurd (cc (none, rw first at are))

pub restarts_some : (r : ℕ) (q : List Entry) (restarts : List ℕ) → restarts ≡ restarts_from 0 (encoded_entries_from r 0 [] q) → 0 < length restarts → restarts_of (encoded_entries_from r 0 [] q) ≡ restarts
restarts_some r [] restarts are some = absurd (omega (arith, ap length are))
restarts_some r (e ∷ es) restarts are some = sym are

-- restarts are fewer than the bytes of their block
pub restarts_fit : (r : ℕ) (q : List Entry) (written : List ℕ) → length (block r q) ≤ 2 ^ 31 → restarts_of (encoded_entries_from r 0 [] q) ≡ written → length written < 2 ^ 32
restarts_fit r q written fits same = omega (arith, ap length same, length-block r q, fits)

-- pieces and their restarts are the block
pub whole_block : (r : ℕ) (q : List Entry) (front out written : List ℕ) → out ≡ front ++ bytes_of r q → restarts_of (encoded_entries_from r 0 [] q) ≡ written → out ++ restart_bytes written ≡ front ++ block r q
unfolding block
whole_block r q front out written out_is same = rw (out_is, ← same) (append_assoc front (bytes_of r q) (restart_bytes (restarts_of (encoded_entries_from r 0 [] q))))
