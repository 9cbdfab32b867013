-- How long a block is, and what one more entry adds to it.
use Rattle.std.proofs.Common.{◌≡◌, ℕ, ◌+◌, ◌^◌, ◌≤◌, Bool, true, false, cond, List, [], ◌∷◌, ◌++◌, length, ap, ◌∙◌, append_assoc, arith}
use Rattle.std.specs.List.{flat_map}
use Rattle.std.proofs.lemmas.List.{length-append, append-nil}
use Rattle.std.proofs.lemmas.List.Concat.{flat_map-append}
use Rattle.block.specs.EncodedEntry.{Entry, EncodedEntry, encoded_entry_bytes, restarts_from}
use Rattle.block.specs.BlockFormat.{encoded_entry_of, encoded_entries_from, block}
use Rattle.block.specs.BuilderView.{BlockBuilding, last_key, with_entry}
use Rattle.block.proofs.Written.{length-block, length-piece_bytes_le, length-piece_bytes_ge, entry_of_lengths-holds, restarts_from-push}
use Rattle.block.proofs.Built.{pieces_from-push, length-restarts_of}

pub length-block-nil : (r : ℕ) → length (block r []) ≡ 8
length-block-nil r = omega (arith, length-block r [])

-- what one more piece adds to the restarts
one_restart : (restart : Bool) (at : ℕ) → length {A = ℕ} (cond restart (at ∷ []) []) ≤ 1
one_restart true at = omega arith
one_restart false at = omega arith

-- what one more entry adds, in bytes: three lengths, the rest of the key and the value, and perhaps a restart
pub record Grows (r : ℕ) (q : List Entry) (e : Entry) : Type 0 where
  pub at_least : length (block r q) + 3 + length e.value ≤ length (block r (q ++ e ∷ []))
  pub at_most : length (block r (q ++ e ∷ [])) ≤ length (block r q) + 34 + length e.key + length e.value

pub block-grows : (r : ℕ) (q : List Entry) (e : Entry) → Grows r q e
block-grows r q e =
    let p = encoded_entry_of r (0 + length q) (last_key [] q) e in
    let ps = encoded_entries_from r 0 [] q in
    let h = entry_of_lengths-holds r (0 + length q) (last_key [] q) e in
    let pushed = pieces_from-push r 0 [] q e in
    let bytes : length (flat_map encoded_entry_bytes (encoded_entries_from r 0 [] (q ++ e ∷ []))) ≡ length (flat_map encoded_entry_bytes ps) + length (encoded_entry_bytes p) =
    ap (λ (x : List EncodedEntry). length (flat_map encoded_entry_bytes x)) pushed ∙ ap length (flat_map-append encoded_entry_bytes ps (p ∷ []) ∙ ap (λ (x : List ℕ). flat_map encoded_entry_bytes ps ++ x) (append-nil (encoded_entry_bytes p))) ∙ length-append (flat_map encoded_entry_bytes ps) (encoded_entry_bytes p) in
    let at = 0 + length (flat_map encoded_entry_bytes ps) in
    let restarts : length (restarts_from 0 (encoded_entries_from r 0 [] (q ++ e ∷ []))) ≡ length (restarts_from 0 ps) + length {A = ℕ} (cond p.is_restart (at ∷ []) []) =
    ap (λ (x : List EncodedEntry). length (restarts_from 0 x)) pushed ∙ ap length (restarts_from-push 0 ps p) ∙ length-append (restarts_from 0 ps) (cond p.is_restart (at ∷ []) []) in
    let value : length p.value ≡ length e.value = ap length h.value in
    record {
      at_least = omega (arith, length-block r q, length-block r (q ++ e ∷ []), length-restarts_of r q, length-restarts_of r (q ++ e ∷ []), bytes, restarts, value, length-piece_bytes_ge p);
      at_most = omega (arith, length-block r q, length-block r (q ++ e ∷ []), length-restarts_of r q, length-restarts_of r (q ++ e ∷ []), bytes, restarts, value, h.key_len, one_restart p.is_restart at, length-piece_bytes_le p);
    }

-- no block of a front of a list is longer than that of the list
pub length-block-append : (r : ℕ) (q es : List Entry) → length (block r q) ≤ length (block r (q ++ es))
length-block-append r q [] = rw append-nil (omega arith)
length-block-append r q (e ∷ es) =
    let one = block-grows r q e in
    let rest : length (block r (q ++ e ∷ [])) ≤ length (block r (q ++ e ∷ es)) = rw (← append_assoc q (e ∷ []) es) (length-block-append r (q ++ e ∷ []) es) in
    omega (arith, one.at_least, rest)

-- There is room for one more entry if the block so far leaves room for its bytes and 34 more.
pub fits_with_entry : (b : BlockBuilding) (key value : List ℕ) → length (block b.interval b.entries) + 34 + length key + length value ≤ 2 ^ 31 → length (block b.interval (with_entry b.entries key value)) ≤ 2 ^ 31
fits_with_entry b key value room = omega (arith, (block-grows b.interval b.entries (record { key = key; value = value })).at_most)
