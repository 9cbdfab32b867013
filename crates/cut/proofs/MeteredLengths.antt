-- How long blocks and tables are.
use Rattle.std.proofs.Common.{◌≡◌, ℕ, ◌+◌, ◌*◌, ◌%◌, Bool, true, false, cond, eqb, List, [], ◌∷◌, ◌++◌, length, refl, ap, ◌∙◌, append-nil, zero-add, arith}
use Rattle.std.specs.List.{flat_map}
use Rattle.std.proofs.lemmas.List.{length-append}
use Rattle.std.proofs.lemmas.List.Concat.{flat_map-append}
use Rattle.std.proofs.Math.Nat.{zero-mod}
use Rattle.block.specs.EncodedEntry.{Entry, EncodedEntry, encoded_entry_bytes, restarts_from, restarts_of}
use Rattle.block.specs.BlockFormat.{block, encoded_entry_of, encoded_entries_from}
use Rattle.block.specs.BuilderView.{last_key}
use Rattle.block.proofs.Built.{pieces_from-push}
use Rattle.block.proofs.Written.{length-block, piece_at_restart, restarts_from-push}
use Rattle.table.specs.Trailer.{stored_block}
use Rattle.table.proofs.Indexes.{length-closing}
use Rattle.table.proofs.Stored.{length-stored}
use Rattle.table.specs.Table.{stored_blocks}
use Rattle.cut.specs.Lengths.{LengthsLaw, added_len, restart_len}

flat_more : (ps : List EncodedEntry) (p : EncodedEntry) → length (flat_map encoded_entry_bytes (ps ++ p ∷ [])) ≡ length (flat_map encoded_entry_bytes ps) + length (encoded_entry_bytes p)
flat_more ps p =
    ap length (flat_map-append encoded_entry_bytes ps (p ∷ []) ∙ ap (λ (bytes : List ℕ). flat_map encoded_entry_bytes ps ++ bytes) (append-nil (encoded_entry_bytes p)))
    ∙ length-append (flat_map encoded_entry_bytes ps) (encoded_entry_bytes p)

one_or_none : (b : Bool) (k : ℕ) → length {A = ℕ} (cond b (k ∷ []) []) ≡ cond b 1 0
one_or_none true k = refl
one_or_none false k = refl

restart_by : (b : Bool) (before : List ℕ) (e : Entry) → (piece_at_restart b before e).is_restart ≡ b
restart_by true before e = refl
restart_by false before e = refl

first_restart : (p : EncodedEntry) → p.is_restart ≡ true → length (restarts_of (p ∷ [])) ≡ 1
first_restart p is = rw is refl

-- four bytes a restart
four_by : (b : Bool) (after before : ℕ) → after ≡ before + cond b 1 0 → 4 * after ≡ 4 * before + cond b 4 0
four_by true after before e = omega arith
four_by false after before e = omega arith

-- the length of a block after and before one more entry, by its parts
step : (after pieces_after restarts_after before pieces_before restarts_before piece restart : ℕ) → after ≡ pieces_after + 4 * restarts_after + 4 → before ≡ pieces_before + 4 * restarts_before + 4
    → pieces_after ≡ pieces_before + piece → 4 * restarts_after ≡ 4 * restarts_before + restart → after ≡ before + (piece + restart)
step after pieces_after restarts_after before pieces_before restarts_before piece restart a b p r = omega arith

module _ (interval : ℕ) where
  abbrev all : List Entry → List EncodedEntry
  all q = encoded_entries_from interval 0 [] q

  abbrev next : List Entry → Entry → EncodedEntry
  next q e = encoded_entry_of interval (length q) (last_key [] q) e

  pieces_more : (q : List Entry) (e : Entry) → all (q ++ e ∷ []) ≡ all q ++ next q e ∷ []
  pieces_more q e = pieces_from-push interval 0 [] q e ∙ ap (λ (n : ℕ). all q ++ encoded_entry_of interval n (last_key [] q) e ∷ []) (zero-add (length q))

  next_restart : (q : List Entry) (e : Entry) → (next q e).is_restart ≡ eqb (length q % interval) 0
  next_restart q e = restart_by (eqb (length q % interval) 0) (last_key [] q) e

  restarts_more : (x : Entry) (xs : List Entry) (e : Entry) → length (restarts_of (all ((x ∷ xs) ++ e ∷ []))) ≡ length (restarts_of (all (x ∷ xs))) + cond (next (x ∷ xs) e).is_restart 1 0
  restarts_more x xs e =
      let ps = all (x ∷ xs) in
      let p = next (x ∷ xs) e in
      let new : List ℕ = cond p.is_restart ((0 + length (flat_map encoded_entry_bytes ps)) ∷ []) [] in
      let whole : restarts_from 0 (all ((x ∷ xs) ++ e ∷ [])) ≡ restarts_from 0 ps ++ new = ap (restarts_from 0) (pieces_more (x ∷ xs) e) ∙ restarts_from-push 0 ps p in
      ap length whole ∙ length-append (restarts_from 0 ps) new ∙ ap (λ (n : ℕ). length (restarts_from 0 ps) + n) (one_or_none p.is_restart (0 + length (flat_map encoded_entry_bytes ps)))

  pieces_len : (q : List Entry) (e : Entry) → length (flat_map encoded_entry_bytes (all (q ++ e ∷ []))) ≡ length (flat_map encoded_entry_bytes (all q)) + length (encoded_entry_bytes (next q e))
  pieces_len q e = ap (λ (ps : List EncodedEntry). length (flat_map encoded_entry_bytes ps)) (pieces_more q e) ∙ flat_more (all q) (next q e)

  restarts_len : (q : List Entry) (e : Entry) → 4 * length (restarts_of (all (q ++ e ∷ []))) ≡ 4 * length (restarts_of (all q)) + restart_len interval (length q)
  restarts_len [] e = ap (λ (n : ℕ). 4 * n) (first_restart (encoded_entry_of interval 0 [] e) (rw (zero-mod interval) refl))
  restarts_len (x ∷ xs) e =
      four_by (eqb (length (x ∷ xs) % interval) 0) (length (restarts_of (all ((x ∷ xs) ++ e ∷ [])))) (length (restarts_of (all (x ∷ xs))))
      (restarts_more x xs e ∙ ap (λ (b : Bool). length (restarts_of (all (x ∷ xs))) + cond b 1 0) (next_restart (x ∷ xs) e))

  more : (q : List Entry) (e : Entry) → length (block interval (q ++ e ∷ [])) ≡ length (block interval q) + added_len interval q e
  more q e =
      step (length (block interval (q ++ e ∷ []))) (length (flat_map encoded_entry_bytes (all (q ++ e ∷ [])))) (length (restarts_of (all (q ++ e ∷ []))))
      (length (block interval q)) (length (flat_map encoded_entry_bytes (all q))) (length (restarts_of (all q)))
      (length (encoded_entry_bytes (next q e))) (restart_len interval (length q))
      (length-block interval (q ++ e ∷ [])) (length-block interval q) (pieces_len q e) (restarts_len q e)

stored_more : (interval : ℕ) (parts : List (List Entry)) (p : List Entry) → length (stored_blocks interval (parts ++ p ∷ [])) ≡ length (stored_blocks interval parts) + (length (block interval p) + 5)
stored_more interval parts p =
    ap length (flat_map-append (λ (q : List Entry). stored_block (block interval q)) parts (p ∷ []) ∙ ap (λ (bytes : List ℕ). stored_blocks interval parts ++ bytes) (append-nil (stored_block (block interval p))))
    ∙ length-append (stored_blocks interval parts) (stored_block (block interval p))
    ∙ ap (λ (n : ℕ). length (stored_blocks interval parts) + n) (length-stored (block interval p))

pub lengths_law : LengthsLaw
lengths_law = record { none = λ interval. length-block interval []; more = more; stored = stored_more; closed = length-closing }
