-- One pass over the pieces of a block, with the restarts beside it.
use Rattle.std.proofs.Common.{◌≡◌, ◌≢◌, ℕ, ◌+◌, ◌-◌, ◌^◌, ◌<◌, ◌≤◌, Bool, true, false, cond, List, [], ◌∷◌, ◌++◌, length, Some, None, refl, sym, ap, subst, ◌∙◌, append_assoc, arith}
use Rattle.std.specs.List.{flat_map, AllByRecursion}
use Rattle.std.proofs.lemmas.List.{append-nil, append_cancel_left, length-append, nil_from_length}
use Rattle.std.proofs.lemmas.Grind.{flat_map-append}
use Rattle.std.proofs.lemmas.Option.{same_Some, none-some}
use Rattle.byteorder.specs.Endian.{little_bytes}
use Rattle.block.specs.EncodedEntry.{EncodedEntry, encoded_entry_bytes, restarts_from, restarts_of, IsEncodedEntryAfter, AreEncodedEntries, BeginsWithRestart, AreOfBlock}
use Rattle.block.specs.BuilderState.{IsArea}
use Rattle.block.specs.BlockParts.{BeginsWith}
use Rattle.block.specs.BlockPass.{key_len_after, AreBelowLimit, PassRead, PassAhead, PassState, IsNextEncodedEntry}
use Rattle.block.specs.EntryFormat.{FieldReading, encoded_entry_at}
use Rattle.block.proofs.Pieces.{plain, Widths, Widths-of, reads_piece, piece_at_front, front_entry_at-nil, length-piece_bytes_pos}
use Rattle.block.proofs.Restarts.{words, length-words, same_word}
use Rattle.block.proofs.Written.{AllByRecursion-append, restarts_from-push}

-- a piece at which a restart points, or none
abbrev pub marked : Bool → EncodedEntry → EncodedEntry
marked b p = record { is_restart = b; shared = p.shared; unshared = p.unshared; value = p.value }

-- ---- restarts

pub AllByRecursion-weaker : {X : Type 0} (P Q : X → Type 0) → ((x : X) → P x → Q x) → (xs : List X) → AllByRecursion P xs → AllByRecursion Q xs
AllByRecursion-weaker P Q f [] h = tt
AllByRecursion-weaker P Q f (x ∷ xs) h = (f x h.0, AllByRecursion-weaker P Q f xs h.1)

pub marks : (b : Bool) (at : ℕ) → AllByRecursion (λ r. at ≤ r) (cond b (at ∷ []) [])
marks true at = (omega arith, tt)
marks false at = tt

-- each restart is at or after the place where they begin
pub restarts_above : (at : ℕ) (ps : List EncodedEntry) → AllByRecursion (λ r. at ≤ r) (restarts_from at ps)
restarts_above at [] = tt
restarts_above at (p ∷ ps) =
    AllByRecursion-append (λ r. at ≤ r) (cond p.is_restart (at ∷ []) []) (restarts_from (at + length (encoded_entry_bytes p)) ps) (marks p.is_restart at)
    (AllByRecursion-weaker (λ r. at + length (encoded_entry_bytes p) ≤ r) (λ r. at ≤ r) (λ r h. omega arith) _ (restarts_above (at + length (encoded_entry_bytes p)) ps))

-- ---- what was read

ArePieces-push : (before : ℕ) (ps : List EncodedEntry) (p : EncodedEntry) → AreEncodedEntries before ps → IsEncodedEntryAfter (key_len_after before ps) p → AreEncodedEntries before (ps ++ p ∷ [])
ArePieces-push before [] p h q = (q, tt)
ArePieces-push before (x ∷ ps) p h q = (h.0, ArePieces-push (x.shared + length x.unshared) ps p h.1 q)

key_len_after-push : (before : ℕ) (ps : List EncodedEntry) (p : EncodedEntry) → key_len_after before (ps ++ p ∷ []) ≡ p.shared + length p.unshared
key_len_after-push before [] p = refl
key_len_after-push before (x ∷ ps) p = key_len_after-push (x.shared + length x.unshared) ps p

BeginsWithRestart-push : (ps : List EncodedEntry) (p : EncodedEntry) → BeginsWithRestart ps → (ps ≡ [] → p.is_restart ≡ true) → BeginsWithRestart (ps ++ p ∷ [])
BeginsWithRestart-push [] p h q = q refl
BeginsWithRestart-push (x ∷ ps) p h q = h

pub read_none : (area restarts : List ℕ) → PassRead area restarts area restarts 0
read_none area restarts = record { done = []; pieces = tt; whole = refl; passed = refl; last = refl; fit = tt; first = tt }

-- where the pieces so far end
pub read_at : (area restarts rest pending : List ℕ) (key_len : ℕ) (r : PassRead area restarts rest pending key_len) → length area - length rest ≡ length (flat_map encoded_entry_bytes r.done)
read_at area restarts rest pending key_len r = omega (arith, ap length r.whole, length-append (flat_map encoded_entry_bytes r.done) rest)

words-append : (xs ys : List ℕ) → words (xs ++ ys) ≡ words xs ++ words ys
words-append xs ys = flat_map-append (little_bytes 4) xs ys

area_more : (done : List EncodedEntry) (p : EncodedEntry) (area rest rest' : List ℕ) → area ≡ flat_map encoded_entry_bytes done ++ rest → rest ≡ encoded_entry_bytes p ++ rest' → area ≡ flat_map encoded_entry_bytes (done ++ p ∷ []) ++ rest'
area_more done p area rest rest' e f =
    let one : flat_map encoded_entry_bytes (done ++ p ∷ []) ≡ flat_map encoded_entry_bytes done ++ encoded_entry_bytes p = flat_map-append encoded_entry_bytes done (p ∷ []) ∙ ap (λ (t : List ℕ). flat_map encoded_entry_bytes done ++ t) (append-nil (encoded_entry_bytes p)) in
    e ∙ ap (λ (t : List ℕ). flat_map encoded_entry_bytes done ++ t) f ∙ sym (append_assoc (flat_map encoded_entry_bytes done) (encoded_entry_bytes p) rest') ∙ ap (λ (t : List ℕ). t ++ rest') (sym one)

-- one more piece, at which the next restart points
pub read_marked : (area restarts rest pending : List ℕ) (key_len at : ℕ) (p : EncodedEntry) (rest' pending' : List ℕ)
    → PassRead area restarts rest pending key_len → at ≡ length area - length rest → at < 2 ^ 32 → Widths p → rest ≡ encoded_entry_bytes p ++ rest' → p.shared ≡ 0 → pending ≡ little_bytes 4 at ++ pending'
    → PassRead area restarts rest' pending' (p.shared + length p.unshared)
read_marked area restarts rest pending key_len at p rest' pending' r at-is lt w whole none begins =
    let q : EncodedEntry = marked true p in
    let end : at ≡ 0 + length (flat_map encoded_entry_bytes r.done) = omega (arith, read_at area restarts rest pending key_len r) in
    let rs : restarts_from 0 (r.done ++ q ∷ []) ≡ restarts_from 0 r.done ++ at ∷ [] = restarts_from-push 0 r.done q ∙ ap (λ (n : ℕ). restarts_from 0 r.done ++ n ∷ []) (sym end) in
    let ws : words (restarts_from 0 (r.done ++ q ∷ [])) ++ pending' ≡ words (restarts_from 0 r.done) ++ (little_bytes 4 at ++ pending') =
    ap (λ (t : List ℕ). words t ++ pending') rs ∙ ap (λ (t : List ℕ). t ++ pending') (words-append (restarts_from 0 r.done) (at ∷ [])) ∙ append_assoc (words (restarts_from 0 r.done)) (words (at ∷ [])) pending' in
    record {
      done = r.done ++ q ∷ [];
      pieces = ArePieces-push 0 r.done q r.pieces (record { shared = rw none (omega arith); restart = λ e. none; shared_fits = w.shared; unshared_fits = w.unshared; value_fits = w.value });
      whole = area_more r.done q area rest rest' r.whole whole;
      passed = r.passed ∙ ap (λ (t : List ℕ). words (restarts_from 0 r.done) ++ t) begins ∙ sym ws;
      last = sym (key_len_after-push 0 r.done q);
      fit = subst (AreBelowLimit (2 ^ 32)) (sym rs) (AllByRecursion-append (λ x. x < 2 ^ 32) (restarts_from 0 r.done) (at ∷ []) r.fit (lt, tt));
      first = BeginsWithRestart-push r.done q r.first (λ e. refl);
    }

-- one more piece, at which no restart points
pub read_plain : (area restarts rest pending : List ℕ) (key_len at : ℕ) (p : EncodedEntry) (rest' : List ℕ)
    → PassRead area restarts rest pending key_len → at ≡ length area - length rest → Widths p → rest ≡ encoded_entry_bytes p ++ rest' → p.shared ≤ key_len → BeginsWith restarts 0 → ((at < 2 ^ 32) × BeginsWith pending at → ⊥)
    → PassRead area restarts rest' pending (p.shared + length p.unshared)
read_plain area restarts rest pending key_len at p rest' r at-is w whole enough begins none =
    let q : EncodedEntry = marked false p in
    let end : at ≡ 0 + length (flat_map encoded_entry_bytes r.done) = omega (arith, read_at area restarts rest pending key_len r) in
    let rs : restarts_from 0 (r.done ++ q ∷ []) ≡ restarts_from 0 r.done = restarts_from-push 0 r.done q ∙ append-nil (restarts_from 0 r.done) in
    let not_first : r.done ≡ [] → ⊥ = λ e.
    let zero-at : at ≡ 0 = end ∙ ap (λ (ps : List EncodedEntry). 0 + length (flat_map encoded_entry_bytes ps)) e in
    let same : restarts ≡ pending = r.passed ∙ ap (λ (ps : List EncodedEntry). words (restarts_from 0 ps) ++ pending) e in
    none (omega arith, (begins.0, sym same ∙ begins.1 ∙ ap (λ (n : ℕ). little_bytes 4 n ++ begins.0) (sym zero-at))) in
    record {
      done = r.done ++ q ∷ [];
      pieces = ArePieces-push 0 r.done q r.pieces (record { shared = subst (λ (n : ℕ). p.shared ≤ n) r.last enough; restart = λ e. absurd cc; shared_fits = w.shared; unshared_fits = w.unshared; value_fits = w.value });
      whole = area_more r.done q area rest rest' r.whole whole;
      passed = r.passed ∙ ap (λ (t : List ℕ). words t ++ pending) (sym rs);
      last = sym (key_len_after-push 0 r.done q);
      fit = subst (AreBelowLimit (2 ^ 32)) (sym rs) r.fit;
      first = BeginsWithRestart-push r.done q r.first (λ e. absurd (not_first e));
    }

-- ---- what is still to be read

-- the pieces of all of it, if it has some
pub ahead_all : (area restarts : List ℕ) → area ≢ [] → IsArea area restarts → BeginsWith restarts 0 × PassAhead area restarts 0 0
ahead_all area restarts some h = ahead_of area restarts some h.0 h.1 h.2 h.3
  where
    ahead_of : (area restarts : List ℕ) → area ≢ [] → (ps : List EncodedEntry) → AreOfBlock ps → area ≡ flat_map encoded_entry_bytes ps → restarts ≡ words (restarts_of ps) → BeginsWith restarts 0 × PassAhead area restarts 0 0
    ahead_of area restarts some [] h e f = absurd (some e)
    ahead_of area restarts some (p ∷ ps) h e f =
        let split : restarts_of (p ∷ ps) ≡ 0 ∷ restarts_from (0 + length (encoded_entry_bytes p)) ps = ap (λ (b : Bool). cond b (0 ∷ []) [] ++ restarts_from (0 + length (encoded_entry_bytes p)) ps) h.first in (
          (words (restarts_from (0 + length (encoded_entry_bytes p)) ps), f ∙ ap words split),
          record { more = p ∷ ps; pieces = h.pieces; whole = e; to_pass = f; fit = h.restarts.1 },
        )

-- a block without pieces has the one restart 0
pub area_nil : (restarts : List ℕ) → IsArea [] restarts → restarts ≡ words (0 ∷ [])
area_nil restarts h = nil_of h.0 h.2 h.3
  where
    nil_of : (ps : List EncodedEntry) → [] ≡ flat_map encoded_entry_bytes ps → restarts ≡ words (restarts_of ps) → restarts ≡ words (0 ∷ [])
    nil_of [] e f = f
    nil_of (p ∷ ps) e f = absurd (omega (arith, ap length e, length-append (encoded_entry_bytes p) (flat_map encoded_entry_bytes ps), length-piece_bytes_pos p))

-- the next of the pieces
record Next (rest pending : List ℕ) (key_len at : ℕ) : Type 0 where
  piece : EncodedEntry
  others : List EncodedEntry
  is_piece : IsEncodedEntryAfter key_len piece
  whole : rest ≡ encoded_entry_bytes piece ++ flat_map encoded_entry_bytes others
  pieces : AreEncodedEntries (piece.shared + length piece.unshared) others
  to_pass : pending ≡ words (cond piece.is_restart (at ∷ []) [] ++ restarts_from (at + length (encoded_entry_bytes piece)) others)
  fit : AreBelowLimit (2 ^ 32) (cond piece.is_restart (at ∷ []) [] ++ restarts_from (at + length (encoded_entry_bytes piece)) others)

next_of : (rest pending : List ℕ) (key_len at : ℕ) (ps : List EncodedEntry) → rest ≢ [] → AreEncodedEntries key_len ps → rest ≡ flat_map encoded_entry_bytes ps → pending ≡ words (restarts_from at ps) → AreBelowLimit (2 ^ 32) (restarts_from at ps) → Next rest pending key_len at
next_of rest pending key_len at [] some h e f fit = absurd (some e)
next_of rest pending key_len at (p ∷ ps) some h e f fit = record { piece = p; others = ps; is_piece = h.0; whole = e; pieces = h.1; to_pass = f; fit = fit }

next : (rest pending : List ℕ) (key_len at : ℕ) → rest ≢ [] → PassAhead rest pending key_len at → Next rest pending key_len at
next rest pending key_len at some a = next_of rest pending key_len at a.more some a.pieces a.whole a.to_pass a.fit

next_reads : (rest pending : List ℕ) (key_len at : ℕ) (n : Next rest pending key_len at) → encoded_entry_at rest ≡ Some (record { field = plain n.piece; rest = flat_map encoded_entry_bytes n.others })
next_reads rest pending key_len at n = piece_at_front rest n.piece (flat_map encoded_entry_bytes n.others) (Widths-of key_len n.piece n.is_piece) n.whole

pub ahead_reads : (rest pending : List ℕ) (key_len at : ℕ) → rest ≢ [] → encoded_entry_at rest ≡ None → PassAhead rest pending key_len at → ⊥
ahead_reads rest pending key_len at some e a =
    let n = next rest pending key_len at some a in
    none-some _ (sym e ∙ next_reads rest pending key_len at n)

-- nothing is ahead at the end
pub ahead_none : (pending : List ℕ) (key_len at : ℕ) → PassAhead [] pending key_len at → pending ≡ []
ahead_none pending key_len at a = of_none a.more a.whole a.to_pass
  where
    of_none : (ps : List EncodedEntry) → [] ≡ flat_map encoded_entry_bytes ps → pending ≡ words (restarts_from at ps) → pending ≡ []
    of_none [] e f = f
    of_none (p ∷ ps) e f = absurd (omega (arith, ap length e, length-append (encoded_entry_bytes p) (flat_map encoded_entry_bytes ps), length-piece_bytes_pos p))

-- restarts that begin after an offset don't begin with it
not_past : (at from : ℕ) (rs others : List ℕ) → at < from → at < 2 ^ 32 → AllByRecursion (λ r. from ≤ r) rs → AreBelowLimit (2 ^ 32) rs → words rs ≡ little_bytes 4 at ++ others → ⊥
not_past at from [] others lt fits above below e = absurd cc
not_past at from (r ∷ rs) others lt fits above below e =
    let same = same_word r at (words rs) others below.0 fits e in
    absurd (omega (arith, same.0, above.0))

-- the step at a piece where the next restart points
step_marked : (rest pending : List ℕ) (key_len at : ℕ) (others : List ℕ) (n : Next rest pending key_len at) (b : Bool) → n.piece.is_restart ≡ b → at < 2 ^ 32 → pending ≡ little_bytes 4 at ++ others
    → (n.piece.shared ≡ 0) × (others ≡ words (restarts_from (at + length (encoded_entry_bytes n.piece)) n.others)) × AreBelowLimit (2 ^ 32) (restarts_from (at + length (encoded_entry_bytes n.piece)) n.others)
step_marked rest pending key_len at others n true e lt begins =
    let f : pending ≡ little_bytes 4 at ++ words (restarts_from (at + length (encoded_entry_bytes n.piece)) n.others) = n.to_pass ∙ ap (λ (c : Bool). words (cond c (at ∷ []) [] ++ restarts_from (at + length (encoded_entry_bytes n.piece)) n.others)) e in
    let fit = subst (λ (c : Bool). AreBelowLimit (2 ^ 32) (cond c (at ∷ []) [] ++ restarts_from (at + length (encoded_entry_bytes n.piece)) n.others)) e n.fit in
    (n.is_piece.restart e, append_cancel_left (little_bytes 4 at) others _ (sym begins ∙ f), fit.1)
step_marked rest pending key_len at others n false e lt begins =
    let f : pending ≡ words (restarts_from (at + length (encoded_entry_bytes n.piece)) n.others) = n.to_pass ∙ ap (λ (c : Bool). words (cond c (at ∷ []) [] ++ restarts_from (at + length (encoded_entry_bytes n.piece)) n.others)) e in
    let fit : AreBelowLimit (2 ^ 32) (restarts_from (at + length (encoded_entry_bytes n.piece)) n.others) = subst (λ (c : Bool). AreBelowLimit (2 ^ 32) (cond c (at ∷ []) [] ++ restarts_from (at + length (encoded_entry_bytes n.piece)) n.others)) e n.fit in
    absurd (not_past at (at + length (encoded_entry_bytes n.piece)) (restarts_from (at + length (encoded_entry_bytes n.piece)) n.others) others (omega (arith, length-piece_bytes_pos n.piece)) lt (restarts_above (at + length (encoded_entry_bytes n.piece)) n.others) fit (sym f ∙ begins))

pub record Marked (rest pending others : List ℕ) (key_len at : ℕ) (x : FieldReading EncodedEntry) : Type 0 where
  pub shared : x.field.shared ≡ 0
  pub ahead : PassAhead x.rest others (x.field.shared + length x.field.unshared) (at + length (encoded_entry_bytes x.field))

pub ahead_marked : (rest pending others : List ℕ) (key_len at : ℕ) (x : FieldReading EncodedEntry) → rest ≢ [] → encoded_entry_at rest ≡ Some x → at < 2 ^ 32 → pending ≡ little_bytes 4 at ++ others → PassAhead rest pending key_len at → Marked rest pending others key_len at x
ahead_marked rest pending others key_len at x some e lt begins a =
    let n = next rest pending key_len at some a in
    let s = step_marked rest pending key_len at others n n.piece.is_restart refl lt begins in
    subst (Marked rest pending others key_len at) (same_Some _ _ (sym (next_reads rest pending key_len at n) ∙ e))
    (record { shared = s.0; ahead = record { more = n.others; pieces = n.pieces; whole = refl; to_pass = s.1; fit = s.2 } })

step_plain : (rest pending : List ℕ) (key_len at : ℕ) (n : Next rest pending key_len at) (b : Bool) → n.piece.is_restart ≡ b → ((at < 2 ^ 32) × BeginsWith pending at → ⊥)
    → (pending ≡ words (restarts_from (at + length (encoded_entry_bytes n.piece)) n.others)) × AreBelowLimit (2 ^ 32) (restarts_from (at + length (encoded_entry_bytes n.piece)) n.others)
step_plain rest pending key_len at n true e none =
    let fit = subst (λ (c : Bool). AreBelowLimit (2 ^ 32) (cond c (at ∷ []) [] ++ restarts_from (at + length (encoded_entry_bytes n.piece)) n.others)) e n.fit in
    absurd (none (fit.0, (words (restarts_from (at + length (encoded_entry_bytes n.piece)) n.others), n.to_pass ∙ ap (λ (c : Bool). words (cond c (at ∷ []) [] ++ restarts_from (at + length (encoded_entry_bytes n.piece)) n.others)) e)))
step_plain rest pending key_len at n false e none = (
  n.to_pass ∙ ap (λ (c : Bool). words (cond c (at ∷ []) [] ++ restarts_from (at + length (encoded_entry_bytes n.piece)) n.others)) e,
  subst (λ (c : Bool). AreBelowLimit (2 ^ 32) (cond c (at ∷ []) [] ++ restarts_from (at + length (encoded_entry_bytes n.piece)) n.others)) e n.fit,
)

pub record Plain (rest pending : List ℕ) (key_len at : ℕ) (x : FieldReading EncodedEntry) : Type 0 where
  pub shared : x.field.shared ≤ key_len
  pub ahead : PassAhead x.rest pending (x.field.shared + length x.field.unshared) (at + length (encoded_entry_bytes x.field))

pub ahead_plain : (rest pending : List ℕ) (key_len at : ℕ) (x : FieldReading EncodedEntry) → rest ≢ [] → encoded_entry_at rest ≡ Some x → ((at < 2 ^ 32) × BeginsWith pending at → ⊥) → PassAhead rest pending key_len at → Plain rest pending key_len at x
ahead_plain rest pending key_len at x some e none a =
    let n = next rest pending key_len at some a in
    let s = step_plain rest pending key_len at n n.piece.is_restart refl none in
    subst (Plain rest pending key_len at) (same_Some _ _ (sym (next_reads rest pending key_len at n) ∙ e))
    (record { shared = n.is_piece.shared; ahead = record { more = n.others; pieces = n.pieces; whole = refl; to_pass = s.0; fit = s.1 } })

-- a piece that is read shares no more than there is, if all of it is of a block
pub ahead_shared : (rest pending : List ℕ) (key_len at : ℕ) (x : FieldReading EncodedEntry) → rest ≢ [] → encoded_entry_at rest ≡ Some x → PassAhead rest pending key_len at → x.field.shared ≤ key_len
ahead_shared rest pending key_len at x some e a =
    let n = next rest pending key_len at some a in
    subst (λ (y : FieldReading EncodedEntry). y.field.shared ≤ key_len) (same_Some _ _ (sym (next_reads rest pending key_len at n) ∙ e)) n.is_piece.shared

-- ---- one pass

some_read : (rest : List ℕ) (x : FieldReading EncodedEntry) → encoded_entry_at rest ≡ Some x → rest ≢ []
some_read rest x e n = none-some x (sym (ap encoded_entry_at n ∙ front_entry_at-nil) ∙ e)

-- a piece takes bytes off
pub shorter : (rest : List ℕ) (x : FieldReading EncodedEntry) → encoded_entry_at rest ≡ Some x → length x.rest < length rest
shorter rest x e = let r = reads_piece rest x e in omega (arith, ap length r.parts, length-append (encoded_entry_bytes x.field) x.rest, length-piece_bytes_pos x.field)

moved : (area rest : List ℕ) (x : FieldReading EncodedEntry) → length rest ≤ length area → encoded_entry_at rest ≡ Some x → length area - length rest + length (encoded_entry_bytes x.field) ≡ length area - length x.rest
moved area rest x le e = let r = reads_piece rest x e in omega (arith, ap length r.parts, length-append (encoded_entry_bytes x.field) x.rest)

pub within : (area restarts rest pending : List ℕ) (key_len : ℕ) → PassRead area restarts rest pending key_len → length rest ≤ length area
within area restarts rest pending key_len r = omega (arith, ap length r.whole, length-append (flat_map encoded_entry_bytes r.done) rest)

pub kept_none : (area restarts : List ℕ) → area ≢ [] → PassState area restarts area restarts 0
kept_none area restarts some = record {
  so_far = read_none area restarts;
  ahead = λ h. subst (PassAhead area restarts 0) (omega arith) (ahead_all area restarts some h).1;
}

pub kept_marked : (area restarts rest pending others : List ℕ) (key_len : ℕ) (x : FieldReading EncodedEntry) → PassState area restarts rest pending key_len → encoded_entry_at rest ≡ Some x
    → length area - length rest < 2 ^ 32 → pending ≡ little_bytes 4 (length area - length rest) ++ others → x.field.shared ≡ 0 → PassState area restarts x.rest others (x.field.shared + length x.field.unshared)
kept_marked area restarts rest pending others key_len x k e lt begins none =
    let r = reads_piece rest x e in
    record {
      so_far = read_marked area restarts rest pending key_len (length area - length rest) x.field x.rest others k.so_far refl lt r.widths r.parts none begins;
      ahead = λ h. subst (PassAhead x.rest others (x.field.shared + length x.field.unshared)) (moved area rest x (within area restarts rest pending key_len k.so_far) e)
          (ahead_marked rest pending others key_len (length area - length rest) x (some_read rest x e) e lt begins (k.ahead h)).ahead;
    }

pub kept_plain : (area restarts rest pending : List ℕ) (key_len : ℕ) (x : FieldReading EncodedEntry) → PassState area restarts rest pending key_len → encoded_entry_at rest ≡ Some x
    → BeginsWith restarts 0 → ((length area - length rest < 2 ^ 32) × BeginsWith pending (length area - length rest) → ⊥) → x.field.shared ≤ key_len → PassState area restarts x.rest pending (x.field.shared + length x.field.unshared)
kept_plain area restarts rest pending key_len x k e begins none enough =
    let r = reads_piece rest x e in
    record {
      so_far = read_plain area restarts rest pending key_len (length area - length rest) x.field x.rest k.so_far refl r.widths r.parts enough begins none;
      ahead = λ h. subst (PassAhead x.rest pending (x.field.shared + length x.field.unshared)) (moved area rest x (within area restarts rest pending key_len k.so_far) e)
          (ahead_plain rest pending key_len (length area - length rest) x (some_read rest x e) e none (k.ahead h)).ahead;
    }

-- no piece stands there
pub no_piece : (area restarts rest pending : List ℕ) (key_len : ℕ) → PassState area restarts rest pending key_len → rest ≢ [] → encoded_entry_at rest ≡ None → IsArea area restarts → ⊥
no_piece area restarts rest pending key_len k some e h = ahead_reads rest pending key_len (length area - length rest) some e (k.ahead h)

pub too_much_shared : (area restarts rest pending : List ℕ) (key_len : ℕ) (x : FieldReading EncodedEntry) → PassState area restarts rest pending key_len → encoded_entry_at rest ≡ Some x → key_len < x.field.shared → IsArea area restarts → ⊥
too_much_shared area restarts rest pending key_len x k e lt h =
    let s = ahead_shared rest pending key_len (length area - length rest) x (some_read rest x e) e (k.ahead h) in omega arith

pub restart_shares : (area restarts rest pending others : List ℕ) (key_len : ℕ) (x : FieldReading EncodedEntry) → PassState area restarts rest pending key_len → encoded_entry_at rest ≡ Some x
    → length area - length rest < 2 ^ 32 → pending ≡ little_bytes 4 (length area - length rest) ++ others → x.field.shared ≢ 0 → IsArea area restarts → ⊥
restart_shares area restarts rest pending others key_len x k e lt begins some h =
    some (ahead_marked rest pending others key_len (length area - length rest) x (some_read rest x e) e lt begins (k.ahead h)).shared

-- at the end all restarts have passed, and otherwise it is no block
pub kept_all : (area restarts pending : List ℕ) (key_len : ℕ) → PassState area restarts [] pending key_len → IsArea area restarts → pending ≡ []
kept_all area restarts pending key_len k h = ahead_none pending key_len (length area - 0) (k.ahead h)

pub is_area : (area restarts : List ℕ) (key_len : ℕ) → area ≢ [] → length restarts < 2 ^ 34 → PassState area restarts [] [] key_len → IsArea area restarts
is_area area restarts key_len some short k = of_read k.so_far.done k.so_far.pieces (k.so_far.whole ∙ append-nil (flat_map encoded_entry_bytes k.so_far.done)) (k.so_far.passed ∙ append-nil (words (restarts_from 0 k.so_far.done))) k.so_far.fit k.so_far.first
  where
    of_read : (ps : List EncodedEntry) → AreEncodedEntries 0 ps → area ≡ flat_map encoded_entry_bytes ps → restarts ≡ words (restarts_from 0 ps) → AreBelowLimit (2 ^ 32) (restarts_from 0 ps) → BeginsWithRestart ps → IsArea area restarts
    of_read [] pieces e f fit first = absurd (some e)
    of_read (p ∷ ps) pieces e f fit first =
        let count : length (restarts_from 0 (p ∷ ps)) < 2 ^ 32 = omega (arith, ap length f, length-words (restarts_from 0 (p ∷ ps))) in
        (p ∷ ps, record { pieces = pieces; first = first; restarts = (count, fit) }, e, f)

-- without pieces there is the one restart 0
pub is_area_nil : (restarts : List ℕ) → BeginsWith restarts 0 → length restarts ≡ 4 → IsArea [] restarts
is_area_nil restarts begins len =
    let none : begins.0 ≡ [] = nil_from_length begins.0 (omega (arith, ap length begins.1)) in
    ([], record { pieces = tt; first = tt; restarts = (omega arith, (omega arith, tt)) }, refl, begins.1 ∙ ap (λ (t : List ℕ). little_bytes 4 0 ++ t) none)

pub begins_with_zero : (area restarts : List ℕ) → IsArea area restarts → BeginsWith restarts 0
begins_with_zero area restarts h = of_pieces h.0 h.1 h.3
  where
    of_pieces : (ps : List EncodedEntry) → AreOfBlock ps → restarts ≡ words (restarts_of ps) → BeginsWith restarts 0
    of_pieces [] a f = ([], f)
    of_pieces (p ∷ ps) a f = (words (restarts_from (0 + length (encoded_entry_bytes p)) ps), f ∙ ap (λ (b : Bool). words (cond b (0 ∷ []) [] ++ restarts_from (0 + length (encoded_entry_bytes p)) ps)) a.first)

-- ---- one step of the pass

pub next_marked : (area rest pending others : List ℕ) (key_len : ℕ) (x : FieldReading EncodedEntry) → encoded_entry_at rest ≡ Some x → x.field.shared ≤ key_len → length area - length rest < 2 ^ 32 → pending ≡ little_bytes 4 (length area - length rest) ++ others → x.field.shared ≡ 0
    → IsNextEncodedEntry area rest pending key_len x others
next_marked area rest pending others key_len x e enough lt begins none = record {
  read = e;
  shared = enough;
  kept = λ restarts first k. kept_marked area restarts rest pending others key_len x k e lt begins none;
}

pub next_plain : (area rest pending : List ℕ) (key_len : ℕ) (x : FieldReading EncodedEntry) → encoded_entry_at rest ≡ Some x → x.field.shared ≤ key_len → ((length area - length rest < 2 ^ 32) × BeginsWith pending (length area - length rest) → ⊥)
    → IsNextEncodedEntry area rest pending key_len x pending
next_plain area rest pending key_len x e enough none = record {
  read = e;
  shared = enough;
  kept = λ restarts first k. kept_plain area restarts rest pending key_len x k e first none enough;
}
