-- Bytes read as a list of entries exactly if they are a block of it.
use Rattle.std.proofs.Common.{◌≡◌, ℕ, zero, suc, ◌+◌, ◌*◌, ◌^◌, ◌<◌, ◌≤◌, Bool, true, false, cond, not, ◌&&◌, ◌||◌, nat_le, nat_lt, nat_eq, List, [], ◌∷◌, ◌++◌, length, take, drop, Result, Ok, Err, refl, sym, ap, ◌∙◌, arith}
use Rattle.std.specs.List.{flat_map, AllByRecursion, list_all}
use Rattle.std.specs.Str.{bytes_eq}
use Rattle.std.proofs.lemmas.Bool.{eqb-true, eq-eqb, ne_eqb, ltb-true, lt-ltb, leb-true, le-leb, and_parts, and_from}
use Rattle.std.proofs.lemmas.Slice.Eq.{bytes_eq-Decides}
use Rattle.std.proofs.lemmas.List.{take_at, drop_at}
use Rattle.byteorder.specs.Endian.{little_bytes}
use Rattle.coding.specs.Answers.{fault}
use Rattle.coding.specs.declared.fault.Fault.{Fault}
use Rattle.coding.specs.declared.fault.FaultName.TheVariants.{Block}
use Rattle.block.specs.EncodedEntry.{Entry, EncodedEntry, encoded_entry_bytes, entries_after, restarts_from, restarts_of, block_bytes, IsEncodedEntryAfter, AreEncodedEntries, BeginsWithRestart, AreOfBlock, IsBlock}
use Rattle.block.specs.BlockParts.{HasBlockParts}
use Rattle.block.specs.BlockView.{numbers_in}
use Rattle.block.proofs.Pieces.{Widths-of, piece_at_front, front_entry_at-nil, length-piece_bytes_pos, length-pieces}
use Rattle.block.proofs.Restarts.{words, length-words}
use Rattle.block.proofs.Splits.{split_count}
use Rattle.block.proofs.Areas.{restarts_above}
use Rattle.block.proofs.Places.{numbers_in-words}
use Rattle.block.proofs.Checks.{some_restart}
use Rattle.block.specs.BlockReading.{restart_count, area_len, restarts_in, is_next, restarts_from_place, encoded_entries_in, encoded_entries_of, is_encoded_entry_after, are_encoded_entries, begins_with_restart, are_of_block, block_reading, ReadsBlocks}

-- ---- the tests are those of a block

restart_of : (b : Bool) (x : ℕ) → (not b || nat_eq x 0) ≡ true → b ≡ true → x ≡ 0
restart_of true x e f = eqb-true x 0 e
restart_of false x e f = absurd cc

of_restart : (b : Bool) (x : ℕ) → (b ≡ true → x ≡ 0) → (not b || nat_eq x 0) ≡ true
of_restart true x h = eq-eqb x 0 (h refl)
of_restart false x h = refl

piece_is : (before : ℕ) (p : EncodedEntry) → is_encoded_entry_after before p ≡ true → IsEncodedEntryAfter before p
piece_is before p h =
    let a = and_parts _ (nat_lt (length p.value) (2 ^ 32)) h in
    let b = and_parts _ (nat_lt (length p.unshared) (2 ^ 32)) a.0 in
    let c = and_parts _ (nat_lt p.shared (2 ^ 32)) b.0 in
    let d = and_parts (nat_le p.shared before) (not p.is_restart || nat_eq p.shared 0) c.0 in
    record {
      shared = leb-true p.shared before d.0;
      restart = restart_of p.is_restart p.shared d.1;
      shared_fits = ltb-true p.shared (2 ^ 32) c.1;
      unshared_fits = ltb-true (length p.unshared) (2 ^ 32) b.1;
      value_fits = ltb-true (length p.value) (2 ^ 32) a.1;
    }

is_piece : (before : ℕ) (p : EncodedEntry) → IsEncodedEntryAfter before p → is_encoded_entry_after before p ≡ true
is_piece before p h =
    and_from _ (nat_lt (length p.value) (2 ^ 32))
    (and_from _ (nat_lt (length p.unshared) (2 ^ 32))
    (and_from _ (nat_lt p.shared (2 ^ 32))
    (and_from (nat_le p.shared before) (not p.is_restart || nat_eq p.shared 0) (le-leb p.shared before h.shared) (of_restart p.is_restart p.shared h.restart))
    (lt-ltb p.shared (2 ^ 32) h.shared_fits))
    (lt-ltb (length p.unshared) (2 ^ 32) h.unshared_fits))
    (lt-ltb (length p.value) (2 ^ 32) h.value_fits)

pieces_are : (before : ℕ) (ps : List EncodedEntry) → are_encoded_entries before ps ≡ true → AreEncodedEntries before ps
pieces_are before [] h = tt
pieces_are before (p ∷ ps) h =
    let a = and_parts (is_encoded_entry_after before p) (are_encoded_entries (p.shared + length p.unshared) ps) h in
    (piece_is before p a.0, pieces_are (p.shared + length p.unshared) ps a.1)

all_pieces : (before : ℕ) (ps : List EncodedEntry) → AreEncodedEntries before ps → are_encoded_entries before ps ≡ true
all_pieces before [] h = refl
all_pieces before (p ∷ ps) h = and_from (is_encoded_entry_after before p) (are_encoded_entries (p.shared + length p.unshared) ps) (is_piece before p h.0) (all_pieces (p.shared + length p.unshared) ps h.1)

begins_is : (ps : List EncodedEntry) → begins_with_restart ps ≡ true → BeginsWithRestart ps
begins_is [] h = tt
begins_is (p ∷ ps) h = h

is_begun : (ps : List EncodedEntry) → BeginsWithRestart ps → begins_with_restart ps ≡ true
is_begun [] h = refl
is_begun (p ∷ ps) h = h

below_is : (limit : ℕ) (xs : List ℕ) → list_all (λ x. nat_lt x limit) xs ≡ true → AllByRecursion (λ x. x < limit) xs
below_is limit [] h = tt
below_is limit (x ∷ xs) h =
    let a = and_parts (nat_lt x limit) (list_all (λ x. nat_lt x limit) xs) h in
    (ltb-true x limit a.0, below_is limit xs a.1)

all_below : (limit : ℕ) (xs : List ℕ) → AllByRecursion (λ x. x < limit) xs → list_all (λ x. nat_lt x limit) xs ≡ true
all_below limit [] h = refl
all_below limit (x ∷ xs) h = and_from (nat_lt x limit) (list_all (λ x. nat_lt x limit) xs) (lt-ltb x limit h.0) (all_below limit xs h.1)

of_block : (ps : List EncodedEntry) → are_of_block ps ≡ true → AreOfBlock ps
of_block ps h =
    let a = and_parts (are_encoded_entries 0 ps && begins_with_restart ps) (list_all (λ x. nat_lt x (2 ^ 32)) (length (restarts_of ps) ∷ restarts_of ps)) h in
    let b = and_parts (are_encoded_entries 0 ps) (begins_with_restart ps) a.0 in
    record { pieces = pieces_are 0 ps b.0; first = begins_is ps b.1; restarts = below_is (2 ^ 32) (length (restarts_of ps) ∷ restarts_of ps) a.1 }

is_of_block : (ps : List EncodedEntry) → AreOfBlock ps → are_of_block ps ≡ true
is_of_block ps h =
    and_from (are_encoded_entries 0 ps && begins_with_restart ps) (list_all (λ x. nat_lt x (2 ^ 32)) (length (restarts_of ps) ∷ restarts_of ps))
    (and_from (are_encoded_entries 0 ps) (begins_with_restart ps) (all_pieces 0 ps h.pieces) (is_begun ps h.first)) (all_below (2 ^ 32) (length (restarts_of ps) ∷ restarts_of ps) h.restarts)

-- ---- the pieces of a block are read again

-- restarts that lie after an offset don't begin with it
past : (at from : ℕ) (rs : List ℕ) → at < from → AllByRecursion (λ r. from ≤ r) rs → is_next rs at ≡ false
past at from [] lt h = refl
past at from (r ∷ rs) lt h = ne_eqb r at (λ e. omega (arith, e, h.0))

-- whether the next restart is this offset, and the restarts after it
next_mark : (b : Bool) (at from : ℕ) (rs : List ℕ) → at < from → AllByRecursion (λ r. from ≤ r) rs → (is_next (cond b (at ∷ []) [] ++ rs) at ≡ b) × (restarts_from_place (cond b (at ∷ []) [] ++ rs) at ≡ rs)
next_mark true at from rs lt h = (eq-eqb at at refl, ap (λ (b : Bool). cond b rs (at ∷ rs)) (eq-eqb at at refl))
next_mark false at from rs lt h = (past at from rs lt h, ap (λ (b : Bool). cond b (drop 1 rs) rs) (past at from rs lt h))

pieces_in-spelt : (n before at : ℕ) (ps : List EncodedEntry) → AreEncodedEntries before ps → length ps ≤ n → encoded_entries_in n at (restarts_from at ps) (flat_map encoded_entry_bytes ps) ≡ ps
pieces_in-spelt zero before at [] h le = refl
pieces_in-spelt zero before at (p ∷ ps) h le = absurd (omega arith)
pieces_in-spelt (suc n) before at [] h le = rw front_entry_at-nil refl
pieces_in-spelt (suc n) before at (p ∷ ps) h le =
    let rest = flat_map encoded_entry_bytes ps in
    let others = restarts_from (at + length (encoded_entry_bytes p)) ps in
    let mark = next_mark p.is_restart at (at + length (encoded_entry_bytes p)) others (omega (arith, length-piece_bytes_pos p)) (restarts_above (at + length (encoded_entry_bytes p)) ps) in
    rw (piece_at_front (encoded_entry_bytes p ++ rest) p rest (Widths-of before p h.0) refl, mark.1, mark.0)
    (ap (λ (qs : List EncodedEntry). p ∷ qs) (pieces_in-spelt n (p.shared + length p.unshared) (at + length (encoded_entry_bytes p)) ps h.1 (omega arith)))

pieces_spelt : (ps : List EncodedEntry) → AreOfBlock ps → encoded_entries_in (length (flat_map encoded_entry_bytes ps)) 0 (restarts_of ps) (flat_map encoded_entry_bytes ps) ≡ ps
pieces_spelt [] h = refl
pieces_spelt (p ∷ ps) h = pieces_in-spelt (length (flat_map encoded_entry_bytes (p ∷ ps))) 0 0 (p ∷ ps) h.pieces (length-pieces (p ∷ ps))

-- the parts of a block's bytes
pieces_of-split : (bytes area restarts : List ℕ) → HasBlockParts bytes area restarts → encoded_entries_of bytes ≡ encoded_entries_in (length area) 0 (numbers_in restarts) area
unfolding encoded_entries_of
pieces_of-split bytes area restarts s =
    let c = split_count bytes area restarts s in
    let count : restart_count bytes ≡ s.count = c.0 in
    let len : area_len bytes ≡ length area = omega (arith, c.0, c.1) in
    let front : take (area_len bytes) bytes ≡ area = ap (take (area_len bytes)) s.whole ∙ take_at area (restarts ++ little_bytes 4 s.count) (area_len bytes) (sym len) in
    let tail : drop (area_len bytes) bytes ≡ restarts ++ little_bytes 4 s.count = ap (drop (area_len bytes)) s.whole ∙ drop_at area (restarts ++ little_bytes 4 s.count) (area_len bytes) (sym len) in
    let numbers : restarts_in bytes ≡ numbers_in restarts = ap (λ (t : List ℕ). numbers_in (take (4 * restart_count bytes) t)) tail ∙ ap numbers_in (take_at restarts (little_bytes 4 s.count) (4 * restart_count bytes) (omega (arith, count, s.len))) in
    rw (front, numbers, len) refl

pieces_of-block : (bytes : List ℕ) (ps : List EncodedEntry) → AreOfBlock ps → bytes ≡ block_bytes ps → encoded_entries_of bytes ≡ ps
pieces_of-block bytes ps h e =
    let split : HasBlockParts bytes (flat_map encoded_entry_bytes ps) (words (restarts_of ps)) = record { count = length (restarts_of ps); some = some_restart ps h.first; fits = h.restarts.0; len = length-words (restarts_of ps); whole = e } in
    pieces_of-split bytes (flat_map encoded_entry_bytes ps) (words (restarts_of ps)) split
    ∙ ap (λ (rs : List ℕ). encoded_entries_in (length (flat_map encoded_entry_bytes ps)) 0 rs (flat_map encoded_entry_bytes ps)) (numbers_in-words (restarts_of ps) h.restarts.1)
    ∙ pieces_spelt ps h

-- ---- the reading

by_tests : (a b : Bool) (x q : List Entry) (e : Fault) → cond (a && b) (let r : Result (List Entry) Fault = Ok x in r) (Err e) ≡ Ok q → (a ≡ true) × (b ≡ true) × (x ≡ q)
by_tests true true x q e h = (refl, refl, let same : x ≡ q = cc in same)
by_tests true false x q e h = absurd cc
by_tests false b x q e h = absurd cc

found : (bytes : List ℕ) (q : List Entry) → block_reading bytes ≡ Ok q → IsBlock bytes q
unfolding block_reading
found bytes q h =
    let t = by_tests (are_of_block (encoded_entries_of bytes)) (bytes_eq bytes (block_bytes (encoded_entries_of bytes))) (entries_after [] (encoded_entries_of bytes)) q (fault Block) h in
    (encoded_entries_of bytes, of_block (encoded_entries_of bytes) t.0, (bytes_eq-Decides bytes (block_bytes (encoded_entries_of bytes))).0 t.1, t.2)

only : (bytes : List ℕ) (q : List Entry) → IsBlock bytes q → block_reading bytes ≡ Ok q
unfolding block_reading
only bytes q h =
    let ps = h.0 in
    let same : encoded_entries_of bytes ≡ ps = pieces_of-block bytes ps h.1 h.2 in
    rw (same, is_of_block ps h.1, (bytes_eq-Decides bytes (block_bytes ps)).1 h.2, h.3) refl

pub reads_blocks : ReadsBlocks
reads_blocks = record { found = found; only = only }

-- a refusal is Block
pub refused : (bytes : List ℕ) (e : Fault) → block_reading bytes ≡ Err e → e ≡ fault Block
unfolding block_reading
refused bytes e h = of_test (are_of_block (encoded_entries_of bytes) && bytes_eq bytes (block_bytes (encoded_entries_of bytes))) (entries_after [] (encoded_entries_of bytes)) h
  where
    of_test : (b : Bool) (x : List Entry) → cond b (let r : Result (List Entry) Fault = Ok x in r) (Err (fault Block)) ≡ Err e → e ≡ fault Block
    of_test true x h = absurd cc
    of_test false x h = cc
