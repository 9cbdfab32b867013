-- The places among the entries at which restarts point, and the entries from there on.
use Rattle.std.proofs.Common.{◌≡◌, ℕ, zero, suc, ◌+◌, ◌*◌, ◌^◌, ◌<◌, ◌≤◌, Bool, true, false, cond, List, [], ◌∷◌, ◌++◌, map, length, take, drop, get_or, Some, refl, sym, ap, subst, ◌∙◌, append_assoc, arith}
use Rattle.std.specs.List.{flat_map, All, AllByRecursion, slice_get}
use Rattle.std.specs.List.Sorted.{IsStrictlyIncreasing}
use Rattle.std.proofs.lemmas.List.{append-nil, length-append, take_at, drop_at, drop-drop}
use Rattle.std.proofs.lemmas.Grind.{flat_map-append}
use Rattle.std.proofs.lemmas.Option.{none-some}
use Rattle.byteorder.specs.Endian.{little_number}
use Rattle.block.specs.EncodedEntry.{Entry, EncodedEntry, encoded_entry_bytes, key_after, entries_after, restarts_from, restarts_of, AreEncodedEntries, BeginsWithRestart, AreOfBlock}
use Rattle.block.specs.BuilderState.{IsArea, entries_before, sound_in}
use Rattle.block.specs.EntriesOfBytes.{entries_of_encoded, AreEncodedEntriesAfter}
use Rattle.block.specs.BlockView.{restart_places_from, places_of, numbers_in}
use Rattle.block.proofs.Pieces.{Widths, AreWide, AreWide-of, entries_of_encoded-pieces}
use Rattle.block.proofs.Restarts.{words, length-words, front_word}
use Rattle.block.proofs.Written.{AllByRecursion-append}
use Rattle.block.proofs.Areas.{AllByRecursion-weaker, marks}
use Rattle.block.proofs.Walks.{length-key_after, entries_of_area}

-- ---- numbers of four bytes

pub numbers_in-words : (rs : List ℕ) → AllByRecursion (λ r. r < 2 ^ 32) rs → numbers_in (words rs) ≡ rs
numbers_in-words [] h = refl
numbers_in-words (r ∷ rs) h = ap (λ (n : ℕ). n ∷ numbers_in (words rs)) (front_word r [] h.0) ∙ ap (λ (t : List ℕ). r ∷ t) (numbers_in-words rs h.1)

-- the number at a place among them
number_at : (rs : List ℕ) (r : ℕ) → AllByRecursion (λ r. r < 2 ^ 32) rs → r < length rs → little_number 4 (drop (r * 4) (words rs)) ≡ get_or rs r 0
number_at [] r h lt = absurd (omega arith)
number_at (x ∷ rs) zero h lt = front_word x (words rs) h.0
number_at (x ∷ rs) (suc r) h lt =
    let e : suc r * 4 ≡ suc (suc (suc (suc (r * 4)))) = omega arith in
    rw e (number_at rs r h.1 (omega arith))

-- ---- the places of restarts

length-entries_after : (before : List ℕ) (ps : List EncodedEntry) → length (entries_after before ps) ≡ length ps
length-entries_after before [] = refl
length-entries_after before (p ∷ ps) = ap suc (length-entries_after (key_after before p) ps)

AreWide-push : (ps : List EncodedEntry) (p : EncodedEntry) → AreWide ps → Widths p → AreWide (ps ++ p ∷ [])
AreWide-push [] p h w = (w, tt)
AreWide-push (x ∷ ps) p h w = (h.0, AreWide-push ps p h.1 w)

-- at the end of some pieces, that many entries stand before
entries_before-pieces : (done : List EncodedEntry) (rest : List ℕ) → AreWide done → entries_before (flat_map encoded_entry_bytes done ++ rest) (length (flat_map encoded_entry_bytes done)) ≡ length done
entries_before-pieces done rest h =
    ap (λ (t : List ℕ). length (entries_of_encoded [] t)) (take_at (flat_map encoded_entry_bytes done) rest (length (flat_map encoded_entry_bytes done)) refl)
    ∙ ap length (entries_of_encoded-pieces [] done h)
    ∙ length-entries_after [] done

map-mark : (f : ℕ → ℕ) (b : Bool) (at place : ℕ) (xs ys : List ℕ) → f at ≡ place → map f xs ≡ ys → map f (cond b (at ∷ []) [] ++ xs) ≡ cond b (place ∷ []) [] ++ ys
map-mark f true at place xs ys e g = ap (λ (n : ℕ). n ∷ map f xs) e ∙ ap (λ (t : List ℕ). place ∷ t) g
map-mark f false at place xs ys e g = g

places_from-restarts : (area : List ℕ) (done ps : List EncodedEntry) (at place : ℕ) → AreWide done → AreWide ps → area ≡ flat_map encoded_entry_bytes done ++ flat_map encoded_entry_bytes ps → at ≡ length (flat_map encoded_entry_bytes done) → place ≡ length done
    → map (entries_before area) (restarts_from at ps) ≡ restart_places_from place ps
places_from-restarts area done [] at place h k e a n = refl
places_from-restarts area done (p ∷ ps) at place h k e a n =
    let one : flat_map encoded_entry_bytes (done ++ p ∷ []) ≡ flat_map encoded_entry_bytes done ++ encoded_entry_bytes p = flat_map-append encoded_entry_bytes done (p ∷ []) ∙ ap (λ (t : List ℕ). flat_map encoded_entry_bytes done ++ t) (append-nil (encoded_entry_bytes p)) in
    let whole : area ≡ flat_map encoded_entry_bytes (done ++ p ∷ []) ++ flat_map encoded_entry_bytes ps = e ∙ sym (append_assoc (flat_map encoded_entry_bytes done) (encoded_entry_bytes p) (flat_map encoded_entry_bytes ps)) ∙ ap (λ (t : List ℕ). t ++ flat_map encoded_entry_bytes ps) (sym one) in
    let end : at + length (encoded_entry_bytes p) ≡ length (flat_map encoded_entry_bytes (done ++ p ∷ [])) = omega (arith, a, ap length one, length-append (flat_map encoded_entry_bytes done) (encoded_entry_bytes p)) in
    let here : entries_before area at ≡ place = ap (λ (t : List ℕ). entries_before t at) e ∙ ap (entries_before (flat_map encoded_entry_bytes done ++ flat_map encoded_entry_bytes (p ∷ ps))) a ∙ entries_before-pieces done (flat_map encoded_entry_bytes (p ∷ ps)) h ∙ sym n in
    map-mark (entries_before area) p.is_restart at place (restarts_from (at + length (encoded_entry_bytes p)) ps) (restart_places_from (place + 1) ps) here
    (places_from-restarts area (done ++ p ∷ []) ps (at + length (encoded_entry_bytes p)) (place + 1) (AreWide-push done p h k.0) k.1 whole end (omega (arith, n, length-append done (p ∷ []))))

-- the places that are read are those of the pieces
pub places_of_area : (area restarts : List ℕ) (h : IsArea area restarts) → map (entries_before area) (numbers_in restarts) ≡ places_of h.0
places_of_area area restarts h = of_pieces h.0 h.1 h.2 (ap numbers_in h.3 ∙ numbers_in-words (restarts_of h.0) h.1.restarts.1)
  where
    of_pieces : (ps : List EncodedEntry) → AreOfBlock ps → area ≡ flat_map encoded_entry_bytes ps → numbers_in restarts ≡ restarts_of ps → map (entries_before area) (numbers_in restarts) ≡ places_of ps
    of_pieces [] a e f = ap (map (entries_before area)) f ∙ ap (λ (t : List ℕ). entries_before t 0 ∷ []) e
    of_pieces (p ∷ ps) a e f = ap (map (entries_before area)) f ∙ places_from-restarts area [] (p ∷ ps) 0 0 tt (AreWide-of 0 (p ∷ ps) a.pieces) e refl refl

-- ---- what is known of them

length-mark : (b : Bool) (x y : ℕ) (xs ys : List ℕ) → length xs ≡ length ys → length (cond b (x ∷ []) [] ++ xs) ≡ length (cond b (y ∷ []) [] ++ ys)
length-mark true x y xs ys e = ap suc e
length-mark false x y xs ys e = e

length-places_from : (at place : ℕ) (ps : List EncodedEntry) → length (restart_places_from place ps) ≡ length (restarts_from at ps)
length-places_from at place [] = refl
length-places_from at place (p ∷ ps) = length-mark p.is_restart place at _ _ (length-places_from (at + length (encoded_entry_bytes p)) (place + 1) ps)

length-places_of : (ps : List EncodedEntry) → length (places_of ps) ≡ length (restarts_of ps)
length-places_of [] = refl
length-places_of (p ∷ ps) = length-places_from 0 0 (p ∷ ps)

places_above : (place : ℕ) (ps : List EncodedEntry) → AllByRecursion (λ r. place ≤ r) (restart_places_from place ps)
places_above place [] = tt
places_above place (p ∷ ps) =
    AllByRecursion-append (λ r. place ≤ r) (cond p.is_restart (place ∷ []) []) (restart_places_from (place + 1) ps) (marks p.is_restart place)
    (AllByRecursion-weaker (λ r. place + 1 ≤ r) (λ r. place ≤ r) (λ r h. omega arith) _ (places_above (place + 1) ps))

mark_below : (b : Bool) (place limit : ℕ) → place < limit → AllByRecursion (λ r. r < limit) (cond b (place ∷ []) [])
mark_below true place limit lt = (lt, tt)
mark_below false place limit lt = tt

places_below : (place limit : ℕ) (ps : List EncodedEntry) → place + length ps ≤ limit → AllByRecursion (λ r. r < limit) (restart_places_from place ps)
places_below place limit [] le = tt
places_below place limit (p ∷ ps) le =
    AllByRecursion-append (λ r. r < limit) (cond p.is_restart (place ∷ []) []) (restart_places_from (place + 1) ps) (mark_below p.is_restart place limit (omega arith)) (places_below (place + 1) limit ps (omega arith))

All-of : (P : ℕ → Type 0) (xs : List ℕ) → AllByRecursion P xs → All P xs
All-of P [] h k d lt = absurd (omega arith)
All-of P (x ∷ xs) h zero d lt = h.0
All-of P (x ∷ xs) h (suc k) d lt = All-of P xs h.1 k d (omega arith)

rising-mark : (b : Bool) (place : ℕ) (xs : List ℕ) → AllByRecursion (λ r. place + 1 ≤ r) xs → IsStrictlyIncreasing xs → IsStrictlyIncreasing (cond b (place ∷ []) [] ++ xs)
rising-mark false place xs h s k lt = s k lt
rising-mark true place [] h s k lt = absurd (omega arith)
rising-mark true place (x ∷ xs) h s zero lt = omega (arith, h.0)
rising-mark true place (x ∷ xs) h s (suc k) lt =
    let e : suc k + 1 ≡ suc (k + 1) = omega arith in
    rw e (s k (omega arith))

places_rise : (place : ℕ) (ps : List EncodedEntry) → IsStrictlyIncreasing (restart_places_from place ps)
places_rise place [] k lt = absurd (omega arith)
places_rise place (p ∷ ps) k lt = rising-mark p.is_restart place (restart_places_from (place + 1) ps) (places_above (place + 1) ps) (places_rise (place + 1) ps) k lt

-- What is known of the places of restarts.
pub record ArePlaces (entries : List Entry) (places : List ℕ) : Type 0 where
  pub first : slice_get places 0 ≡ Some 0
  pub rising : IsStrictlyIncreasing places
  pub within : 0 < length entries → All (λ place. place < length entries) places

ArePlaces-of : (ps : List EncodedEntry) → BeginsWithRestart ps → ArePlaces (entries_after [] ps) (places_of ps)
ArePlaces-of [] h = record { first = refl; rising = λ k lt. absurd (omega arith); within = λ some. absurd (omega arith) }
ArePlaces-of (p ∷ ps) h = record {
  first = ap (λ (b : Bool). slice_get (cond b (0 ∷ []) [] ++ restart_places_from (0 + 1) ps) 0) h;
  rising = places_rise 0 (p ∷ ps);
  within = λ some. All-of (λ place. place < length (entries_after [] (p ∷ ps))) (restart_places_from 0 (p ∷ ps)) (places_below 0 (length (entries_after [] (p ∷ ps))) (p ∷ ps) (omega (arith, length-entries_after [] (p ∷ ps))));
}

pub some_place : (entries : List Entry) (places : List ℕ) → ArePlaces entries places → 0 < length places
some_place entries [] h = absurd (none-some 0 h.first)
some_place entries (p ∷ ps) h = omega arith

pub places_of_sound : (area restarts : List ℕ) → IsArea area restarts → ArePlaces (sound_in area restarts).entries (sound_in area restarts).restarts
places_of_sound area restarts h =
    subst (ArePlaces (entries_of_encoded [] area)) (sym (places_of_area area restarts h))
    (subst (λ (es : List Entry). ArePlaces es (places_of h.0)) (sym (entries_of_area area restarts h)) (ArePlaces-of h.0 h.1.first))

-- each restart has four bytes
pub length-places : (area restarts : List ℕ) → IsArea area restarts → 4 * length (sound_in area restarts).restarts ≡ length restarts
length-places area restarts h = omega (arith, ap length (places_of_area area restarts h), length-places_of h.0, ap length h.3, length-words (restarts_of h.0))

-- ---- what stands from a restart on

-- A restart's offset and place, and the pieces from there on, among pieces that stand after this key. The first has this
-- offset and this place.
record Points (before : List ℕ) (at place : ℕ) (ps : List EncodedEntry) (r : ℕ) : Type 0 where
  bytes : ℕ
  entries : ℕ
  more : List EncodedEntry
  pieces : AreEncodedEntries 0 more
  within : bytes ≤ length (flat_map encoded_entry_bytes ps)
  behind : drop bytes (flat_map encoded_entry_bytes ps) ≡ flat_map encoded_entry_bytes more
  offset : get_or (restarts_from at ps) r 0 ≡ at + bytes
  here : get_or (restart_places_from place ps) r 0 ≡ place + entries
  same : entries_after [] more ≡ drop entries (entries_after before ps)

-- a restart at the first piece
points_first : (before : List ℕ) (at place : ℕ) (p : EncodedEntry) (ps : List EncodedEntry) → p.is_restart ≡ true → AreEncodedEntries (length before) (p ∷ ps) → Points before at place (p ∷ ps) 0
points_first before at place p ps e h =
    let none : p.shared ≡ 0 = h.0.restart e in
    let key : key_after [] p ≡ key_after before p = ap (λ (n : ℕ). take n [] ++ p.unshared) none ∙ sym (ap (λ (n : ℕ). take n before ++ p.unshared) none) in
    record {
      bytes = 0;
      entries = 0;
      more = p ∷ ps;
      pieces = (record { shared = omega (arith, none); restart = h.0.restart; shared_fits = h.0.shared_fits; unshared_fits = h.0.unshared_fits; value_fits = h.0.value_fits }, h.1);
      within = omega arith;
      behind = refl;
      offset = ap (λ (b : Bool). get_or (cond b (at ∷ []) [] ++ restarts_from (at + length (encoded_entry_bytes p)) ps) 0 0) e ∙ omega arith;
      here = ap (λ (b : Bool). get_or (cond b (place ∷ []) [] ++ restart_places_from (place + 1) ps) 0 0) e ∙ omega arith;
      same = ap (λ (k : List ℕ). record { key = k; value = p.value } ∷ entries_after k ps) key;
    }

-- a restart after the first piece
points_behind : (before : List ℕ) (at place : ℕ) (p : EncodedEntry) (ps : List EncodedEntry) (r s : ℕ) → Points (key_after before p) (at + length (encoded_entry_bytes p)) (place + 1) ps s
    → get_or (restarts_from at (p ∷ ps)) r 0 ≡ get_or (restarts_from (at + length (encoded_entry_bytes p)) ps) s 0 → get_or (restart_places_from place (p ∷ ps)) r 0 ≡ get_or (restart_places_from (place + 1) ps) s 0
    → Points before at place (p ∷ ps) r
points_behind before at place p ps r s q e f = record {
  bytes = length (encoded_entry_bytes p) + q.bytes;
  entries = suc q.entries;
  more = q.more;
  pieces = q.pieces;
  within = omega (arith, q.within, length-append (encoded_entry_bytes p) (flat_map encoded_entry_bytes ps));
  behind = sym (drop-drop q.bytes (length (encoded_entry_bytes p)) (flat_map encoded_entry_bytes (p ∷ ps))) ∙ ap (drop q.bytes) (drop_at (encoded_entry_bytes p) (flat_map encoded_entry_bytes ps) (length (encoded_entry_bytes p)) refl) ∙ q.behind;
  offset = e ∙ q.offset ∙ omega arith;
  here = f ∙ q.here ∙ omega arith;
  same = q.same;
}

-- one piece further on, by whether a restart points at it
points_by : (before : List ℕ) (at place : ℕ) (p : EncodedEntry) (ps : List EncodedEntry) (r : ℕ) (b : Bool) → p.is_restart ≡ b → AreEncodedEntries (length before) (p ∷ ps) → r < length (cond b (at ∷ []) [] ++ restarts_from (at + length (encoded_entry_bytes p)) ps)
    → ((s : ℕ) → s < length (restarts_from (at + length (encoded_entry_bytes p)) ps) → Points (key_after before p) (at + length (encoded_entry_bytes p)) (place + 1) ps s) → Points before at place (p ∷ ps) r
points_by before at place p ps zero true e h lt more = points_first before at place p ps e h
points_by before at place p ps (suc r) true e h lt more =
    points_behind before at place p ps (suc r) r (more r (omega arith))
    (ap (λ (b : Bool). get_or (cond b (at ∷ []) [] ++ restarts_from (at + length (encoded_entry_bytes p)) ps) (suc r) 0) e)
    (ap (λ (b : Bool). get_or (cond b (place ∷ []) [] ++ restart_places_from (place + 1) ps) (suc r) 0) e)
points_by before at place p ps r false e h lt more =
    points_behind before at place p ps r r (more r lt)
    (ap (λ (b : Bool). get_or (cond b (at ∷ []) [] ++ restarts_from (at + length (encoded_entry_bytes p)) ps) r 0) e)
    (ap (λ (b : Bool). get_or (cond b (place ∷ []) [] ++ restart_places_from (place + 1) ps) r 0) e)

points : (before : List ℕ) (at place : ℕ) (ps : List EncodedEntry) (r : ℕ) → AreEncodedEntries (length before) ps → r < length (restarts_from at ps) → Points before at place ps r
points before at place [] r h lt = absurd (omega arith)
points before at place (p ∷ ps) r h lt =
    let pieces : AreEncodedEntries (length (key_after before p)) ps = subst (λ (n : ℕ). AreEncodedEntries n ps) (sym (length-key_after before p h.0.shared)) h.1 in
    points_by before at place p ps r p.is_restart refl h lt (λ s below. points (key_after before p) (at + length (encoded_entry_bytes p)) (place + 1) ps s pieces below)

-- What stands from a restart on: whole pieces, and the entries from its place on.
pub record StandsAt (area restarts : List ℕ) (r : ℕ) : Type 0 where
  pub within : little_number 4 (drop (r * 4) restarts) ≤ length area
  pub pieces : AreEncodedEntriesAfter [] (drop (little_number 4 (drop (r * 4) restarts)) area)
  pub entries : entries_of_encoded [] (drop (little_number 4 (drop (r * 4) restarts)) area) ≡ drop (get_or (sound_in area restarts).restarts r 0) (sound_in area restarts).entries

stands_at-nil : (restarts : List ℕ) (r : ℕ) → little_number 4 (drop (r * 4) restarts) ≡ 0 → map (entries_before []) (numbers_in restarts) ≡ 0 ∷ [] → r < 1 → StandsAt [] restarts r
stands_at-nil restarts r none places lt =
    let zero-r : r ≡ 0 = omega arith in
    let here : get_or (map (entries_before []) (numbers_in restarts)) r 0 ≡ 0 = ap (λ (t : List ℕ). get_or t r 0) places ∙ ap (λ (n : ℕ). get_or (0 ∷ []) n 0) zero-r in
    record {
      within = omega (arith, none);
      pieces = subst (λ (n : ℕ). AreEncodedEntriesAfter [] (drop n [])) (sym none) ([], tt, refl);
      entries = ap (λ (n : ℕ). entries_of_encoded [] (drop n [])) none ∙ sym (ap (λ (n : ℕ). drop n (entries_of_encoded [] [])) here);
    }

pub stands_at : (area restarts : List ℕ) (r : ℕ) → IsArea area restarts → r < length (sound_in area restarts).restarts → StandsAt area restarts r
stands_at area restarts r h lt = of_pieces h.0 h.1 h.2 h.3 (places_of_area area restarts h) (entries_of_area area restarts h)
  where
    of_pieces : (ps : List EncodedEntry) → AreOfBlock ps → area ≡ flat_map encoded_entry_bytes ps → restarts ≡ words (restarts_of ps) → map (entries_before area) (numbers_in restarts) ≡ places_of ps → entries_of_encoded [] area ≡ entries_after [] ps → StandsAt area restarts r
    of_pieces [] a e f places entries =
        let below : r < 1 = subst (λ (t : List ℕ). r < length t) places lt in
        let none : little_number 4 (drop (r * 4) restarts) ≡ 0 = ap (λ (t : List ℕ). little_number 4 (drop (r * 4) t)) f ∙ number_at (0 ∷ []) r a.restarts.1 below ∙ (let zero-r : r ≡ 0 = omega arith in ap (λ (n : ℕ). get_or (0 ∷ []) n 0) zero-r) in
        subst (λ (t : List ℕ). StandsAt t restarts r) (sym e) (stands_at-nil restarts r none (ap (λ (t : List ℕ). map (entries_before t) (numbers_in restarts)) (sym e) ∙ places) below)
    of_pieces (p ∷ ps) a e f places entries =
        let below : r < length (restarts_from 0 (p ∷ ps)) = omega (arith, length-places_from 0 0 (p ∷ ps), ap length places) in
        let q = points [] 0 0 (p ∷ ps) r a.pieces below in
        let offset : little_number 4 (drop (r * 4) restarts) ≡ q.bytes = ap (λ (t : List ℕ). little_number 4 (drop (r * 4) t)) f ∙ number_at (restarts_from 0 (p ∷ ps)) r a.restarts.1 below ∙ q.offset ∙ omega arith in
        let behind : drop (little_number 4 (drop (r * 4) restarts)) area ≡ flat_map encoded_entry_bytes q.more = ap (λ (n : ℕ). drop n area) offset ∙ ap (drop q.bytes) e ∙ q.behind in
        let here : get_or (map (entries_before area) (numbers_in restarts)) r 0 ≡ q.entries = ap (λ (t : List ℕ). get_or t r 0) places ∙ q.here ∙ omega arith in
        record {
          within = omega (arith, offset, q.within, ap length e);
          pieces = (q.more, q.pieces, behind);
          entries = ap (entries_of_encoded []) behind ∙ entries_of_encoded-pieces [] q.more (AreWide-of 0 q.more q.pieces) ∙ q.same ∙ ap (drop q.entries) (sym entries) ∙ ap (λ (n : ℕ). drop n (entries_of_encoded [] area)) (sym here);
        }
