-- One step over the pieces of a block.
use Rattle.std.proofs.Common.{◌≡◌, ℕ, zero, suc, ◌+◌, ◌≤◌, ◌<◌, Bool, true, false, cond, List, [], ◌∷◌, ◌++◌, length, take, drop, Some, None, refl, sym, ap, subst, ◌∙◌, arith}
use Rattle.std.specs.List.{flat_map, slice_get}
use Rattle.std.specs.Option.{option_map}
use Rattle.std.proofs.lemmas.List.{length-append, length-take-le, nil_from_length}
use Rattle.std.proofs.lemmas.Option.{same_Some, none-some}
use Rattle.block.specs.EncodedEntry.{Entry, EncodedEntry, encoded_entry_bytes, key_after, entries_after, AreEncodedEntries}
use Rattle.block.specs.BuilderState.{IsArea}
use Rattle.block.specs.EntryFormat.{FieldReading, encoded_entry_at}
use Rattle.block.specs.EntriesOfBytes.{entries_of_encoded, AreEncodedEntriesAfter}
use Rattle.block.proofs.Pieces.{plain, Widths-of, piece_at_front, front_entry_at-nil, entries_of_encoded-pieces, AreWide-of}

pub length-key_after : (before : List ℕ) (p : EncodedEntry) → p.shared ≤ length before → length (key_after before p) ≡ p.shared + length p.unshared
length-key_after before p le = omega (arith, length-append (take p.shared before) p.unshared, length-take-le p.shared before le)

-- the entry of the piece at the front, and those after it
pub record Steps (before rest : List ℕ) (x : FieldReading EncodedEntry) : Type 0 where
  pub within : x.field.shared ≤ length before
  pub entries : entries_of_encoded before rest ≡ record { key = key_after before x.field; value = x.field.value } ∷ entries_of_encoded (key_after before x.field) x.rest
  pub behind : AreEncodedEntriesAfter (key_after before x.field) x.rest

front_read : (before rest : List ℕ) (p : EncodedEntry) (ps : List EncodedEntry) → AreEncodedEntries (length before) (p ∷ ps) → rest ≡ flat_map encoded_entry_bytes (p ∷ ps) → encoded_entry_at rest ≡ Some (record { field = plain p; rest = flat_map encoded_entry_bytes ps })
front_read before rest p ps h e = piece_at_front rest p (flat_map encoded_entry_bytes ps) (Widths-of (length before) p h.0) e

behind_of : (before rest : List ℕ) (ps : List EncodedEntry) → AreEncodedEntries (length before) ps → rest ≡ flat_map encoded_entry_bytes ps → entries_of_encoded before rest ≡ entries_after before ps
behind_of before rest ps h e = ap (entries_of_encoded before) e ∙ entries_of_encoded-pieces before ps (AreWide-of (length before) ps h)

steps_of : (before rest : List ℕ) (x : FieldReading EncodedEntry) (ps : List EncodedEntry) → AreEncodedEntries (length before) ps → rest ≡ flat_map encoded_entry_bytes ps → encoded_entry_at rest ≡ Some x → Steps before rest x
steps_of before rest x [] h e f = absurd (none-some x (sym front_entry_at-nil ∙ ap encoded_entry_at (sym e) ∙ f))
steps_of before rest x (p ∷ ps) h e f =
    let pieces : AreEncodedEntries (length (key_after before p)) ps = subst (λ (n : ℕ). AreEncodedEntries n ps) (sym (length-key_after before p h.0.shared)) h.1 in
    subst (Steps before rest) (same_Some _ _ (sym (front_read before rest p ps h e) ∙ f))
    (record {
      within = h.0.shared;
      entries = behind_of before rest (p ∷ ps) h e ∙ ap (λ (es : List Entry). record { key = key_after before p; value = p.value } ∷ es) (sym (behind_of (key_after before p) (flat_map encoded_entry_bytes ps) ps pieces refl));
      behind = (ps, pieces, refl);
    })

pub steps : (before rest : List ℕ) (x : FieldReading EncodedEntry) → AreEncodedEntriesAfter before rest → encoded_entry_at rest ≡ Some x → Steps before rest x
steps before rest x b f = steps_of before rest x b.0 b.1 b.2 f

-- no piece stands at the front of no pieces alone
pub ends : (before rest : List ℕ) → AreEncodedEntriesAfter before rest → encoded_entry_at rest ≡ None → entries_of_encoded before rest ≡ []
ends before rest b f = ends_of b.0 b.1 b.2
  where
    ends_of : (ps : List EncodedEntry) → AreEncodedEntries (length before) ps → rest ≡ flat_map encoded_entry_bytes ps → entries_of_encoded before rest ≡ []
    ends_of [] h e = behind_of before rest [] h e
    ends_of (p ∷ ps) h e = absurd (none-some _ (sym f ∙ front_read before rest p ps h e))

-- no bytes are left if no entry stands after
pub none_behind : (before rest : List ℕ) → AreEncodedEntriesAfter before rest → entries_of_encoded before rest ≡ [] → rest ≡ []
none_behind before rest b h = of_pieces b.0 b.1 b.2
  where
    of_pieces : (ps : List EncodedEntry) → AreEncodedEntries (length before) ps → rest ≡ flat_map encoded_entry_bytes ps → rest ≡ []
    of_pieces [] pieces e = e
    of_pieces (p ∷ ps) pieces e =
        let no : entries_after before (p ∷ ps) ≡ [] = sym (behind_of before rest (p ∷ ps) pieces e) ∙ h in
        absurd cc

pub entries_of_area : (area restarts : List ℕ) (h : IsArea area restarts) → entries_of_encoded [] area ≡ entries_after [] h.0
entries_of_area area restarts h = behind_of [] area h.0 h.1.pieces h.2

-- the place moves on by one entry
pub advanced : (valid : Bool) (e first : Entry) (behind more now : List Entry) → cond valid (e ∷ behind) [] ≡ now → 0 < length now → behind ≡ first ∷ more → cond valid (first ∷ more) [] ≡ drop 1 now
advanced true e first behind more now view some same = sym same ∙ ap (drop 1) view
advanced false e first behind more now view some same = absurd (omega (arith, ap length view))

-- an entry is the last if none stands after it
pub last_by : (valid : Bool) (e : Entry) (behind now : List Entry) → cond valid (e ∷ behind) [] ≡ now → 0 < length now → (behind ≡ [] → length now ≡ 1) × (length now ≡ 1 → behind ≡ [])
last_by true e behind now view some = (
  λ none. sym (ap length view) ∙ ap (λ (es : List Entry). length (e ∷ es)) none,
  λ one. nil_from_length behind (omega (arith, ap length view)),
)
last_by false e behind now view some = absurd (omega (arith, ap length view))

-- ---- the key at a place that begins with its whole key

slice_get-drop : (es : List Entry) (place : ℕ) → slice_get (drop place es) 0 ≡ slice_get es place
slice_get-drop es zero = refl
slice_get-drop [] (suc place) = refl
slice_get-drop (e ∷ es) (suc place) = slice_get-drop es place

none_shared : (n : ℕ) (own : List ℕ) → take n [] ++ own ≡ own
none_shared zero own = refl
none_shared (suc n) own = refl

-- a piece that stands after no key has its whole key
pub first_key_whole : (p : EncodedEntry) → key_after [] p ≡ p.unshared
first_key_whole p = none_shared p.shared p.unshared

-- the key of the entry at a place where a piece stands
pub first_key : (es : List Entry) (place : ℕ) (rest : List ℕ) (x : FieldReading EncodedEntry) → AreEncodedEntriesAfter [] rest → encoded_entry_at rest ≡ Some x → drop place es ≡ entries_of_encoded [] rest
    → option_map (λ e. e.key) (slice_get es place) ≡ Some x.field.unshared
first_key es place rest x b f same =
    ap (option_map (λ e. e.key)) (sym (slice_get-drop es place) ∙ ap (λ (t : List Entry). slice_get t 0) (same ∙ (steps [] rest x b f).entries))
    ∙ ap (λ (k : List ℕ). Some k) (none_shared x.field.shared x.field.unshared)

-- there is none if no entry stands
pub no_key : (es : List Entry) (place : ℕ) → drop place es ≡ [] → option_map (λ e. e.key) (slice_get es place) ≡ None
no_key es place none = ap (option_map (λ e. e.key)) (sym (slice_get-drop es place) ∙ ap (λ (t : List Entry). slice_get t 0) none)
