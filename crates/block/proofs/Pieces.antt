-- A piece that is read is the piece that was spelt, and what was spelt is read again.
use Rattle.std.proofs.Common.{◌≡◌, ℕ, zero, suc, ◌+◌, ◌-◌, ◌*◌, ◌/◌, ◌%◌, ◌^◌, ◌<◌, ◌≤◌, true, false, List, [], ◌∷◌, ◌++◌, length, take, drop, get_or, Option, Some, None, refl, sym, ap, subst, ◌∙◌, append_assoc, arith, lit≤, leb}
use Rattle.std.specs.List.{flat_map}
use Rattle.std.proofs.lemmas.List.{take_at, drop_at, take-append-drop, length-append, length-take-le, length-drop, drop-drop}
use Rattle.std.proofs.lemmas.Bool.{le-leb, leb-true, lt-ltb, le-ltb}
use Rattle.std.proofs.lemmas.Option.{same_Some, cond_some}
use Rattle.coding.specs.Varint.{groups, varint, varint_reading}
use Rattle.block.specs.EncodedEntry.{Entry, EncodedEntry, encoded_entry_bytes, key_after, entries_after, IsEncodedEntryAfter, AreEncodedEntries}
use Rattle.coding.specs.Answers.{and_then}
use Rattle.block.specs.EntryFormat.{FieldReading, length_at, entry_of_lengths, encoded_entry_at}
use Rattle.block.specs.EntryLengths.{EntryLengths, lengths_at}
use Rattle.block.specs.EntriesOfBytes.{entries_of_bytes, entries_of_encoded}
use Rattle.coding.proofs.Varints.{varint_reading-varint, varint_reading-small, reads_varint, length-varint_pos}

-- a piece at which no restart points
abbrev pub plain : EncodedEntry → EncodedEntry
plain p = record { is_restart = false; shared = p.shared; unshared = p.unshared; value = p.value }

abbrev found : {A : Type 0} → A → List ℕ → Option (FieldReading A)
found x rest = Some (record { field = x; rest = rest })

-- each length has its width
pub record Widths (p : EncodedEntry) : Type 0 where
  pub shared : p.shared < 2 ^ 32
  pub unshared : length p.unshared < 2 ^ 32
  pub value : length p.value < 2 ^ 32

pub Widths-of : (before : ℕ) (p : EncodedEntry) → IsEncodedEntryAfter before p → Widths p
Widths-of before p h = record { shared = h.shared_fits; unshared = h.unshared_fits; value = h.value_fits }

length_at-varint : (x : ℕ) (rest : List ℕ) → x < 2 ^ 32 → length_at (varint x ++ rest) ≡ found x rest
length_at-varint x rest lt =
    rw (varint_reading-varint (2 ^ 32) x rest lt (lit≤ tt), drop_at (varint x) rest (length (varint x)) refl) refl

-- a length of one byte
length_at-small : (b : ℕ) (rest : List ℕ) → b < 128 → length_at (b ∷ rest) ≡ found b rest
length_at-small b rest lt = rw (varint_reading-small (2 ^ 32) (b ∷ rest) (omega arith) lt (lit≤ tt)) refl

-- three lengths of one byte each
pub front_entry_at-small : (bytes : List ℕ) → 3 ≤ length bytes → get_or bytes 0 0 < 128 → get_or bytes 1 0 < 128 → get_or bytes 2 0 < 128 → encoded_entry_at bytes ≡ entry_of_lengths (get_or bytes 0 0) (get_or bytes 1 0) (get_or bytes 2 0) (drop 3 bytes)
unfolding encoded_entry_at
front_entry_at-small [] long a b c = absurd (omega arith)
front_entry_at-small (x ∷ []) long a b c = absurd (omega arith)
front_entry_at-small (x ∷ y ∷ []) long a b c = absurd (omega arith)
front_entry_at-small (x ∷ y ∷ z ∷ rest) long a b c = rw (length_at-small x (y ∷ z ∷ rest) a, length_at-small y (z ∷ rest) b, length_at-small z rest c) refl

-- a number of two groups
groups_two : (n x : ℕ) → 128 ≤ x → x / 128 < 128 → groups (suc (suc n)) x ≡ (128 + x % 128) ∷ (x / 128) ∷ []
groups_two n x le lt = rw (le-ltb x 128 le, lt-ltb (x / 128) 128 lt) refl

-- the number that two bytes spell
abbrev pub two_bytes : ℕ → ℕ → ℕ
two_bytes low high = (low - 128) + 128 * high

varint_two : (low high : ℕ) → 128 ≤ low → low < 256 → 0 < high → high < 128 → varint (two_bytes low high) ≡ low ∷ high ∷ []
unfolding varint
varint_two low high large byte some last =
    let first : 128 + two_bytes low high % 128 ≡ low = omega arith in
    let second : two_bytes low high / 128 ≡ high = omega arith in
    groups_two 7 (two_bytes low high) (omega arith) (omega arith) ∙ rw (first, second) refl

-- a length of two bytes
length_at-two : (low high : ℕ) (rest : List ℕ) → 128 ≤ low → low < 256 → 0 < high → high < 128 → length_at (low ∷ high ∷ rest) ≡ found (two_bytes low high) rest
length_at-two low high rest large byte some last =
    ap (λ (front : List ℕ). length_at (front ++ rest)) (sym (varint_two low high large byte some last))
    ∙ length_at-varint (two_bytes low high) rest (omega arith)

-- two lengths of one byte each, and one of two
pub front_entry_at-two : (bytes : List ℕ) → 4 ≤ length bytes → get_or bytes 0 0 < 128 → get_or bytes 1 0 < 128 → 128 ≤ get_or bytes 2 0 → get_or bytes 2 0 < 256 → 0 < get_or bytes 3 0 → get_or bytes 3 0 < 128
    → encoded_entry_at bytes ≡ entry_of_lengths (get_or bytes 0 0) (get_or bytes 1 0) (two_bytes (get_or bytes 2 0) (get_or bytes 3 0)) (drop 4 bytes)
unfolding encoded_entry_at
front_entry_at-two [] long a b large byte some last = absurd (omega arith)
front_entry_at-two (x ∷ []) long a b large byte some last = absurd (omega arith)
front_entry_at-two (x ∷ y ∷ []) long a b large byte some last = absurd (omega arith)
front_entry_at-two (x ∷ y ∷ z ∷ []) long a b large byte some last = absurd (omega arith)
front_entry_at-two (x ∷ y ∷ z ∷ w ∷ rest) long a b large byte some last = rw (length_at-small x (y ∷ z ∷ w ∷ rest) a, length_at-small y (z ∷ w ∷ rest) b, length_at-two z w rest large byte some last) refl

-- the entry of three lengths and what is after them
abbrev pub entry_at_lengths : FieldReading EntryLengths → Option (FieldReading EncodedEntry)
entry_at_lengths x = entry_of_lengths x.field.shared x.field.unshared x.field.value x.rest

lengths_by_value : (shared unshared : ℕ) (value : Option (FieldReading ℕ)) → and_then value (λ v. entry_of_lengths shared unshared v.field v.rest)
    ≡ and_then (and_then value (λ v. found (record { shared = shared; unshared = unshared; value = v.field }) v.rest)) entry_at_lengths
lengths_by_value shared unshared None = refl
lengths_by_value shared unshared (Some v) = refl

lengths_by_unshared : (shared : ℕ) (unshared : Option (FieldReading ℕ)) → and_then unshared (λ u. and_then (length_at u.rest) (λ v. entry_of_lengths shared u.field v.field v.rest))
    ≡ and_then (and_then unshared (λ u. and_then (length_at u.rest) (λ v. found (record { shared = shared; unshared = u.field; value = v.field }) v.rest))) entry_at_lengths
lengths_by_unshared shared None = refl
lengths_by_unshared shared (Some u) = lengths_by_value shared u.field (length_at u.rest)

lengths_by_shared : (shared : Option (FieldReading ℕ)) → and_then shared (λ s. and_then (length_at s.rest) (λ u. and_then (length_at u.rest) (λ v. entry_of_lengths s.field u.field v.field v.rest)))
    ≡ and_then (and_then shared (λ s. and_then (length_at s.rest) (λ u. and_then (length_at u.rest) (λ v. found (record { shared = s.field; unshared = u.field; value = v.field }) v.rest)))) entry_at_lengths
lengths_by_shared None = refl
lengths_by_shared (Some s) = lengths_by_unshared s.field (length_at s.rest)

-- the entry at the front is that of the lengths at the front
pub encoded_entry_at-lengths : (bytes : List ℕ) → encoded_entry_at bytes ≡ and_then (lengths_at bytes) entry_at_lengths
unfolding encoded_entry_at
encoded_entry_at-lengths bytes = lengths_by_shared (length_at bytes)

-- what is after the three lengths
tail_at : List ℕ → List ℕ → List ℕ → List ℕ
tail_at unshared value rest = unshared ++ (value ++ rest)

regrouped : (p : EncodedEntry) (rest : List ℕ) → encoded_entry_bytes p ++ rest ≡ varint p.shared ++ (varint (length p.unshared) ++ (varint (length p.value) ++ (p.unshared ++ (p.value ++ rest))))
regrouped p rest = simp append_assoc

pub front_entry_at-piece_bytes : (p : EncodedEntry) (rest : List ℕ) → Widths p → encoded_entry_at (encoded_entry_bytes p ++ rest) ≡ found (plain p) rest
unfolding encoded_entry_at
front_entry_at-piece_bytes p rest h =
    let fits : leb (length p.unshared + length p.value) (length (p.unshared ++ (p.value ++ rest))) ≡ true =
    le-leb _ _ (simp length-append (omega arith)) in
    ap encoded_entry_at (regrouped p rest)
    ∙ rw (length_at-varint p.shared _ h.shared, length_at-varint (length p.unshared) _ h.unshared, length_at-varint (length p.value) _ h.value, fits, ← drop-drop (length p.value) (length p.unshared) (p.unshared ++ (p.value ++ rest)), take_at p.unshared (p.value ++ rest) (length p.unshared) refl, drop_at p.unshared (p.value ++ rest) (length p.unshared) refl, take_at p.value rest (length p.value) refl, drop_at p.value rest (length p.value) refl) refl

-- the value of a step that did not fail
pub and_then_some : {A B : Type 0} (o : Option A) (f : A → Option B) (y : B) → and_then o f ≡ Some y → (x : A) × (o ≡ Some x) × (f x ≡ Some y)
and_then_some None f y e = absurd cc
and_then_some (Some x) f y e = (x, refl, e)

-- a length that is read is spelt at the front
record ReadsLength (bytes : List ℕ) (x : FieldReading ℕ) : Type 0 where
  below : x.field < 2 ^ 32
  parts : bytes ≡ varint x.field ++ x.rest

reads_length : (bytes : List ℕ) (x : FieldReading ℕ) → length_at bytes ≡ Some x → ReadsLength bytes x
reads_length bytes x e =
    let a = and_then_some (varint_reading (2 ^ 32) bytes) (λ r. found r.0 (drop r.1 bytes)) x e in
    let r = reads_varint (2 ^ 32) bytes a.0.0 a.0.1 a.1 in
    let same : record { field = a.0.0; rest = drop a.0.1 bytes } ≡ x = same_Some _ _ a.2 in
    subst (ReadsLength bytes) same (record { below = r.below; parts = r.parts })

pub record ReadsPiece (bytes : List ℕ) (p : EncodedEntry) (rest : List ℕ) : Type 0 where
  pub plain : p.is_restart ≡ false
  pub widths : Widths p
  pub parts : bytes ≡ encoded_entry_bytes p ++ rest

-- the piece of three lengths and what is after them
made : FieldReading ℕ → FieldReading ℕ → FieldReading ℕ → FieldReading EncodedEntry
made shared unshared value = record {
  field = record {
    is_restart = false;
    shared = shared.field;
    unshared = take unshared.field value.rest;
    value = take value.field (drop unshared.field value.rest);
  };
  rest = drop (unshared.field + value.field) value.rest;
}

reads_made : (bytes : List ℕ) (s u v : FieldReading ℕ) → ReadsLength bytes s → ReadsLength s.rest u → ReadsLength u.rest v → u.field + v.field ≤ length v.rest
    → ReadsPiece bytes (made s u v).field (made s u v).rest
unfolding made
reads_made bytes s u v rs ru rv long =
    let unshared_len : length (take u.field v.rest) ≡ u.field = length-take-le u.field v.rest (omega arith) in
    let value_len : length (take v.field (drop u.field v.rest)) ≡ v.field = length-take-le v.field (drop u.field v.rest) (simp length-drop (omega arith)) in
    let back : v.rest ≡ take u.field v.rest ++ (take v.field (drop u.field v.rest) ++ drop (u.field + v.field) v.rest) =
    sym (take-append-drop u.field v.rest) ∙ ap (λ (t : List ℕ). take u.field v.rest ++ t) (sym (take-append-drop v.field (drop u.field v.rest)) ∙ ap (λ (t : List ℕ). take v.field (drop u.field v.rest) ++ t) (drop-drop v.field u.field v.rest)) in
    record {
      plain = refl;
      widths = record { shared = rs.below; unshared = rw unshared_len ru.below; value = rw value_len rv.below };
      parts = rs.parts ∙ ap (λ (t : List ℕ). varint s.field ++ t) (ru.parts ∙ ap (λ (t : List ℕ). varint u.field ++ t) (rv.parts ∙ ap (λ (t : List ℕ). varint v.field ++ t) back))
          ∙ sym (regrouped (made s u v).field (made s u v).rest ∙ rw (unshared_len, value_len) refl);
    }

-- three lengths that are read, and enough bytes after them
pub reads_piece : (bytes : List ℕ) (x : FieldReading EncodedEntry) → encoded_entry_at bytes ≡ Some x → ReadsPiece bytes x.field x.rest
unfolding encoded_entry_at made
reads_piece bytes x e =
    let a = and_then_some (length_at bytes) _ x e in
    let b = and_then_some (length_at a.0.rest) _ x a.2 in
    let c = and_then_some (length_at b.0.rest) _ x b.2 in
    let g = cond_some _ _ _ c.2 in
    subst (λ (y : FieldReading EncodedEntry). ReadsPiece bytes y.field y.rest) g.1
    (reads_made bytes a.0 b.0 c.0 (reads_length bytes a.0 a.1) (reads_length a.0.rest b.0 b.1) (reads_length b.0.rest c.0 c.1) (leb-true _ _ g.0))

-- a piece at the front is read, and no other
pub piece_at_front : (bytes : List ℕ) (p : EncodedEntry) (rest : List ℕ) → Widths p → bytes ≡ encoded_entry_bytes p ++ rest → encoded_entry_at bytes ≡ found (plain p) rest
piece_at_front bytes p rest h e = ap encoded_entry_at e ∙ front_entry_at-piece_bytes p rest h

pub length-piece_bytes_pos : (p : EncodedEntry) → 0 < length (encoded_entry_bytes p)
length-piece_bytes_pos p = simp length-append (omega (arith, length-varint_pos p.shared))

-- each of the pieces has its widths
abbrev pub AreWide : List EncodedEntry → Type 0
AreWide [] = Unit {0}
AreWide (p ∷ ps) = Widths p × AreWide ps

pub AreWide-of : (before : ℕ) (ps : List EncodedEntry) → AreEncodedEntries before ps → AreWide ps
AreWide-of before [] h = tt
AreWide-of before (p ∷ ps) h = (Widths-of before p h.0, AreWide-of (p.shared + length p.unshared) ps h.1)

-- no piece stands in no bytes
pub front_entry_at-nil : encoded_entry_at [] ≡ None
unfolding encoded_entry_at varint_reading varint
front_entry_at-nil = refl

-- pieces that were spelt are read again
pub entries_in-pieces : (n : ℕ) (before : List ℕ) (ps : List EncodedEntry) → AreWide ps → length ps ≤ n → entries_of_bytes n before (flat_map encoded_entry_bytes ps) ≡ entries_after before ps
entries_in-pieces zero before [] h le = refl
entries_in-pieces zero before (p ∷ ps) h le = absurd (omega arith)
entries_in-pieces (suc n) before [] h le = rw front_entry_at-nil refl
entries_in-pieces (suc n) before (p ∷ ps) h le =
    rw (front_entry_at-piece_bytes p (flat_map encoded_entry_bytes ps) h.0) (ap (λ (es : List Entry). record { key = key_after before p; value = p.value } ∷ es) (entries_in-pieces n (key_after before p) ps h.1 (omega arith)))

pub length-pieces : (ps : List EncodedEntry) → length ps ≤ length (flat_map encoded_entry_bytes ps)
length-pieces [] = omega arith
length-pieces (p ∷ ps) = omega (arith, length-append (encoded_entry_bytes p) (flat_map encoded_entry_bytes ps), length-piece_bytes_pos p, length-pieces ps)

pub entries_of_encoded-pieces : (before : List ℕ) (ps : List EncodedEntry) → AreWide ps → entries_of_encoded before (flat_map encoded_entry_bytes ps) ≡ entries_after before ps
entries_of_encoded-pieces before ps h = entries_in-pieces (length (flat_map encoded_entry_bytes ps)) before ps h (length-pieces ps)
