-- The contents of fields: what is read is what was written, and what was written is read again.
use Rattle.std.proofs.Common.{◌≡◌, ℕ, ◌^◌, ◌<◌, ◌≤◌, true, false, cond, ltb, List, ◌++◌, length, take, drop, Some, None, Result, Ok, Err, refl, sym, ap, subst, ◌∙◌, append_assoc, arith, lit≤}
use Rattle.std.specs.Str.{IsUtf8, is_utf8}
use Rattle.std.specs.Result.{is_ok}
use Rattle.std.proofs.lemmas.Str.{is_utf8-from_IsUtf8, IsUtf8-from_is_utf8}
use Rattle.std.proofs.lemmas.List.{take_at, drop_at, take-append-drop, length-append, length-take-le}
use Rattle.std.proofs.lemmas.Bool.{ltb-false, le-ltb}
use Rattle.coding.specs.Varint.{varint, varint_reading, length_prefixed}
use Rattle.coding.specs.declared.fault.Fault.{Fault}
use Rattle.coding.proofs.Varints.{varint_reading-varint, reads_varint}
use Rattle.coding.proofs.Bytes.{IsBytes, IsBytes-take, IsBytes-drop}
use Rattle.ikey.specs.Key.{IsInternalKey, internal_key_reading}
use Rattle.ikey.proofs.Keys.{internal_key_reading-Ok, IsInternalKey-reading}
use Rattle.edit.specs.FieldReader.{varint_at, slice_at, level_at, text_at, key_at}
use Rattle.edit.proofs.Steps.{bind_some, map_some, passed, passed_not}

-- ---- varints

abbrev read_of : List ℕ → ℕ × ℕ → ℕ × List ℕ
read_of bytes x = (x.0, drop x.1 bytes)

pub record TakesVarint (limit : ℕ) (bytes : List ℕ) (x : ℕ × List ℕ) : Type 0 where
  pub parts : bytes ≡ varint x.0 ++ x.1
  pub below : x.0 < limit
  pub rest_fits : IsBytes x.1

pub varint_takes : (limit : ℕ) (bytes : List ℕ) (x : ℕ × List ℕ) → IsBytes bytes → varint_at limit bytes ≡ Some x → TakesVarint limit bytes x
unfolding varint_at
varint_takes limit bytes x fits e =
    let m = map_some (read_of bytes) (varint_reading limit bytes) x e in
    let r = reads_varint limit bytes m.0.0 m.0.1 m.1 in
    let made : TakesVarint limit bytes (read_of bytes m.0) = record { parts = r.parts; below = r.below; rest_fits = IsBytes-drop m.0.1 bytes fits } in
    subst (TakesVarint limit bytes) m.2 made

pub varint_again : (limit x : ℕ) (rest : List ℕ) → x < limit → limit ≤ 2 ^ 64 → varint_at limit (varint x ++ rest) ≡ Some (x, rest)
unfolding varint_at
varint_again limit x rest below within =
    rw (varint_reading-varint limit x rest below within, drop_at (varint x) rest (length (varint x)) refl) refl

-- ---- slices

abbrev cut : ℕ × List ℕ → List ℕ × List ℕ
cut len = (take len.0 len.1, drop len.0 len.1)

pub record TakesSlice (bytes : List ℕ) (x : List ℕ × List ℕ) : Type 0 where
  pub parts : bytes ≡ length_prefixed x.0 ++ x.1
  pub short : length x.0 < 2 ^ 32
  pub fits : IsBytes x.0
  pub rest_fits : IsBytes x.1

pub slice_takes : (bytes : List ℕ) (x : List ℕ × List ℕ) → IsBytes bytes → slice_at bytes ≡ Some x → TakesSlice bytes x
unfolding slice_at
slice_takes bytes x fits e =
    let a = bind_some (varint_at (2 ^ 32) bytes) (λ len. cond (ltb (length len.1) len.0) None (Some (cut len))) x e in
    let t = varint_takes (2 ^ 32) bytes a.0 fits a.1 in
    let g = passed_not (ltb (length a.0.1) a.0.0) (cut a.0) x a.2 in
    let within : a.0.0 ≤ length a.0.1 = ltb-false _ _ g.0 in
    let len-is : length (take a.0.0 a.0.1) ≡ a.0.0 = length-take-le a.0.0 a.0.1 within in
    let made : TakesSlice bytes (cut a.0) = record {
      parts = t.parts
          ∙ ap (λ (r : List ℕ). varint a.0.0 ++ r) (sym (take-append-drop a.0.0 a.0.1))
          ∙ sym (append_assoc (varint a.0.0) (take a.0.0 a.0.1) (drop a.0.0 a.0.1))
          ∙ ap (λ (n : ℕ). (varint n ++ take a.0.0 a.0.1) ++ drop a.0.0 a.0.1) (sym len-is);
      short = omega (arith, t.below, len-is);
      fits = IsBytes-take a.0.0 a.0.1 t.rest_fits;
      rest_fits = IsBytes-drop a.0.0 a.0.1 t.rest_fits;
    } in
    subst (TakesSlice bytes) g.1 made

pub slice_again : (s rest : List ℕ) → length s < 2 ^ 32 → slice_at (length_prefixed s ++ rest) ≡ Some (s, rest)
unfolding slice_at
slice_again s rest short =
    let within : ltb (length (s ++ rest)) (length s) ≡ false = le-ltb _ _ (omega (arith, length-append s rest)) in
    ap slice_at (append_assoc (varint (length s)) s rest)
    ∙ rw (varint_again (2 ^ 32) (length s) (s ++ rest) short (lit≤ tt), within, take_at s rest (length s) refl, drop_at s rest (length s) refl) refl

-- ---- levels

pub record TakesLevel (bytes : List ℕ) (x : ℕ × List ℕ) : Type 0 where
  pub parts : bytes ≡ varint x.0 ++ x.1
  pub within : x.0 ≤ 6
  pub rest_fits : IsBytes x.1

pub level_takes : (bytes : List ℕ) (x : ℕ × List ℕ) → IsBytes bytes → level_at bytes ≡ Some x → TakesLevel bytes x
unfolding level_at
level_takes bytes x fits e =
    let a = bind_some (varint_at (2 ^ 32) bytes) (λ level. cond (ltb 6 level.0) None (Some level)) x e in
    let t = varint_takes (2 ^ 32) bytes a.0 fits a.1 in
    let g = passed_not (ltb 6 a.0.0) a.0 x a.2 in
    let made : TakesLevel bytes a.0 = record { parts = t.parts; within = ltb-false _ _ g.0; rest_fits = t.rest_fits } in
    subst (TakesLevel bytes) g.1 made

pub level_again : (level : ℕ) (rest : List ℕ) → level ≤ 6 → level_at (varint level ++ rest) ≡ Some (level, rest)
unfolding level_at
level_again level rest within =
    let low : ltb 6 level ≡ false = le-ltb _ _ within in
    rw (varint_again (2 ^ 32) level rest (omega arith) (lit≤ tt), low) refl

-- ---- text

pub record TakesText (bytes : List ℕ) (x : List ℕ × List ℕ) : Type 0 where
  pub parts : bytes ≡ length_prefixed x.0 ++ x.1
  pub short : length x.0 < 2 ^ 32
  pub text : IsUtf8 x.0
  pub rest_fits : IsBytes x.1

pub text_takes : (bytes : List ℕ) (x : List ℕ × List ℕ) → IsBytes bytes → text_at bytes ≡ Some x → TakesText bytes x
unfolding text_at
text_takes bytes x fits e =
    let a = bind_some (slice_at bytes) (λ text. cond (is_utf8 text.0) (Some text) None) x e in
    let t = slice_takes bytes a.0 fits a.1 in
    let g = passed (is_utf8 a.0.0) a.0 x a.2 in
    let made : TakesText bytes a.0 = record { parts = t.parts; short = t.short; text = IsUtf8-from_is_utf8 a.0.0 g.0; rest_fits = t.rest_fits } in
    subst (TakesText bytes) g.1 made

pub text_again : (s rest : List ℕ) → IsUtf8 s → length s < 2 ^ 32 → text_at (length_prefixed s ++ rest) ≡ Some (s, rest)
unfolding text_at
text_again s rest text short =
    let yes : is_utf8 s ≡ true = is_utf8-from_IsUtf8 s text in
    rw (slice_again s rest short, yes) refl

-- ---- keys

pub record TakesKey (bytes : List ℕ) (x : List ℕ × List ℕ) : Type 0 where
  pub parts : bytes ≡ length_prefixed x.0 ++ x.1
  pub key : IsInternalKey x.0
  pub rest_fits : IsBytes x.1

abbrev read : List ℕ → Result (List ℕ) Fault
read bytes = Ok bytes

is_read : (r : Result (List ℕ) Fault) → is_ok r ≡ true → (bytes : List ℕ) × (r ≡ read bytes)
is_read (Ok bytes) e = (bytes, refl)
is_read (Err d) e = absurd cc

pub key_takes : (bytes : List ℕ) (x : List ℕ × List ℕ) → IsBytes bytes → key_at bytes ≡ Some x → TakesKey bytes x
unfolding key_at
key_takes bytes x fits e =
    let a = bind_some (slice_at bytes) (λ key. cond (is_ok (internal_key_reading key.0)) (Some key) None) x e in
    let t = slice_takes bytes a.0 fits a.1 in
    let g = passed (is_ok (internal_key_reading a.0.0)) a.0 x a.2 in
    let r = is_read (internal_key_reading a.0.0) g.0 in
    let made : TakesKey bytes a.0 = record { parts = t.parts; key = IsInternalKey-reading a.0.0 r.0 t.fits r.1; rest_fits = t.rest_fits } in
    subst (TakesKey bytes) g.1 made

pub key_again : (s rest : List ℕ) → IsInternalKey s → key_at (length_prefixed s ++ rest) ≡ Some (s, rest)
unfolding key_at
key_again s rest key =
    let yes : is_ok (internal_key_reading s) ≡ true = ap is_ok (internal_key_reading-Ok s key) in
    rw (slice_again s rest (omega (arith, key.fits)), yes) refl
