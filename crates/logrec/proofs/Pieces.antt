-- A fragment that is read is the fragment that was written, and what was written is read again.
use Rattle.std.proofs.Common.{◌≡◌, ℕ, ◌+◌, ◌^◌, ◌<◌, ◌≤◌, ◌⊎◌, Bool, true, false, cond, ltb, eqb, ◌||◌, ◌&&◌, List, ◌∷◌, ◌++◌, length, take, drop, get_or, Result, Ok, Err, refl, sym, ap, subst, ◌∙◌, arith, inl, inr}
use Rattle.std.proofs.Math.Nat.{mod-lt}
use Rattle.std.proofs.lemmas.List.{take_at, drop_at, take-append-drop, length-append, length-take-le, length-drop}
use Rattle.std.proofs.lemmas.Bool.{ltb-false, le-ltb, lt-ltb, ltb-true, eqb-true, eq-eqb, and_parts}
use Rattle.byteorder.specs.Endian.{little_bytes, little_number}
use Rattle.byteorder.specs.Numbers.{little_number-reads_back}
use Rattle.coding.specs.Answers.{fault}
use Rattle.coding.specs.declared.fault.Fault.{Fault}
use Rattle.coding.specs.declared.fault.FaultName.TheVariants.{LogChecksum, LogShape}
use Rattle.coding.proofs.Binds.{guard_ok, ok_is}
use Rattle.coding.proofs.Bytes.{IsBytes, IsBytes-drop}
use Rattle.logrec.specs.Log.{fragment_type, checksum, fragment}
use Rattle.logrec.specs.LogReader.{FragmentReading, content_len, fragment_reading, ends_record}
use Rattle.logrec.proofs.Bytes.{guard_ended, header_parts}

abbrev piece_is : ℕ → List ℕ → List ℕ → FragmentReading
piece_is kind content rest = record { kind = kind; content = content; rest = rest }

-- the last test of a fragment, and each with those after it
abbrev summed : ℕ → ℕ → ℕ → List ℕ → Result FragmentReading Fault
summed len sum kind body = cond (eqb sum (checksum kind (take len body))) (Ok (piece_is kind (take len body) (drop len body))) (Err (fault LogChecksum))

abbrev within : ℕ → ℕ → ℕ → List ℕ → Result FragmentReading Fault
within len sum kind body = cond (ltb (length body) len) (Err (fault LogShape)) (summed len sum kind body)

abbrev roomy : ℕ → ℕ → ℕ → ℕ → List ℕ → Result FragmentReading Fault
roomy room len sum kind body = cond (ltb room len) (Err (fault LogShape)) (within len sum kind body)

abbrev piece_by : ℕ → ℕ → ℕ → ℕ → ℕ → List ℕ → Result FragmentReading Fault
piece_by total room len sum kind body = cond (ltb total 7) (Err (fault LogShape)) (roomy room len sum kind body)

piece_at-by : (room : ℕ) (bytes : List ℕ) → fragment_reading room bytes ≡ piece_by (length bytes) room (content_len bytes) (little_number 4 bytes) (get_or bytes 6 0) (drop 7 bytes)
unfolding fragment_reading
piece_at-by room bytes = refl

record Passed (total room len sum kind : ℕ) (body : List ℕ) (p : FragmentReading) : Type 0 where
  header : 7 ≤ total
  room_le : len ≤ room
  body_le : len ≤ length body
  sum_is : sum ≡ checksum kind (take len body)
  piece : piece_is kind (take len body) (drop len body) ≡ p

piece_by_ok : (total room len sum kind : ℕ) (body : List ℕ) (p : FragmentReading) → piece_by total room len sum kind body ≡ Ok p → Passed total room len sum kind body p
piece_by_ok total room len sum kind body p e =
    let a = guard_ok (ltb total 7) (fault LogShape) (roomy room len sum kind body) p e in
    let b = guard_ok (ltb room len) (fault LogShape) (within len sum kind body) p a.1 in
    let c = guard_ok (ltb (length body) len) (fault LogShape) (summed len sum kind body) p b.1 in
    let d = guard_ended (eqb sum (checksum kind (take len body))) (fault LogChecksum) (piece_is kind (take len body) (drop len body)) p c.1 in
    record { header = ltb-false _ _ a.0; room_le = ltb-false _ _ b.0; body_le = ltb-false _ _ c.0; sum_is = eqb-true _ _ d.0; piece = d.1 }

piece_by_is : (total room len sum kind : ℕ) (content rest body : List ℕ) → 7 ≤ total → len ≤ room → len ≡ length content → sum ≡ checksum kind content → body ≡ content ++ rest
    → piece_by total room len sum kind body ≡ Ok (piece_is kind content rest)
piece_by_is total room len sum kind content rest body header le len-is sum-is body-is =
    let front : take len body ≡ content = ap (take len) body-is ∙ take_at content rest len (sym len-is) in
    let behind : drop len body ≡ rest = ap (drop len) body-is ∙ drop_at content rest len (sym len-is) in
    let a : ltb total 7 ≡ false = le-ltb _ _ header in
    let b : ltb room len ≡ false = le-ltb _ _ le in
    let c : ltb (length body) len ≡ false = le-ltb _ _ (omega (arith, ap length body-is, length-append content rest)) in
    let d : eqb sum (checksum kind content) ≡ true = eq-eqb _ _ sum-is in
    rw (a, b, c, front, behind, d) refl

pub checksum_fits : (kind : ℕ) (content : List ℕ) → checksum kind content < 2 ^ 32
unfolding checksum
checksum_fits kind content = mod-lt _ {m = 2 ^ 32} (omega arith)

pub length-fragment : (kind : ℕ) (content : List ℕ) → length (fragment kind content) ≡ 7 + length content
unfolding fragment
length-fragment kind content = omega arith

-- what is read
pub record TakesPiece (room : ℕ) (bytes : List ℕ) (p : FragmentReading) : Type 0 where
  pub parts : bytes ≡ fragment p.kind p.content ++ p.rest
  pub rest_fits : IsBytes p.rest
  pub content_le : length p.content ≤ room

pub piece_takes : (room : ℕ) (bytes : List ℕ) (p : FragmentReading) → IsBytes bytes → fragment_reading room bytes ≡ Ok p → TakesPiece room bytes p
unfolding fragment
piece_takes room bytes p fits e =
    let len = content_len bytes in
    let kind = get_or bytes 6 0 in
    let body = drop 7 bytes in
    let h = piece_by_ok (length bytes) room (content_len bytes) (little_number 4 bytes) (get_or bytes 6 0) (drop 7 bytes) p (sym (piece_at-by room bytes) ∙ e) in
    let len-is : length (take len body) ≡ len = length-take-le len body h.body_le in
    let whole : List ℕ → List ℕ = λ t. little_bytes 4 (little_number 4 bytes) ++ (little_bytes 2 len ++ kind ∷ t) in
    let sums : ℕ → List ℕ = λ s. little_bytes 4 s ++ (little_bytes 2 len ++ kind ∷ (take len body ++ drop len body)) in
    let lens : ℕ → List ℕ = λ n. little_bytes 4 (checksum kind (take len body)) ++ (little_bytes 2 n ++ kind ∷ (take len body ++ drop len body)) in
    let parts : bytes ≡ fragment kind (take len body) ++ drop len body =
    header_parts bytes fits h.header ∙ ap whole (sym (take-append-drop len body)) ∙ ap sums h.sum_is ∙ ap lens (sym len-is) in
    let made : TakesPiece room bytes (piece_is kind (take len body) (drop len body)) = record { parts = parts; rest_fits = IsBytes-drop len body (IsBytes-drop 7 bytes fits); content_le = omega (arith, h.room_le) } in
    subst (λ (q : FragmentReading). TakesPiece room bytes q) h.piece made

pub piece_shorter : (room : ℕ) (bytes : List ℕ) (p : FragmentReading) → fragment_reading room bytes ≡ Ok p → length p.rest < length bytes
piece_shorter room bytes p e =
    let h = piece_by_ok (length bytes) room (content_len bytes) (little_number 4 bytes) (get_or bytes 6 0) (drop 7 bytes) p (sym (piece_at-by room bytes) ∙ e) in
    omega (arith, h.header, ap (λ (q : FragmentReading). length q.rest) h.piece, length-drop (content_len bytes) (drop 7 bytes), length-drop 7 bytes)

pub piece_again : (room kind : ℕ) (content rest : List ℕ) → length content ≤ room → room < 2 ^ 16
    → fragment_reading room (fragment kind content ++ rest) ≡ Ok (record { kind = kind; content = content; rest = rest })
unfolding fragment
piece_again room kind content rest le fits =
    let total : 7 ≤ length (fragment kind content ++ rest) = omega (arith, length-append (fragment kind content) rest, length-fragment kind content) in
    piece_at-by room (fragment kind content ++ rest)
    ∙ piece_by_is (length (fragment kind content ++ rest)) room (content_len (fragment kind content ++ rest)) (little_number 4 (fragment kind content ++ rest)) kind content rest (content ++ rest) total
    (omega (arith, little_number-reads_back 2 (length content) (kind ∷ content ++ rest) (omega arith)))
    (little_number-reads_back 2 (length content) (kind ∷ content ++ rest) (omega arith))
    (little_number-reads_back 4 (checksum kind content) (little_bytes 2 (length content) ++ kind ∷ content ++ rest) (checksum_fits kind content))
    refl

-- ---- whether a fragment ends its record

-- the record is not empty, or begins here
abbrev pub HasMore : Bool → ℕ → Type 0
HasMore begins len = (begins ≡ true) ⊎ (0 < len)

abbrev pub Ends : Bool → ℕ → ℕ → ℕ → Bool → Type 0
Ends begins room kind len true = (kind ≡ fragment_type begins true) × HasMore begins len
Ends begins room kind len false = (kind ≡ fragment_type begins false) × (len ≡ room)

more_of : (begins : Bool) (len : ℕ) → (begins || ltb 0 len) ≡ true → HasMore begins len
more_of true len e = inl refl
more_of false len e = inr (ltb-true 0 len e)

more_is : (begins : Bool) (len : ℕ) → HasMore begins len → (begins || ltb 0 len) ≡ true
more_is true len h = refl
more_is false len (inl e) = absurd cc
more_is false len (inr lt) = lt-ltb 0 len lt

choose : (s t : Bool) (d : Fault) (b : Bool) (P : Bool → Type 0) → (s ≡ true → P true) → (t ≡ true → P false) → cond s (Ok true) (cond t (Ok false) (Err d)) ≡ Ok b → P b
choose true t d b P last other e = subst P (ok_is true b e) (last refl)
choose false true d b P last other e = subst P (ok_is false b e) (other refl)
choose false false d b P last other e = absurd cc

pub ends_ok : (begins : Bool) (room kind len : ℕ) (b : Bool) → ends_record begins room kind len ≡ Ok b → Ends begins room kind len b
unfolding ends_record
ends_ok begins room kind len b e =
    choose (eqb kind (fragment_type begins true) && (begins || ltb 0 len)) (eqb kind (fragment_type begins false) && eqb len room) (fault LogShape) b (Ends begins room kind len)
    (λ h. let p = and_parts (eqb kind (fragment_type begins true)) (begins || ltb 0 len) h in (eqb-true _ _ p.0, more_of begins len p.1))
    (λ h. let p = and_parts (eqb kind (fragment_type begins false)) (eqb len room) h in (eqb-true _ _ p.0, eqb-true _ _ p.1))
    e

pub ends_last : (begins : Bool) (room len : ℕ) → HasMore begins len → ends_record begins room (fragment_type begins true) len ≡ Ok true
unfolding ends_record
ends_last true room len h = refl
ends_last false room len h = let more : ltb 0 len ≡ true = more_is false len h in rw more refl

pub ends_not : (begins : Bool) (room len : ℕ) → len ≡ room → ends_record begins room (fragment_type begins false) len ≡ Ok false
unfolding ends_record
ends_not true room len e = let same : eqb len room ≡ true = eq-eqb len room e in rw same refl
ends_not false room len e = let same : eqb len room ≡ true = eq-eqb len room e in rw same refl
