-- What is left of a record, read and written.
use Rattle.std.proofs.Common.{◌≡◌, ℕ, zero, suc, ◌+◌, ◌-◌, ◌^◌, ◌<◌, ◌≤◌, Bool, true, false, cond, leb, List, ◌++◌, length, take, drop, Result, Ok, Err, refl, sym, ap, subst, ◌∙◌, append_assoc, arith, inl, inr}
use Rattle.std.proofs.lemmas.List.{take_at, drop_at, take-append-drop, length-append, length-take-le, length-drop}
use Rattle.std.proofs.lemmas.Bool.{cases_lt, le-leb, lt-leb}
use Rattle.coding.specs.Answers.{fault, ◌>>=◌}
use Rattle.coding.specs.declared.fault.Fault.{Fault}
use Rattle.coding.specs.declared.fault.FaultName.TheVariants.{LogShape}
use Rattle.coding.proofs.Binds.{bind_ok, ok_is}
use Rattle.coding.proofs.Bytes.{IsBytes}
use Rattle.logrec.specs.Log.{fragment_type, fragment, fragments}
use Rattle.logrec.specs.LogReader.{FragmentReading, fragment_reading, ends_record, left_at}
use Rattle.logrec.proofs.Pieces.{length-fragment, TakesPiece, piece_takes, piece_shorter, piece_again, HasMore, Ends, ends_ok, ends_last, ends_not}

-- a record that ends in this fragment
pub fragments_last : (m : ℕ) (begins : Bool) (room : ℕ) (content : List ℕ) → length content ≤ room → fragments m begins room content ≡ fragment (fragment_type begins true) content
fragments_last zero begins room content le = refl
fragments_last (suc m) begins room content le = let yes : leb (length content) room ≡ true = le-leb _ _ le in rw yes refl

-- a record that goes on after this fragment
pub fragments_more : (m : ℕ) (begins : Bool) (room : ℕ) (content : List ℕ) → room < length content
    → fragments (suc m) begins room content ≡ fragment (fragment_type begins false) (take room content) ++ fragments m false 32761 (drop room content)
fragments_more m begins room content lt = let no : leb (length content) room ≡ false = lt-leb _ _ lt in rw no refl

-- what was read of a record
pub record TakesLeft (m : ℕ) (begins : Bool) (room : ℕ) (bytes : List ℕ) (x : List ℕ × List ℕ) : Type 0 where
  pub parts : bytes ≡ fragments m begins room x.0 ++ x.1
  pub rest_fits : IsBytes x.1
  pub more : HasMore begins (length x.0)

abbrev pub ending : ℕ → FragmentReading → Bool → Result (List ℕ × List ℕ) Fault
ending n first ends = cond ends (Ok (first.content, first.rest)) (left_at n false 32761 first.rest >>= λ others. Ok (first.content ++ others.0, others.1))

abbrev pub going : ℕ → Bool → ℕ → FragmentReading → Result (List ℕ × List ℕ) Fault
going n begins room first = ends_record begins room first.kind (length first.content) >>= ending n first

pub left_at-suc : (n : ℕ) (begins : Bool) (room : ℕ) (bytes : List ℕ) → left_at (suc n) begins room bytes ≡ (fragment_reading room bytes >>= going n begins room)
unfolding left_at
left_at-suc n begins room bytes = refl

left_at-zero : (begins : Bool) (room : ℕ) (bytes : List ℕ) → left_at zero begins room bytes ≡ Err (fault LogShape)
unfolding left_at
left_at-zero begins room bytes = refl

-- the last fragment
takes_last : (m : ℕ) (begins : Bool) (room : ℕ) (bytes : List ℕ) (p : FragmentReading) → TakesPiece room bytes p → Ends begins room p.kind (length p.content) true → TakesLeft m begins room bytes (p.content, p.rest)
takes_last m begins room bytes p t h = record {
  parts = t.parts ∙ ap (λ (k : ℕ). fragment k p.content ++ p.rest) h.0 ∙ ap (λ (f : List ℕ). f ++ p.rest) (sym (fragments_last m begins room p.content t.content_le));
  rest_fits = t.rest_fits;
  more = h.1;
}

-- another fragment, and those after it
takes_more : (m : ℕ) (begins : Bool) (room : ℕ) (bytes : List ℕ) (p : FragmentReading) (x : List ℕ × List ℕ) → TakesPiece room bytes p → Ends begins room p.kind (length p.content) false
    → 0 < length x.0 → TakesLeft m false 32761 p.rest x → TakesLeft (suc m) begins room bytes (p.content ++ x.0, x.1)
takes_more m begins room bytes p x t h some others =
    let long : room < length (p.content ++ x.0) = omega (arith, length-append p.content x.0, h.1) in
    let front : take room (p.content ++ x.0) ≡ p.content = take_at p.content x.0 room h.1 in
    let behind : drop room (p.content ++ x.0) ≡ x.0 = drop_at p.content x.0 room h.1 in
    let first = fragment (fragment_type begins false) p.content in
    let spelt : fragments (suc m) begins room (p.content ++ x.0) ≡ first ++ fragments m false 32761 x.0 =
    fragments_more m begins room (p.content ++ x.0) long
    ∙ ap (λ (c : List ℕ). fragment (fragment_type begins false) c ++ fragments m false 32761 (drop room (p.content ++ x.0))) front
    ∙ ap (λ (c : List ℕ). first ++ fragments m false 32761 c) behind in
    record {
      parts = t.parts ∙ ap (λ (k : ℕ). fragment k p.content ++ p.rest) h.0 ∙ ap (λ (c : List ℕ). first ++ c) others.parts ∙ sym (append_assoc first (fragments m false 32761 x.0) x.1) ∙ ap (λ (f : List ℕ). f ++ x.1) (sym spelt);
      rest_fits = others.rest_fits;
      more = inr (omega (arith, long));
    }

some_more : (len : ℕ) → HasMore false len → 0 < len
some_more len (inl e) = absurd cc
some_more len (inr lt) = lt

-- a fragment that fills the room, and more after it, pass the room
too_long : (front behind whole : List ℕ) (room : ℕ) → length front ≡ room → 0 < length behind → front ++ behind ≡ whole → length whole ≤ 0 + room → ⊥
too_long front behind whole room full some is le = omega (arith, ap length is, length-append front behind)

abbrev failed : Result (List ℕ × List ℕ) Fault
failed = Err (fault LogShape)

-- the step, at what is after the first fragment
left_ends : (n : ℕ) (begins : Bool) (room : ℕ) (bytes : List ℕ) (x : List ℕ × List ℕ) (p : FragmentReading) (b : Bool) → TakesPiece room bytes p → Ends begins room p.kind (length p.content) b → ending n p b ≡ Ok x
    → ((y : List ℕ × List ℕ) → left_at n false 32761 p.rest ≡ Ok y → (m : ℕ) → length y.0 ≤ m + 32761 → TakesLeft m false 32761 p.rest y)
    → (m : ℕ) → length x.0 ≤ m + room → TakesLeft m begins room bytes x
left_ends n begins room bytes x p true t h e behind m enough =
    subst (λ (z : List ℕ × List ℕ). TakesLeft m begins room bytes z) (ok_is (p.content, p.rest) x e) (takes_last m begins room bytes p t h)
left_ends n begins room bytes x p false t h e behind zero enough =
    let d = bind_ok (left_at n false 32761 p.rest) (λ others. Ok (p.content ++ others.0, others.1)) x e in
    let is = ok_is (p.content ++ d.0.0, d.0.1) x d.2 in
    let some = some_more (length d.0.0) (behind d.0 d.1 (length d.0.0) (omega arith)).more in
    absurd (too_long p.content d.0.0 x.0 room h.1 some (ap (λ (z : List ℕ × List ℕ). z.0) is) enough)
left_ends n begins room bytes x p false t h e behind (suc m) enough =
    let d = bind_ok (left_at n false 32761 p.rest) (λ others. Ok (p.content ++ others.0, others.1)) x e in
    let is = ok_is (p.content ++ d.0.0, d.0.1) x d.2 in
    let len : length x.0 ≡ length p.content + length d.0.0 = ap length (sym (ap (λ (z : List ℕ × List ℕ). z.0) is)) ∙ length-append p.content d.0.0 in
    let others = behind d.0 d.1 m (omega (arith, len, enough, h.1)) in
    subst (λ (z : List ℕ × List ℕ). TakesLeft (suc m) begins room bytes z) is (takes_more m begins room bytes p d.0 t h (some_more (length d.0.0) others.more) others)

no_value : (x : List ℕ × List ℕ) → failed ≡ Ok x → ⊥
no_value x e = cc

pub left_takes : (n : ℕ) (begins : Bool) (room : ℕ) (bytes : List ℕ) (x : List ℕ × List ℕ) → IsBytes bytes → left_at n begins room bytes ≡ Ok x
    → (m : ℕ) → length x.0 ≤ m + room → TakesLeft m begins room bytes x
left_takes zero begins room bytes x fits e m enough = absurd (no_value x (sym (left_at-zero begins room bytes) ∙ e))
left_takes (suc n) begins room bytes x fits e m enough =
    let a = bind_ok (fragment_reading room bytes) (going n begins room) x (sym (left_at-suc n begins room bytes) ∙ e) in
    let b = bind_ok (ends_record begins room a.0.kind (length a.0.content)) (ending n a.0) x a.2 in
    let t = piece_takes room bytes a.0 fits a.1 in
    left_ends n begins room bytes x a.0 b.0 t (ends_ok begins room a.0.kind (length a.0.content) b.0 b.1) b.2 (λ y h. left_takes n false 32761 a.0.rest y t.rest_fits h) m enough

abbrev done : List ℕ × List ℕ → Result (List ℕ × List ℕ) Fault
done x = Ok x

-- fragments have a header at least
pub fragments_long : (m : ℕ) (begins : Bool) (room : ℕ) (content : List ℕ) → 7 ≤ length (fragments m begins room content)
fragments_long zero begins room content = omega (arith, length-fragment (fragment_type begins true) content)
fragments_long (suc m) begins room content =
    elim (cases_lt room (length content)) [
      | inr short ↦ omega (arith, ap length (fragments_last (suc m) begins room content short), length-fragment (fragment_type begins true) content)
      | inl long ↦
          omega (arith, ap length (fragments_more m begins room content long), length-append (fragment (fragment_type begins false) (take room content)) (fragments m false 32761 (drop room content)), length-fragment (fragment_type begins false) (take room content))
    ]

ending_shorter : (n : ℕ) (p : FragmentReading) (b : Bool) (len : ℕ) (x : List ℕ × List ℕ) → length p.rest < len → ((y : List ℕ × List ℕ) → left_at n false 32761 p.rest ≡ Ok y → length y.1 < length p.rest)
    → ending n p b ≡ Ok x → length x.1 < len
ending_shorter n p true len x lt behind e = omega (arith, ap (λ (z : List ℕ × List ℕ). length z.1) (ok_is (p.content, p.rest) x e), lt)
ending_shorter n p false len x lt behind e =
    let d = bind_ok (left_at n false 32761 p.rest) (λ others. Ok (p.content ++ others.0, others.1)) x e in
    omega (arith, ap (λ (z : List ℕ × List ℕ). length z.1) (ok_is (p.content ++ d.0.0, d.0.1) x d.2), lt, behind d.0 d.1)

-- what was read leaves fewer bytes
pub left_shorter : (n : ℕ) (begins : Bool) (room : ℕ) (bytes : List ℕ) (x : List ℕ × List ℕ) → left_at n begins room bytes ≡ Ok x → length x.1 < length bytes
left_shorter zero begins room bytes x e = absurd (no_value x (sym (left_at-zero begins room bytes) ∙ e))
left_shorter (suc n) begins room bytes x e =
    let a = bind_ok (fragment_reading room bytes) (going n begins room) x (sym (left_at-suc n begins room bytes) ∙ e) in
    let b = bind_ok (ends_record begins room a.0.kind (length a.0.content)) (ending n a.0) x a.2 in
    ending_shorter n a.0 b.0 (length bytes) x (piece_shorter room bytes a.0 a.1) (λ y h. left_shorter n false 32761 a.0.rest y h) b.2

-- ---- what was written is read again

again_last : (n : ℕ) (begins : Bool) (room : ℕ) (content rest : List ℕ) → HasMore begins (length content) → length content ≤ room → room < 2 ^ 16
    → left_at (suc n) begins room (fragment (fragment_type begins true) content ++ rest) ≡ Ok (content, rest)
again_last n begins room content rest more le fits =
    let whole = fragment (fragment_type begins true) content ++ rest in
    left_at-suc n begins room (fragment (fragment_type begins true) content ++ rest)
    ∙ ap (λ (r : Result FragmentReading Fault). r >>= going n begins room) (piece_again room (fragment_type begins true) content rest le fits)
    ∙ ap (λ (r : Result Bool Fault). r >>= ending n (record { kind = fragment_type begins true; content = content; rest = rest })) (ends_last begins room (length content) more)

again_more : (n : ℕ) (begins : Bool) (room : ℕ) (content behind rest others : List ℕ) → length content ≡ room → room < 2 ^ 16
    → left_at n false 32761 others ≡ Ok (behind, rest)
    → left_at (suc n) begins room (fragment (fragment_type begins false) content ++ others) ≡ Ok (content ++ behind, rest)
again_more n begins room content behind rest others full fits e =
    left_at-suc n begins room (fragment (fragment_type begins false) content ++ others)
    ∙ ap (λ (r : Result FragmentReading Fault). r >>= going n begins room) (piece_again room (fragment_type begins false) content others (omega (arith, full)) fits)
    ∙ ap (λ (r : Result Bool Fault). r >>= ending n (record { kind = fragment_type begins false; content = content; rest = others })) (ends_not begins room (length content) full)
    ∙ ap (λ (r : Result (List ℕ × List ℕ) Fault). r >>= λ others. Ok (content ++ others.0, others.1)) e

pub left_again : (n m : ℕ) (begins : Bool) (room : ℕ) (content rest : List ℕ) → HasMore begins (length content) → length content ≤ m + room → room ≤ 32761
    → length (fragments m begins room content ++ rest) ≤ n → left_at n begins room (fragments m begins room content ++ rest) ≡ Ok (content, rest)
left_again zero m begins room content rest more enough fits le =
    absurd (omega (arith, length-append (fragments m begins room content) rest, fragments_long m begins room content))
left_again (suc n) zero begins room content rest more enough fits le = again_last n begins room content rest more (omega arith) (omega arith)
left_again (suc n) (suc m) begins room content rest more enough fits le =
    elim (cases_lt room (length content)) [
      | inr short ↦
          ap (λ (f : List ℕ). left_at (suc n) begins room (f ++ rest)) (fragments_last (suc m) begins room content short) ∙ again_last n begins room content rest more short (omega arith)
      | inl long ↦
          let others = fragments m false 32761 (drop room content) in
          let first = fragment (fragment_type begins false) (take room content) in
          let full : length (take room content) ≡ room = length-take-le room content (omega arith) in
          let behind : length (drop room content) ≡ length content - room = length-drop room content in
          let spelt : fragments (suc m) begins room content ++ rest ≡ first ++ (others ++ rest) = ap (λ (f : List ℕ). f ++ rest) (fragments_more m begins room content long) ∙ append_assoc first others rest in
          let fewer : length (others ++ rest) ≤ n = omega (arith, ap length spelt, length-append first (others ++ rest), length-fragment (fragment_type begins false) (take room content), le) in
          let again = left_again n m false 32761 (drop room content) rest (inr (omega (arith, behind, long))) (omega (arith, behind, enough)) (omega arith) fewer in
          ap (left_at (suc n) begins room) spelt
          ∙ again_more n begins room (take room content) (drop room content) rest (others ++ rest) full (omega arith) again
          ∙ ap (λ (c : List ℕ). done (c, rest)) (take-append-drop room content)
    ]
