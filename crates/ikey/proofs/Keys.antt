-- What the parts of an internal key are.
use Rattle.std.proofs.Common.{◌≡◌, ℕ, ◌+◌, ◌*◌, ◌-◌, ◌/◌, ◌%◌, ◌^◌, ◌<◌, ◌≤◌, Bool, true, false, nat_eq, nat_lt, Result, Ok, Err, if◌then◌else◌, List, [], ◌∷◌, ◌++◌, get_or, zero, suc, length, take, drop, refl, sym, ap, ◌∙◌, arith, length-append}
use Rattle.std.proofs.Math.Seq.{take-append_seam, drop-append_seam}
use Rattle.std.proofs.lemmas.List.{get_or-drop, length-drop, length-take, take-append-drop}
use Rattle.std.specs.Int.{byte_at, bytes_low_first}
use Rattle.byteorder.specs.Endian.{little_number, little_from}
use Rattle.byteorder.specs.Numbers.{length-bytes_low_first, little_number-reads_back, little_from-append, little_from-cons, little_from-lt}
use Rattle.coding.specs.Answers.{fault}
use Rattle.coding.specs.declared.fault.Fault.{Fault}
use Rattle.coding.specs.declared.fault.FaultName.TheVariants.{Key, TooLarge}
use Rattle.ikey.specs.declared.kind.Kind.{Kind}
use Rattle.ikey.specs.declared.kind.Kind.TheVariants.{Delete, Put}
use Rattle.ikey.specs.Key.{kind_number, user_of, tag_of, tag_bytes, sequence_of, kind_of, internal_key, internal_key_reading, IsInternalKey}
use borrow.Author.Tests.{eqb-true, eqb-false, ltb-true, ltb-false}

-- a tag has 8 bytes
pub length-tag_bytes : (t : ℕ) → length (tag_bytes t) ≡ 8
unfolding tag_bytes
length-tag_bytes t = length-bytes_low_first 0 8 t

tag_place : (user : List ℕ) (t : ℕ) → length (user ++ tag_bytes t) - 8 ≡ length user
tag_place user t = omega (arith, length-append user (tag_bytes t), length-tag_bytes t)

-- what stands before and in the last 8 bytes
user_part : (user : List ℕ) (t : ℕ) → take (length (user ++ tag_bytes t) - 8) (user ++ tag_bytes t) ≡ user
user_part user t =
    ap (λ n. take n (user ++ tag_bytes t)) (tag_place user t) ∙ take-append_seam user (tag_bytes t)

tag_part : (user : List ℕ) (t : ℕ) → drop (length (user ++ tag_bytes t) - 8) (user ++ tag_bytes t) ≡ tag_bytes t
tag_part user t =
    ap (λ n. drop n (user ++ tag_bytes t)) (tag_place user t) ∙ drop-append_seam user (tag_bytes t)

-- the number of a tag's bytes is the tag
tag_number : (t : ℕ) (bytes : List ℕ) → t < 2 ^ 64 → bytes ≡ tag_bytes t → little_number 8 bytes ≡ t
unfolding tag_bytes
tag_number t bytes h e =
    ap (little_number 8) e
    ∙ sym (little_from-append 8 (bytes_low_first 0 8 t) [] (omega (arith, length-bytes_low_first 0 8 t)))
    ∙ little_number-reads_back 8 t [] h

tag_of-append : (user : List ℕ) (t : ℕ) → t < 2 ^ 64 → tag_of (user ++ tag_bytes t) ≡ t
unfolding tag_of
tag_of-append user t h =
    tag_number t (drop (length (user ++ tag_bytes t) - 8) (user ++ tag_bytes t)) h (tag_part user t)

kind_number-lt : (kind : Kind) → kind_number kind < 2
kind_number-lt Delete = omega arith
kind_number-lt Put = omega arith

pub length-internal_key : (user : List ℕ) (sequence : ℕ) (kind : Kind) → length (internal_key user sequence kind) ≡ length user + 8
unfolding internal_key
length-internal_key user sequence kind =
    let t : ℕ = sequence * 256 + kind_number kind in
    omega (arith, length-append user (tag_bytes t), length-tag_bytes t)

pub user_of-internal_key : (user : List ℕ) (sequence : ℕ) (kind : Kind) → user_of (internal_key user sequence kind) ≡ user
unfolding internal_key
user_of-internal_key user sequence kind = user_part user (sequence * 256 + kind_number kind)

pub tag_of-internal_key : (user : List ℕ) (sequence : ℕ) (kind : Kind) → sequence < 2 ^ 56 → tag_of (internal_key user sequence kind) ≡ sequence * 256 + kind_number kind
unfolding internal_key
tag_of-internal_key user sequence kind h =
    let low = kind_number-lt kind in
    tag_of-append user (sequence * 256 + kind_number kind) (omega arith)

pub sequence_of-internal_key : (user : List ℕ) (sequence : ℕ) (kind : Kind) → sequence < 2 ^ 56 → sequence_of (internal_key user sequence kind) ≡ sequence
sequence_of-internal_key user sequence kind h =
    let low = kind_number-lt kind in
    omega (arith, tag_of-internal_key user sequence kind h)

kind_numbered : (t : ℕ) (kind : Kind) → t % 256 ≡ kind_number kind → (if nat_eq (t % 256) 1 then Put else Delete) ≡ kind
kind_numbered t Delete e = ap (λ n. if nat_eq n 1 then Put else Delete) e
kind_numbered t Put e = ap (λ n. if nat_eq n 1 then Put else Delete) e

pub kind_of-internal_key : (user : List ℕ) (sequence : ℕ) (kind : Kind) → sequence < 2 ^ 56 → kind_of (internal_key user sequence kind) ≡ kind
kind_of-internal_key user sequence kind h =
    let low = kind_number-lt kind in
    kind_numbered (tag_of (internal_key user sequence kind)) kind (omega (arith, tag_of-internal_key user sequence kind h))

spelled-internal_key : (user : List ℕ) (sequence : ℕ) (kind : Kind) → sequence < 2 ^ 56 → drop (length (internal_key user sequence kind) - 8) (internal_key user sequence kind) ≡ tag_bytes (tag_of (internal_key user sequence kind))
unfolding internal_key
spelled-internal_key user sequence kind h =
    let low = kind_number-lt kind in
    let t : ℕ = sequence * 256 + kind_number kind in
    tag_part user t ∙ ap tag_bytes (sym (tag_of-append user t (omega arith)))

-- the internal key of a user key, a sequence and a type that fit is one
pub IsInternalKey-internal_key : (user : List ℕ) (sequence : ℕ) (kind : Kind) → length user ≤ 65535 → sequence < 2 ^ 56 → IsInternalKey (internal_key user sequence kind)
IsInternalKey-internal_key user sequence kind fits h =
    let low = kind_number-lt kind in
    record {
      tagged = omega (arith, length-internal_key user sequence kind);
      spelled = spelled-internal_key user sequence kind h;
      typed = omega (arith, tag_of-internal_key user sequence kind h);
      fits = omega (arith, length-internal_key user sequence kind);
    }

-- n bytes are told by their number
little_from-injective : (n : ℕ) (xs ys : List ℕ) → length xs ≡ n → length ys ≡ n → ((i : ℕ) → get_or xs i 0 < 256) → ((i : ℕ) → get_or ys i 0 < 256) → little_from 0 n xs ≡ little_from 0 n ys → xs ≡ ys
little_from-injective zero [] [] lx ly hx hy e = refl
little_from-injective zero (x ∷ xs) ys lx ly hx hy e = absurd (omega arith)
little_from-injective zero [] (y ∷ ys) lx ly hx hy e = absurd (omega arith)
little_from-injective (suc n) [] ys lx ly hx hy e = absurd (omega arith)
little_from-injective (suc n) (x ∷ xs) [] lx ly hx hy e = absurd (omega arith)
little_from-injective (suc n) (x ∷ xs) (y ∷ ys) lx ly hx hy e =
    let fx : x < 256 = hx 0 in
    let fy : y < 256 = hy 0 in
    let mx = little_from-cons 0 n x xs in
    let my = little_from-cons 0 n y ys in
    let first : x ≡ y = omega arith in
    let number : little_from 0 n xs ≡ little_from 0 n ys = omega arith in
    let rest = little_from-injective n xs ys (omega arith) (omega arith) (λ i. hx (suc i)) (λ i. hy (suc i)) number in
    cc

byte_at-lt : (k x : ℕ) → byte_at k x < 256
byte_at-lt zero x = omega arith
byte_at-lt (suc k) x = omega arith

bytes_low_first-lt : (j n x i : ℕ) → get_or (bytes_low_first j n x) i 0 < 256
bytes_low_first-lt j zero x i = omega arith
bytes_low_first-lt j (suc n) x zero = byte_at-lt j x
bytes_low_first-lt j (suc n) x (suc i) = bytes_low_first-lt (suc j) n x i

eight_spelled : (xs : List ℕ) → length xs ≡ 8 → ((i : ℕ) → get_or xs i 0 < 256) → xs ≡ tag_bytes (little_number 8 xs)
unfolding tag_bytes
eight_spelled xs len h =
    let t : ℕ = little_number 8 xs in
    little_from-injective 8 xs (bytes_low_first 0 8 t) len (length-bytes_low_first 0 8 t) h (bytes_low_first-lt 0 8 t)
    (sym (tag_number t (bytes_low_first 0 8 t) (little_from-lt 0 8 xs h) refl))

-- the last 8 bytes spell the tag
pub tag_spelled : (bytes : List ℕ) → 8 ≤ length bytes → ((i : ℕ) → get_or bytes i 0 < 256) → drop (length bytes - 8) bytes ≡ tag_bytes (tag_of bytes)
unfolding tag_of
tag_spelled bytes h fit =
    eight_spelled (drop (length bytes - 8) bytes) (omega (arith, length-drop (length bytes - 8) bytes))
    (λ i. omega (arith, get_or-drop (length bytes - 8) bytes i 0, fit (length bytes - 8 + i)))

-- an internal key is its user key and its tag
pub user_and_tag : (bytes : List ℕ) → IsInternalKey bytes → bytes ≡ user_of bytes ++ tag_bytes (tag_of bytes)
user_and_tag bytes l =
    sym (take-append-drop (length bytes - 8) bytes) ∙ ap (λ tag. user_of bytes ++ tag) l.spelled

-- internal keys of one user key and one tag are the same bytes
pub same_parts : (a b : List ℕ) → IsInternalKey a → IsInternalKey b → user_of a ≡ user_of b → tag_of a ≡ tag_of b → a ≡ b
same_parts a b la lb users tags =
    user_and_tag a la ∙ ap (λ user. user ++ tag_bytes (tag_of a)) users ∙ ap (λ t. user_of b ++ tag_bytes t) tags ∙ sym (user_and_tag b lb)

-- what a reading answers of its three tests
abbrev answer : List ℕ → Bool → Bool → Bool → Result (List ℕ) Fault
answer bytes short typeless long =
    if short then Err (fault Key) else if typeless then Err (fault Key) else if long then Err (fault TooLarge) else Ok bytes

read_by : (bytes : List ℕ) (short typeless long : Bool) → nat_lt (length bytes) 8 ≡ short → nat_lt 1 (tag_of bytes % 256) ≡ typeless → nat_lt (65535 + 8) (length bytes) ≡ long → IsInternalKey bytes → answer bytes short typeless long ≡ Ok bytes
read_by bytes true typeless long p q r l = absurd (let h = ltb-true (length bytes) 8 p in let k = l.tagged in omega arith)
read_by bytes false true long p q r l = absurd (let h = ltb-true 1 (tag_of bytes % 256) q in let k = l.typed in omega arith)
read_by bytes false false true p q r l = absurd (let h = ltb-true (65535 + 8) (length bytes) r in let k = l.fits in omega arith)
read_by bytes false false false p q r l = refl

lawful_by : (bytes read : List ℕ) → ((i : ℕ) → get_or bytes i 0 < 256) → (short typeless long : Bool) → nat_lt (length bytes) 8 ≡ short → nat_lt 1 (tag_of bytes % 256) ≡ typeless → nat_lt (65535 + 8) (length bytes) ≡ long → answer bytes short typeless long ≡ Ok read → IsInternalKey bytes
lawful_by bytes read h true typeless long p q r e = absurd (cc)
lawful_by bytes read h false true long p q r e = absurd (cc)
lawful_by bytes read h false false true p q r e = absurd (cc)
lawful_by bytes read h false false false p q r e =
    let enough : 8 ≤ length bytes = ltb-false (length bytes) 8 p in
    let low : tag_of bytes % 256 ≤ 1 = ltb-false 1 (tag_of bytes % 256) q in
    record {
      tagged = enough;
      spelled = tag_spelled bytes enough h;
      typed = omega arith;
      fits = ltb-false (65535 + 8) (length bytes) r;
    }

-- an internal key is read
pub internal_key_reading-Ok : (bytes : List ℕ) → IsInternalKey bytes → internal_key_reading bytes ≡ Ok bytes
internal_key_reading-Ok bytes l =
    read_by bytes (nat_lt (length bytes) 8) (nat_lt 1 (tag_of bytes % 256)) (nat_lt (65535 + 8) (length bytes)) refl refl refl l

-- bytes that are read are an internal key
pub IsInternalKey-reading : (bytes read : List ℕ) → ((i : ℕ) → get_or bytes i 0 < 256) → internal_key_reading bytes ≡ Ok read → IsInternalKey bytes
IsInternalKey-reading bytes read h e =
    lawful_by bytes read h (nat_lt (length bytes) 8) (nat_lt 1 (tag_of bytes % 256)) (nat_lt (65535 + 8) (length bytes)) refl refl refl e

-- the number of the type that a tag below 2 at its low byte names is that byte
low_number : (n : ℕ) (one : Bool) → nat_eq n 1 ≡ one → n < 2 → kind_number (if one then Put else Delete) ≡ n
low_number n true e h = sym (eqb-true n 1 e)
low_number n false e h = let other = eqb-false n 1 e in omega arith

pub kind_number-kind_of : (bytes : List ℕ) → tag_of bytes % 256 < 2 → kind_number (kind_of bytes) ≡ tag_of bytes % 256
kind_number-kind_of bytes h = low_number (tag_of bytes % 256) (nat_eq (tag_of bytes % 256) 1) refl h

-- a user key has at most 65,535 bytes
pub length-user_of : (bytes : List ℕ) → IsInternalKey bytes → length (user_of bytes) ≤ 65535
length-user_of bytes l = let fits = l.fits in omega (arith, length-take (length bytes - 8) bytes)

tag_bytes-lt : (t : ℕ) → little_number 8 (tag_bytes t) < 2 ^ 64
unfolding tag_bytes
tag_bytes-lt t = little_from-lt 0 8 (bytes_low_first 0 8 t) (bytes_low_first-lt 0 8 t)

pub tag_of-lt : (bytes : List ℕ) → IsInternalKey bytes → tag_of bytes < 2 ^ 64
unfolding tag_of
tag_of-lt bytes l =
    let same : little_number 8 (drop (length bytes - 8) bytes) ≡ little_number 8 (tag_bytes (tag_of bytes)) = ap (little_number 8) l.spelled in
    omega (arith, tag_bytes-lt (tag_of bytes), same)

-- a sequence is below 2^56
pub sequence_of-lt : (bytes : List ℕ) → IsInternalKey bytes → sequence_of bytes < 2 ^ 56
sequence_of-lt bytes l = omega (arith, tag_of-lt bytes l)

from_parts : (user : List ℕ) (t : ℕ) (kind : Kind) → kind_number kind ≡ t % 256 → internal_key user (t / 256) kind ≡ user ++ tag_bytes t
unfolding internal_key
from_parts user t kind e =
    let whole : t / 256 * 256 + kind_number kind ≡ t = omega arith in ap (λ n. user ++ tag_bytes n) whole
