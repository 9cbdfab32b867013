-- Numbers at the front of bytes.
use Rattle.std.proofs.Common.{◌≡◌, ℕ, ◌≤◌, Bool, true, false, cond, List, [], ◌∷◌, ◌++◌, length, take, drop, get_or, Ok, Err, refl, sym, ap, ◌∙◌, arith, drop-cons}
use Rattle.std.proofs.lemmas.List.{take-append-drop, length-take-le, length-drop, get_or-take}
use Rattle.std.proofs.lemmas.Nat.{le_bytes_2}
use Rattle.byteorder.specs.Endian.{little_bytes, little_number}
use Rattle.coding.specs.declared.fault.Fault.{Fault}
use Rattle.coding.proofs.Bytes.{IsBytes, IsBytes-take, IsBytes-drop, word_parts}

pub guard_ended : {A : Type 0} (b : Bool) (d : Fault) (x y : A) → cond b (Ok x) (Err d) ≡ Ok y → (b ≡ true) × (x ≡ y)
guard_ended true d x y e = (refl, cc)
guard_ended false d x y e = absurd cc

-- two bytes are those of the number that they spell
two_parts : (bytes : List ℕ) → IsBytes bytes → 2 ≤ length bytes → bytes ≡ little_bytes 2 (little_number 2 bytes) ++ drop 2 bytes
two_parts bytes fits le =
    let two : length (take 2 bytes) ≡ 2 = length-take-le 2 bytes le in
    let fits2 : IsBytes (take 2 bytes) = IsBytes-take 2 bytes fits in
    let spelt : little_bytes 2 (little_number 2 bytes) ≡ take 2 bytes =
    le_bytes_2 (take 2 bytes) (little_number 2 bytes) two fits2
    (omega (arith, get_or-take 2 bytes 0 0 (omega arith), get_or-take 2 bytes 1 0 (omega arith))) in
    sym (take-append-drop 2 bytes) ∙ ap (λ (t : List ℕ). t ++ drop 2 bytes) (sym spelt)

drop_four_two : (bytes : List ℕ) → drop 2 (drop 4 bytes) ≡ drop 6 bytes
drop_four_two [] = refl
drop_four_two (a ∷ []) = refl
drop_four_two (a ∷ b ∷ []) = refl
drop_four_two (a ∷ b ∷ c ∷ []) = refl
drop_four_two (a ∷ b ∷ c ∷ d ∷ bytes) = refl

-- the parts of a header, and the bytes after it
pub header_parts : (bytes : List ℕ) → IsBytes bytes → 7 ≤ length bytes
    → bytes ≡ little_bytes 4 (little_number 4 bytes) ++ (little_bytes 2 (little_number 2 (drop 4 bytes)) ++ get_or bytes 6 0 ∷ drop 7 bytes)
header_parts bytes fits le =
    let behind : 2 ≤ length (drop 4 bytes) = omega (arith, length-drop 4 bytes) in
    let last : drop 6 bytes ≡ get_or bytes 6 0 ∷ drop 7 bytes = drop-cons bytes 6 0 (omega arith) in
    let second : drop 4 bytes ≡ little_bytes 2 (little_number 2 (drop 4 bytes)) ++ get_or bytes 6 0 ∷ drop 7 bytes =
    two_parts (drop 4 bytes) (IsBytes-drop 4 bytes fits) behind ∙ ap (λ (t : List ℕ). little_bytes 2 (little_number 2 (drop 4 bytes)) ++ t) (drop_four_two bytes ∙ last) in
    word_parts bytes fits (omega arith) ∙ ap (λ (t : List ℕ). little_bytes 4 (little_number 4 bytes) ++ t) second
