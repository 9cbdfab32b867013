-- What CURRENT holds tells its number, however large the other one may be.
use Rattle.std.proofs.Common.{◌≡◌, ◌⊎◌, ◌<◌, ◌≤◌, ◌+◌, ◌-◌, ◌*◌, ◌/◌, ◌%◌, ◌^◌, ◌==◌, nat_eq, nat_lt, Bool, true, false, ℕ, zero, suc, List, [], ◌∷◌, ◌++◌, length, drop, replicate, refl, sym, ap, subst, ◌∙◌, inl, inr, arith, decimal}
use Rattle.std.proofs.lemmas.List.{append_cancel_right, length-append}
use Rattle.std.proofs.Math.ListN.{length-replicate}
use Rattle.std.proofs.lemmas.Fmt.{decimal_is_IsNumeral_wide, length-decimal-le}
use Rattle.std.proofs.lemmas.Bool.{cases_lt}
use Rattle.std.specs.Fmt.{digit_glyph, digits, digits_onto}
use Rattle.std.specs.Str.Parse.{digits_value}
use Rattle.folder.specs.Names.{current_text, six_digits}

value_behind_zeros : (k : ℕ) (ds : List ℕ) → digits_value 10 (replicate k 48 ++ ds) ≡ digits_value 10 ds
value_behind_zeros zero ds = refl
value_behind_zeros (suc k) ds = value_behind_zeros k ds

number_wide : (n : ℕ) → n < 10 ^ 64 → digits_value 10 (six_digits n) ≡ n
number_wide n small = value_behind_zeros (6 - length (decimal n)) (decimal n) ∙ (decimal_is_IsNumeral_wide n small).1

-- of a number with more digits than that, so many are written
long_onto : (k n : ℕ) (acc : List ℕ) → 10 ^ k ≤ n → length (digits_onto k 10 false n acc) ≡ k + length acc
long_onto zero n acc h = omega arith
long_onto (suc k) n acc h =
    let power : 10 ^ suc k ≡ 10 * 10 ^ k = omega arith in
    let rest : 10 ^ k ≤ n / 10 = omega (arith, h, power) in
    let one : 1 ≤ 10 ^ k = some_power k in
    let some : nat_eq (n / 10) 0 ≡ false = grind (arith, rest, one) in
    rw some (long_onto k (n / 10) (digit_glyph false (n % 10) ∷ acc) rest ∙ omega arith)
  where
    some_power : (j : ℕ) → 1 ≤ 10 ^ j
    some_power zero = omega arith
    some_power (suc j) = let b = some_power j in let power : 10 ^ suc j ≡ 10 * 10 ^ j = omega arith in omega (arith, b, power)

long_decimal : (n : ℕ) → 10 ^ 64 ≤ n → length (decimal n) ≡ 64
unfolding digits
long_decimal n h = long_onto 64 n [] h

six_short : (n : ℕ) → n < 2 ^ 64 → length (six_digits n) ≤ 20
six_short n small =
    let l = length-decimal-le 20 n (omega arith) (omega (arith, small)) small in
    let a = length-append (replicate (6 - length (decimal n)) 48) (decimal n) in
    let r = length-replicate {A = ℕ} (6 - length (decimal n)) 48 in
    omega (arith, l, a, r)

six_long : (n : ℕ) → 10 ^ 64 ≤ n → 64 ≤ length (six_digits n)
six_long n h =
    let l = long_decimal n h in
    let a = length-append (replicate (6 - length (decimal n)) 48) (decimal n) in
    omega (arith, l, a)

digits_wide : (n m : ℕ) → m < 2 ^ 64 → six_digits n ≡ six_digits m → n ≡ m
digits_wide n m small same = elim (cases_lt n (10 ^ 64)) [
  | inl fits ↦ sym (number_wide n fits) ∙ (ap (digits_value 10) same ∙ number_wide m (omega (arith, small)))
  | inr large ↦
      let a = six_long n large in
      let b = six_short m small in
      let c = ap (λ (x : List ℕ). length x) same in
      absurd (omega (arith, a, b, c))
]

pub texts_wide : (n m : ℕ) → m < 2 ^ 64 → current_text n ≡ current_text m → n ≡ m
texts_wide n m small same = digits_wide n m small (append_cancel_right (six_digits n) (six_digits m) (10 ∷ []) (ap (drop 9) same))
