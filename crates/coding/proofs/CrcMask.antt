-- A CRC rotated by 15 bits and back.
use Rattle.std.proofs.Common.{◌≡◌, ℕ, ◌+◌, ◌-◌, ◌*◌, ◌/◌, ◌%◌, ◌^◌, ◌<◌, bit_or, ap, ap₂, ◌∙◌, arith}
use lib.Bits.{or_shifted, or_shifted_r}
use Rattle.coding.specs.Crc.{masked}

pub rotated_right : (n : ℕ) → n < 2 ^ 32 → bit_or (n / 2 ^ 15) (n * 2 ^ 17 % 2 ^ 32) ≡ n / 2 ^ 15 + n % 2 ^ 15 * 2 ^ 17
rotated_right n h =
    let low : n * 2 ^ 17 % 2 ^ 32 ≡ n % 2 ^ 15 * 2 ^ 17 = omega arith in
    let small : n / 2 ^ 15 < 2 ^ 17 = omega arith in
    let sum : n % 2 ^ 15 * 2 ^ 17 + n / 2 ^ 15 ≡ n / 2 ^ 15 + n % 2 ^ 15 * 2 ^ 17 = omega arith in
    ap (bit_or (n / 2 ^ 15)) low ∙ or_shifted_r (n % 2 ^ 15) 17 (n / 2 ^ 15) small ∙ sum

pub rotated_left : (n : ℕ) → n < 2 ^ 32 → bit_or (n * 2 ^ 15 % 2 ^ 32) (n / 2 ^ 17) ≡ n % 2 ^ 17 * 2 ^ 15 + n / 2 ^ 17
rotated_left n h =
    let high : n * 2 ^ 15 % 2 ^ 32 ≡ n % 2 ^ 17 * 2 ^ 15 = omega arith in
    let small : n / 2 ^ 17 < 2 ^ 15 = omega arith in
    ap (λ x. bit_or x (n / 2 ^ 17)) high ∙ or_shifted (n % 2 ^ 17) 15 (n / 2 ^ 17) small

-- the mask of a number that was rotated left
pub masked-rotated_left : (n m : ℕ) → m < 2 ^ 32 → n ≡ (m + (2 ^ 32 - 0xa282ead8)) % 2 ^ 32 → masked (n % 2 ^ 17 * 2 ^ 15 + n / 2 ^ 17) ≡ m
masked-rotated_left n m h e =
    let high : (n % 2 ^ 17 * 2 ^ 15 + n / 2 ^ 17) / 2 ^ 15 ≡ n % 2 ^ 17 = omega arith in
    let low : (n % 2 ^ 17 * 2 ^ 15 + n / 2 ^ 17) % 2 ^ 15 ≡ n / 2 ^ 17 = omega arith in
    let whole : n % 2 ^ 17 + n / 2 ^ 17 * 2 ^ 17 ≡ n = omega arith in
    let back : (n + 0xa282ead8) % 2 ^ 32 ≡ m = omega arith in
    ap₂ (λ x y. (x + y * 2 ^ 17 + 0xa282ead8) % 2 ^ 32) high low ∙ ap (λ x. (x + 0xa282ead8) % 2 ^ 32) whole ∙ back

-- and the number rotated left, of a mask
pub rotated_left-masked : (n m crc : ℕ) → crc < 2 ^ 32 → masked crc ≡ m → n ≡ (m + (2 ^ 32 - 0xa282ead8)) % 2 ^ 32 → n % 2 ^ 17 * 2 ^ 15 + n / 2 ^ 17 ≡ crc
rotated_left-masked n m crc h e f =
    let rotated = crc / 2 ^ 15 + crc % 2 ^ 15 * 2 ^ 17 in
    let fits : rotated < 2 ^ 32 = omega arith in
    let is : n ≡ rotated = omega arith in
    let high : rotated / 2 ^ 17 ≡ crc % 2 ^ 15 = omega arith in
    let low : rotated % 2 ^ 17 ≡ crc / 2 ^ 15 = omega arith in
    let whole : crc / 2 ^ 15 * 2 ^ 15 + crc % 2 ^ 15 ≡ crc = omega arith in
    ap (λ x. x % 2 ^ 17 * 2 ^ 15 + x / 2 ^ 17) is ∙ ap₂ (λ x y. x * 2 ^ 15 + y) low high ∙ whole
