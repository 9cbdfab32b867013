-- Reading and writing a group at a time, as loops do.
use Rattle.std.proofs.Common.{◌≡◌, ℕ, zero, suc, ◌+◌, ◌-◌, ◌*◌, ◌/◌, ◌%◌, ◌^◌, ◌<◌, ◌≤◌, Bool, false, cond, eqb, List, [], ◌∷◌, ◌++◌, length, get_or, set, take, drop, Option, Some, None, refl, sym, ap, ◌∙◌, inl, inr, arith, append_assoc, length-set}
use Rattle.std.proofs.lemmas.Bool.{cases_eq, eq-eqb}
use Rattle.std.proofs.lemmas.Bool.Decides.{nat_tests}
use Rattle.std.proofs.lemmas.List.{at_drop_more, at_drop_all, take_more_set}
use Rattle.std.proofs.lemmas.Nat.{pow-add, shl_whole}
use Rattle.std.proofs.Math.Nat.{mul-le-mul_right}
use Rattle.std.proofs.Math.Pow.{pow_mono}
use Rattle.coding.specs.Varint.{groups, varint, varint_reading}
use Rattle.coding.proofs.Groups.{limit_of, two_le_limit_of, groups_small, groups_large, reading, reading_empty, reading_last, reading_full, reading_more, joined}

-- ---- reading

-- the reading that is left when the first byte and i more stand for number
unfoldable pub read_on : ℕ → ℕ → List ℕ → Option (ℕ × ℕ)
read_on i number rest = joined (i + 1) number (2 ^ (7 * i + 7)) (reading (8 - i) (limit_of (8 - i)) (drop i rest))

some_eqb : (x : ℕ) → 0 < x → eqb x 0 ≡ false
some_eqb x pos = grind (arith, nat_tests)

joined_twice : (used number scale r : ℕ) (t : Option (ℕ × ℕ)) → joined used number scale (joined 1 r 128 t) ≡ joined (used + 1) (number + scale * r) (scale * 128) t
joined_twice used number scale r None = refl
joined_twice used number scale r (Some (x, more)) =
    elim (cases_eq x 0) [
      | inl none ↦ rw (eq-eqb x 0 none) refl
      | inr some ↦
          let first : eqb x 0 ≡ false = some_eqb x (omega arith) in
          let both : eqb (r + 128 * x) 0 ≡ false = some_eqb (r + 128 * x) (omega arith) in
          let sum : number + scale * (r + 128 * x) ≡ number + scale * r + scale * 128 * x = omega arith in
          let long : used + (1 + more) ≡ used + 1 + more = omega arith in
          rw (first, both, sum, long) refl
    ]

-- a group that is shifted into its place
pub record IsShifted (j k number b : ℕ) : Type 0 where
  pub is : (b * 2 ^ k) % 2 ^ 64 ≡ b * 2 ^ k
  pub below : number + b * 2 ^ k < 2 ^ (j + k)

pub shifted : (j k number b : ℕ) → j + k ≤ 64 → b < 2 ^ j → number < 2 ^ k → IsShifted j k number b
shifted j k number b within lt below = record {
  is = shl_whole b j k 64 lt within;
  below = omega (arith, pow-add 2 j k, mul-le-mul_right (2 ^ k) (let le : b + 1 ≤ 2 ^ j = omega arith in le));
}

pub read_first : (first : ℕ) (rest : List ℕ) → 128 ≤ first → first < 256 → read_on 0 (first - 128) rest ≡ varint_reading (2 ^ 64) (first ∷ rest)
unfolding read_on varint_reading varint
read_first first rest large byte = sym (reading_more 8 (limit_of 8) first rest large byte)

read_here : (i number : ℕ) (rest : List ℕ) → i < length rest → read_on i number rest ≡ joined (i + 1) number (2 ^ (7 * i + 7)) (reading (8 - i) (limit_of (8 - i)) (get_or rest i 0 ∷ drop (i + 1) rest))
unfolding read_on
read_here i number rest lt = at_drop_more (λ (bytes : List ℕ). joined (i + 1) number (2 ^ (7 * i + 7)) (reading (8 - i) (limit_of (8 - i)) bytes)) rest i 0 lt

pub read_end : (i number : ℕ) (rest : List ℕ) → length rest ≤ i → read_on i number rest ≡ None
unfolding read_on
read_end i number rest le =
    at_drop_all (λ (bytes : List ℕ). joined (i + 1) number (2 ^ (7 * i + 7)) (reading (8 - i) (limit_of (8 - i)) bytes)) rest i le
    ∙ ap (joined (i + 1) number (2 ^ (7 * i + 7))) (reading_empty (8 - i) (limit_of (8 - i)))

full_at : (n b : ℕ) (bytes : List ℕ) → n ≡ 0 → 1 < b → reading n (limit_of n) (b ∷ bytes) ≡ None
full_at zero b bytes none large = reading_full b bytes large
full_at (suc n) b bytes none large = absurd (omega arith)

pub read_past : (i number : ℕ) (rest : List ℕ) → i ≡ 8 → i < length rest → 1 < get_or rest i 0 → read_on i number rest ≡ None
read_past i number rest full lt large =
    read_here i number rest lt
    ∙ ap (joined (i + 1) number (2 ^ (7 * i + 7))) (full_at (8 - i) (get_or rest i 0) (drop (i + 1) rest) (omega arith) large)

read_last : (i number b : ℕ) (rest : List ℕ) → i < length rest → get_or rest i 0 ≡ b → b < 128 → b < limit_of (8 - i) → read_on i number rest ≡ cond (eqb b 0) None (Some (number + 2 ^ (7 * i + 7) * b, i + 2))
read_last i number b rest lt is small below =
    let two : (i + 1) + 1 ≡ i + 2 = omega arith in
    read_here i number rest lt
    ∙ ap (λ (h : ℕ). joined (i + 1) number (2 ^ (7 * i + 7)) (reading (8 - i) (limit_of (8 - i)) (h ∷ drop (i + 1) rest))) is
    ∙ ap (joined (i + 1) number (2 ^ (7 * i + 7))) (reading_last (8 - i) (limit_of (8 - i)) b (drop (i + 1) rest) small below below)
    ∙ ap (λ (n : ℕ). cond (eqb b 0) None (Some (number + 2 ^ (7 * i + 7) * b, n))) two

read_more : (i number b : ℕ) (rest : List ℕ) → i < length rest → i < 8 → get_or rest i 0 ≡ b → 128 ≤ b → b < 256 → read_on i number rest ≡ read_on (i + 1) (number + 2 ^ (7 * i + 7) * (b - 128)) rest
unfolding read_on
read_more i number b rest lt few is large byte =
    let scale = 2 ^ (7 * i + 7) in
    let m = 8 - (i + 1) in
    let left : 8 - i ≡ suc m = omega arith in
    let wide : 7 * (i + 1) + 7 ≡ 7 * i + 7 + 7 = omega arith in
    let scaled : 2 ^ (7 * (i + 1) + 7) ≡ scale * 128 = ap (λ (k : ℕ). 2 ^ k) wide ∙ pow-add 2 (7 * i + 7) 7 in
    read_here i number rest lt
    ∙ ap (λ (h : ℕ). joined (i + 1) number scale (reading (8 - i) (limit_of (8 - i)) (h ∷ drop (i + 1) rest))) is
    ∙ ap (λ (n : ℕ). joined (i + 1) number scale (reading n (limit_of n) (b ∷ drop (i + 1) rest))) left
    ∙ ap (joined (i + 1) number scale) (reading_more m (limit_of m) b (drop (i + 1) rest) large byte)
    ∙ joined_twice (i + 1) number scale (b - 128) (reading m (limit_of m) (drop (i + 1) rest))
    ∙ ap (λ (s : ℕ). joined (i + 1 + 1) (number + scale * (b - 128)) s (reading m (limit_of m) (drop (i + 1) rest))) (sym scaled)

-- ---- what a loop over the bytes after the first knows

last_limit_at : (n b : ℕ) → b < 128 → (n ≡ 0 → b < 2) → b < limit_of n
last_limit_at zero b small full = full refl
last_limit_at (suc n) b small full = omega (arith, two_le_limit_of n)

pow_le : (j k : ℕ) → j ≤ k → 2 ^ j ≤ 2 ^ k
pow_le j k le = pow_mono le

-- the last byte: a group of seven bits, or of one bit after nine others
pub last_limit : (i b : ℕ) → i ≤ 8 → b < 128 → (i ≡ 8 → b < 2) → b < limit_of (8 - i)
last_limit i b few small full = last_limit_at (8 - i) b small (λ e. full (omega arith))

pub last_fits : (i number b : ℕ) → i ≤ 8 → number < 2 ^ (7 * i + 7) → b < 128 → (i ≡ 8 → b < 2) → ((b * 2 ^ (7 * i + 7)) % 2 ^ 64 ≡ b * 2 ^ (7 * i + 7)) × (number + b * 2 ^ (7 * i + 7) < 2 ^ 64)
last_fits i number b few below small full =
    elim (cases_eq i 8) [
      | inl e ↦
          let one : b < 2 = full e in
          let s = shifted 1 (7 * i + 7) number b (omega arith) one below in
          (s.is, omega (arith, s.below, pow_le (1 + (7 * i + 7)) 64 (omega arith)))
      | inr ne ↦
          let s = shifted 7 (7 * i + 7) number b (omega arith) small below in
          (s.is, omega (arith, s.below, pow_le (7 + (7 * i + 7)) 64 (omega arith)))
    ]

pub read_last_none : (i number : ℕ) (rest : List ℕ) → i ≤ 8 → i < length rest → get_or rest i 0 ≡ 0 → read_on i number rest ≡ None
read_last_none i number rest few lt is = read_last i number 0 rest lt is (omega arith) (omega (arith, two_le_limit_of (8 - i)))

pub read_last_some : (i number b : ℕ) (rest : List ℕ) → i ≤ 8 → number < 2 ^ (7 * i + 7) → i < length rest → get_or rest i 0 ≡ b → b < 128 → (i ≡ 8 → b < 2) → 0 < b → read_on i number rest ≡ Some (number + (b * 2 ^ (7 * i + 7)) % 2 ^ 64, i + 2)
read_last_some i number b rest few below lt is small full some =
    let shift = last_fits i number b few below small full in
    let sum : number + 2 ^ (7 * i + 7) * b ≡ number + (b * 2 ^ (7 * i + 7)) % 2 ^ 64 = omega (arith, shift.0) in
    read_last i number b rest lt is small (last_limit i b few small full)
    ∙ ap (λ (e : Bool). cond e None (Some (number + 2 ^ (7 * i + 7) * b, i + 2))) (some_eqb b some)
    ∙ ap (λ (n : ℕ). Some (n, i + 2)) sum

-- one more group is read
pub record GoesOn (i number next : ℕ) (rest : List ℕ) : Type 0 where
  pub below : next < 2 ^ (7 * (i + 1) + 7)
  pub fits : next < 2 ^ 64
  pub is : read_on (i + 1) next rest ≡ read_on i number rest

pub read_next : (i number b : ℕ) (rest : List ℕ) → i < 8 → number < 2 ^ (7 * i + 7) → i < length rest → get_or rest i 0 ≡ b → 128 ≤ b → b < 256 → GoesOn i number (number + ((b - 128) * 2 ^ (7 * i + 7)) % 2 ^ 64) rest
read_next i number b rest few below lt is large byte =
    let k = 7 * i + 7 in
    let s = shifted 7 k number (b - 128) (omega arith) (omega arith) below in
    let sum : number + ((b - 128) * 2 ^ k) % 2 ^ 64 ≡ number + 2 ^ k * (b - 128) = omega (arith, s.is) in
    let wide : 7 * (i + 1) + 7 ≡ 7 + k = omega arith in
    let next_below : number + ((b - 128) * 2 ^ k) % 2 ^ 64 < 2 ^ (7 + k) = omega (arith, s.below, s.is) in
    record {
      below = rw wide next_below;
      fits = omega (arith, next_below, pow_le (7 + k) 64 (omega arith));
      is = rw sum (sym (read_more i number b rest lt few is large byte));
    }

-- ---- writing

-- the groups in the first bytes of buffer and those that are left
pub record IsHalfWritten (number last rest : ℕ) (buffer : List ℕ) : Type 0 where
  pub len : length buffer ≡ 10
  pub few : last ≤ 9
  pub below : rest < limit_of (9 - last)
  pub text : take last buffer ++ groups (9 - last) rest ≡ varint number

pub written_none : (number : ℕ) (buffer : List ℕ) → length buffer ≡ 10 → number < 2 ^ 64 → IsHalfWritten number 0 number buffer
unfolding varint
written_none number buffer len lt = record { len = len; few = omega arith; below = lt; text = refl }

more_left : (n rest : ℕ) → 128 ≤ rest → rest < limit_of n → (m : ℕ) × (n ≡ suc m) × (rest < 128 * limit_of m)
more_left zero rest large below = absurd (omega arith)
more_left (suc m) rest large below = (m, refl, below)

pub written_more : (number last rest : ℕ) (buffer : List ℕ) → IsHalfWritten number last rest buffer → 128 ≤ rest → IsHalfWritten number (last + 1) (rest / 128) (set buffer last (128 + rest % 128))
written_more number last rest buffer so_far large =
    let more = more_left (9 - last) rest large so_far.below in
    let left = more.1 in
    let m = more.0 in
    let next : 9 - (last + 1) ≡ m = omega arith in
    let below = more.2 in
    let len = so_far.len in
    record {
      len = omega (arith, length-set buffer last (128 + rest % 128));
      few = omega arith;
      below = rw next (omega arith);
      text = rw (take_more_set buffer last (128 + rest % 128) (omega arith), next)
          (append_assoc (take last buffer) ((128 + rest % 128) ∷ []) (groups m (rest / 128))
          ∙ ap (λ (g : List ℕ). take last buffer ++ g) (sym (groups_large m rest large))
          ∙ ap (λ (n : ℕ). take last buffer ++ groups n rest) (sym left)
          ∙ so_far.text);
    }

pub written_all : (number last rest : ℕ) (buffer : List ℕ) → IsHalfWritten number last rest buffer → rest < 128 → take (last + 1) (set buffer last rest) ≡ varint number
written_all number last rest buffer so_far small =
    let few = so_far.few in
    let len = so_far.len in
    take_more_set buffer last rest (omega arith) ∙ ap (λ (g : List ℕ). take last buffer ++ g) (sym (groups_small (9 - last) rest small)) ∙ so_far.text
