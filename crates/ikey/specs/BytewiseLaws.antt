-- That the order of user keys as unsigned bytes is a comparator.
use Rattle.std.specs.Prelude.{◌≡◌, ◌≢◌, ◌<◌, ◌≤◌, ℕ, zero, suc, ◌+◌, ◌-◌, ◌*◌, ◌^◌, min, Bool}
use Rattle.std.specs.Prelude.{true, false, cond, ◌&&◌}
use Rattle.std.specs.Prelude.{if◌then◌else◌, nat_eq, nat_lt, List, [], ◌∷◌, length, slice_index}
use Rattle.std.specs.Prelude.{refl}
use Rattle.std.specs.List.{common_prefix_len}
use Rattle.std.specs.Cmp.{nat_cmp_is}
use Rattle.std.specs.Cmp.Lexicographic.{slice_cmp}
use Rattle.std.specs.Ordering.{nat_cmp, ordering_then}
use Rattle.std.specs.declared.cmp.Ordering.TheVariants.{Less, Equal, Greater}
use Rattle.std.proofs.Common.{inl, inr, ap, sym, ◌∙◌, arith}
use Rattle.std.proofs.Math.Nat.{add-mul, mul-le-mul_right, one-le-pow}
use Rattle.std.proofs.lemmas.Bool.{cases_lt}
use Rattle.std.proofs.lemmas.Cmp.{nat_list_cmp_total, tied_itself}
use Rattle.std.proofs.lemmas.Map.Lookups.{exact_bytes}
use Rattle.ikey.specs.Bytewise.{bytewise_cmp, bytewise_separator, bytewise_successor}
use Rattle.ikey.specs.Bytewise.{first_raisable, raised_at, leading_number, bytewise_head}
use Rattle.ikey.specs.Comparator.{IsBetween, IsExact, Separates, Succeeds, HeadsRise}
use borrow.Author.Tests.{eqb-true, ltb-true}

pub bytewise_exact : IsExact bytewise_cmp
bytewise_exact = exact_bytes

pub nat_less : (x y : ℕ) → x < y → nat_cmp x y ≡ Less
nat_less x y h = sym (nat_cmp_is x y Less h)

pub nat_same : (x y : ℕ) → x ≡ y → nat_cmp x y ≡ Equal
nat_same x y h = sym (nat_cmp_is x y Equal h)

-- a raised byte makes a key greater
pub raised_at-above : (key : List ℕ) (d : ℕ) → d < length key → bytewise_cmp key (raised_at d key)
    ≡ Less
raised_at-above [] d h = absurd (omega arith)
raised_at-above (x ∷ xs) zero h =
    ap (λ o. ordering_then o (slice_cmp nat_cmp xs [])) (nat_less x (x + 1) (omega arith))
raised_at-above (x ∷ xs) (suc d) h =
    ap (λ o. ordering_then o (slice_cmp nat_cmp xs (raised_at d xs))) (nat_same x x refl) ∙
    raised_at-above xs d (omega arith)

-- if the first difference is after the first byte, the first bytes are the same
shared_front : (x y : ℕ) (xs ys : List ℕ) (d : ℕ) (same : Bool) → nat_eq x y ≡ same →
    suc d ≡ cond same (1 + common_prefix_len nat_eq xs ys) 0 →
    (x ≡ y) × (d ≡ common_prefix_len nat_eq xs ys)
shared_front x y xs ys d true p e = (eqb-true x y p, omega arith)
shared_front x y xs ys d false p e = absurd (omega arith)

-- a key raised at the first difference is below the limit if its raised byte is
pub raised_at-below : (start limit : List ℕ) (d : ℕ) → d ≡ common_prefix_len nat_eq start limit →
    d < length start → slice_index start d + 1 < slice_index limit d →
    bytewise_cmp (raised_at d start) limit ≡ Less
raised_at-below [] limit d e h k = absurd (omega arith)
raised_at-below (x ∷ xs) [] d e h k = absurd (omega arith)
raised_at-below (x ∷ xs) (y ∷ ys) zero e h k =
    ap (λ o. ordering_then o (slice_cmp nat_cmp [] ys)) (nat_less (x + 1) y k)
raised_at-below (x ∷ xs) (y ∷ ys) (suc d) e h k =
    let front = shared_front x y xs ys d (nat_eq x y) refl e in
    ap (λ o. ordering_then o (slice_cmp nat_cmp (raised_at d xs) ys)) (nat_same x y front.0)
    ∙ raised_at-below xs ys d front.1 (omega arith) k

not_above : (a b : List ℕ) → bytewise_cmp a b ≡ Less → bytewise_cmp a b ≢ Greater
not_above a b h e = let both : Less ≡ Greater = sym h ∙ e in cc

not_above_itself : (a : List ℕ) → bytewise_cmp a a ≢ Greater
not_above_itself a e =
    let both : Equal ≡ Greater = sym (tied_itself nat_list_cmp_total a) ∙ e in cc

stays_between : (start limit : List ℕ) → bytewise_cmp start limit ≡ Less →
    IsBetween bytewise_cmp start limit start
stays_between start limit h = record { at_least = not_above_itself start; below = h }

separated : (start limit : List ℕ) (d : ℕ) (a b c : Bool) →
    d ≡ common_prefix_len nat_eq start limit → nat_lt d (length start) ≡ a →
    nat_lt (slice_index start d + 1) (slice_index limit d) ≡ c → bytewise_cmp start limit ≡ Less →
    IsBetween bytewise_cmp start limit (if a && b && c then raised_at d start else start)
separated start limit d true true true e p r h =
    let inside : d < length start = ltb-true d (length start) p in
    record {
      at_least = not_above start (raised_at d start) (raised_at-above start d inside);
      below = raised_at-below start limit d e inside
          (ltb-true (slice_index start d + 1) (slice_index limit d) r);
    }
separated start limit d true true false e p r h = stays_between start limit h
separated start limit d true false c e p r h = stays_between start limit h
separated start limit d false b c e p r h = stays_between start limit h

pub bytewise_between : Separates bytewise_cmp bytewise_separator
unfolding bytewise_separator
bytewise_between start limit h =
    let d = common_prefix_len nat_eq start limit in
    separated start limit d (nat_lt d (length start)) (nat_lt (slice_index start d) 255)
    (nat_lt (slice_index start d + 1) (slice_index limit d)) refl refl refl h

succeeded : (key : List ℕ) (d : ℕ) (a : Bool) → nat_lt d (length key) ≡ a →
    bytewise_cmp key (if a then raised_at d key else key) ≢ Greater
succeeded key d true p =
    not_above key (raised_at d key) (raised_at-above key d (ltb-true d (length key) p))
succeeded key d false p = not_above_itself key

pub bytewise_above : Succeeds bytewise_cmp bytewise_successor
unfolding bytewise_successor
bytewise_above key = succeeded key (first_raisable key) (nat_lt (first_raisable key) (length key))
    refl

-- ---- heads

-- a greater byte makes a greater number
pub greater_byte : (x y p r s : ℕ) → x < y → r < p → x * p + r < y * p + s
greater_byte x y p r s less small =
    let step : (x + 1) * p ≤ y * p = mul-le-mul_right p (omega arith) in
    let split : (x + 1) * p ≡ x * p + 1 * p = add-mul x 1 p in
    omega (arith, step, split)

-- a number of n bytes
pub leading_number-lt : (n : ℕ) (key : List ℕ) → leading_number n key < 256 ^ n
leading_number-lt zero key = omega arith
leading_number-lt (suc n) [] =
    let some = one-le-pow (suc n) 256 (omega arith) in omega (arith, some)
leading_number-lt (suc n) (b ∷ bs) =
    let some = one-le-pow (suc n) 256 (omega arith) in omega (arith, some)

below_limit : (a b limit : ℕ) → min a limit < min b limit → a < b
below_limit a b limit h = omega (arith, h)

-- the list with the lower leading number is less
pub leading_less : (n : ℕ) (a b : List ℕ) → leading_number n a < leading_number n b →
    bytewise_cmp a b ≡ Less
leading_less zero a b h = absurd (omega arith)
leading_less (suc n) [] [] h = absurd (omega arith)
leading_less (suc n) (x ∷ xs) [] h = absurd (omega arith)
leading_less (suc n) [] (y ∷ ys) h = refl
leading_less (suc n) (x ∷ xs) (y ∷ ys) h =
    let p = 256 ^ n in
    let r = leading_number n xs in
    let s = leading_number n ys in
    let below : x * p + r < y * p + s =
    below_limit (x * p + r) (y * p + s) (256 ^ suc n - 1) h in
    elim (cases_lt x y) [
      | inl less ↦ ap (λ o. ordering_then o (slice_cmp nat_cmp xs ys)) (nat_less x y less)
      | inr not_less ↦ elim (cases_lt y x) [
        | inl greater ↦ absurd
            (let above = greater_byte y x p s r greater (leading_number-lt n ys) in
            omega (arith, above, below))
        | inr not_greater ↦ same_first n x y xs ys (omega arith) below
            (λ (k : r < s). leading_less n xs ys k)
      ]
    ]
  where
    same_first : (n x y : ℕ) (xs ys : List ℕ) → x ≡ y
        → x * 256 ^ n + leading_number n xs < y * 256 ^ n + leading_number n ys
        → (leading_number n xs < leading_number n ys → bytewise_cmp xs ys ≡ Less)
        → bytewise_cmp (x ∷ xs) (y ∷ ys) ≡ Less
    same_first n x y xs ys same below rest =
        let products : x * 256 ^ n ≡ y * 256 ^ n = ap (λ (b : ℕ). b * 256 ^ n) same in
        ap (λ o. ordering_then o (slice_cmp nat_cmp xs ys)) (nat_same x y same)
        ∙ rest (omega (arith, products, below))

pub bytewise_rises : HeadsRise bytewise_cmp bytewise_head
unfolding bytewise_head
bytewise_rises a b h = leading_less 16 a b h

pub bytewise_head-lt : (key : List ℕ) → bytewise_head key < 2 ^ 128
unfolding bytewise_head
bytewise_head-lt key = leading_number-lt 16 key
