-- Long division gives the remainder, and there is one remainder.
use Rattle.std.proofs.Common.{◌≡◌, ℕ, zero, suc, ◌+◌, ◌-◌, ◌≤◌, ◌↔◌, Bool, true, false, List, [], ◌∷◌, ◌++◌, length, drop, replicate, refl, sym, ap, ◌∙◌, arith}
use Rattle.coding.specs.Crc.{coefficient_sum, leading_sum, scaled_polynomial, castagnoli, division_step, division_steps, remainder, multiple, IsRemainder}

-- ---- the sum

pub coefficient_sum-false : (a : Bool) → coefficient_sum a false ≡ a
coefficient_sum-false true = refl
coefficient_sum-false false = refl

coefficient_sum-twice : (a b : Bool) → coefficient_sum (coefficient_sum a b) b ≡ a
coefficient_sum-twice true true = refl
coefficient_sum-twice true false = refl
coefficient_sum-twice false true = refl
coefficient_sum-twice false false = refl

coefficient_sum-turn : (a b c : Bool) → coefficient_sum (coefficient_sum a b) c ≡ coefficient_sum (coefficient_sum a c) b
coefficient_sum-turn true true true = refl
coefficient_sum-turn true true false = refl
coefficient_sum-turn true false true = refl
coefficient_sum-turn true false false = refl
coefficient_sum-turn false true true = refl
coefficient_sum-turn false true false = refl
coefficient_sum-turn false false true = refl
coefficient_sum-turn false false false = refl

pub leading_sum-nil : (p : List Bool) → leading_sum p [] ≡ p
leading_sum-nil [] = refl
leading_sum-nil (a ∷ p) = refl

pub leading_sum-twice : (p q : List Bool) → leading_sum (leading_sum p q) q ≡ p
leading_sum-twice [] q = refl
leading_sum-twice (a ∷ p) [] = refl
leading_sum-twice (a ∷ p) (b ∷ q) = rw (coefficient_sum-twice a b, leading_sum-twice p q)

pub leading_sum-turn : (p q r : List Bool) → leading_sum (leading_sum p q) r ≡ leading_sum (leading_sum p r) q
leading_sum-turn [] q r = refl
leading_sum-turn (a ∷ p) [] [] = refl
leading_sum-turn (a ∷ p) [] (c ∷ r) = refl
leading_sum-turn (a ∷ p) (b ∷ q) [] = refl
leading_sum-turn (a ∷ p) (b ∷ q) (c ∷ r) = rw (coefficient_sum-turn a b c, leading_sum-turn p q r)

pub length-leading_sum : (p q : List Bool) → length (leading_sum p q) ≡ length p
length-leading_sum [] q = refl
length-leading_sum (a ∷ p) [] = refl
length-leading_sum (a ∷ p) (b ∷ q) = ap suc (length-leading_sum p q)

pub zeros_sum : (r : List Bool) → leading_sum (replicate (length r) false) r ≡ r
zeros_sum [] = refl
zeros_sum (a ∷ r) = ap (λ t. a ∷ t) (zeros_sum r)

pub zeros_sum_at : (n : ℕ) (r : List Bool) → length r ≡ n → leading_sum (replicate n false) r ≡ r
zeros_sum_at n r h = rw (← h) (zeros_sum r)

-- what is added twice falls out
cancels : (m z t : List Bool) → leading_sum (leading_sum (leading_sum m t) z) t ≡ leading_sum m z
cancels m z t = leading_sum-turn (leading_sum m t) z t ∙ ap (λ x. leading_sum x z) (leading_sum-twice m t)

-- ---- the divisor below its leading coefficient

unfoldable pub lower : Bool → List Bool
lower c = drop 1 (scaled_polynomial c castagnoli)

pub divided_once-cons : (c : Bool) (p : List Bool) → division_step (c ∷ p) ≡ leading_sum p (lower c)
unfolding lower
divided_once-cons true p = refl
divided_once-cons false p = refl

multiple_sum : (c : Bool) (q z : List Bool) → leading_sum (multiple (c ∷ q)) (false ∷ z) ≡ c ∷ leading_sum (leading_sum (multiple q) (lower c)) z
unfolding lower
multiple_sum true q z = refl
multiple_sum false q z = refl

length-multiple : (q : List Bool) → length (multiple q) ≡ 32 + length q
length-multiple [] = refl
length-multiple (c ∷ q) = length-leading_sum (false ∷ multiple q) (scaled_polynomial c castagnoli) ∙ ap suc (length-multiple q) ∙ omega arith

-- ---- one remainder

divided-sum : (q r : List Bool) → length r ≡ 32 → division_steps (length q) (leading_sum (multiple q) (replicate (length q) false ++ r)) ≡ r
divided-sum [] r h = zeros_sum_at 32 r h
divided-sum (c ∷ q) r h =
    let z = replicate (length q) false ++ r in
    ap (λ p. division_steps (length q) (division_step p)) (multiple_sum c q z)
    ∙ ap (division_steps (length q)) (divided_once-cons c (leading_sum (leading_sum (multiple q) (lower c)) z) ∙ cancels (multiple q) z (lower c))
    ∙ divided-sum q r h

pub remainder_only : (p r : List Bool) → IsRemainder p r → remainder p ≡ r
unfolding remainder
remainder_only p r h =
    let long : length p ≡ 32 + length h.quotient =
    ap length h.sum ∙ length-leading_sum (multiple h.quotient) (replicate (length h.quotient) false ++ r) ∙ length-multiple h.quotient in
    let steps : length p - 32 ≡ length h.quotient = omega arith in
    rw (steps, h.sum) (divided-sum h.quotient r h.low_degree)

-- ---- and long division gives it

quotient_of : ℕ → List Bool → List Bool
quotient_of zero p = []
quotient_of (suc n) [] = []
quotient_of (suc n) (c ∷ p) = c ∷ quotient_of n (division_step (c ∷ p))

length-divided_once : (c : Bool) (p : List Bool) → length (division_step (c ∷ p)) ≡ length p
length-divided_once c p = ap length (divided_once-cons c p) ∙ length-leading_sum p (lower c)

length-quotient_of : (n : ℕ) (p : List Bool) → length p ≡ 32 + n → length (quotient_of n p) ≡ n
unfolding quotient_of
length-quotient_of zero p h = refl
length-quotient_of (suc n) [] h = absurd (omega arith)
length-quotient_of (suc n) (c ∷ p) h =
    let shorter : length (division_step (c ∷ p)) ≡ 32 + n = omega (arith, length-divided_once c p) in
    ap suc (length-quotient_of n (division_step (c ∷ p)) shorter)

pub length-divided : (n : ℕ) (p : List Bool) → length p ≡ 32 + n → length (division_steps n p) ≡ 32
length-divided zero p h = omega arith
length-divided (suc n) [] h = absurd (omega arith)
length-divided (suc n) (c ∷ p) h =
    let shorter : length (division_step (c ∷ p)) ≡ 32 + n = omega (arith, length-divided_once c p) in
    length-divided n (division_step (c ∷ p)) shorter

divides : (n : ℕ) (p : List Bool) → length p ≡ 32 + n → p ≡ leading_sum (multiple (quotient_of n p)) (replicate n false ++ division_steps n p)
unfolding quotient_of
divides zero p h = sym (zeros_sum_at 32 p h)
divides (suc n) [] h = absurd (omega arith)
divides (suc n) (c ∷ p) h =
    let next = division_step (c ∷ p) in
    let shorter : length next ≡ 32 + n = omega (arith, length-divided_once c p) in
    let z = replicate n false ++ division_steps n next in
    let m = multiple (quotient_of n next) in
    let back : p ≡ leading_sum (leading_sum m (lower c)) z =
    sym (leading_sum-twice p (lower c))
    ∙ ap (λ x. leading_sum x (lower c)) (sym (divided_once-cons c p) ∙ divides n next shorter)
    ∙ leading_sum-turn m z (lower c) in
    ap (λ x. c ∷ x) back ∙ sym (multiple_sum c (quotient_of n next) z)

pub remainder_is : (p : List Bool) → 32 ≤ length p → IsRemainder p (remainder p)
unfolding remainder
remainder_is p h =
    let n = length p - 32 in
    let long : length p ≡ 32 + n = omega arith in
    record {
      quotient = quotient_of n p;
      low_degree = length-divided n p long;
      sum = rw (length-quotient_of n p long) (divides n p long);
    }

pub remainder_law : (p r : List Bool) → 32 ≤ length p → (IsRemainder p r ↔ (remainder p ≡ r))
remainder_law p r h = (remainder_only p r, λ e. rw e at (remainder_is p h))
