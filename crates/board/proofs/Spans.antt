-- The numbers that were claimed of the shares.
use Rattle.std.proofs.Common.{◌≡◌, ◌≢◌, ℕ, suc, ◌+◌, ◌*◌, ◌/◌, ◌%◌, ◌<◌, ◌≤◌, cond, ltb, ◌&&◌, sym, ap, ◌∙◌, arith, mod-lt, mod-eq_of_lt, mul-le-mul_right, suc-mul}
use Rattle.std.proofs.lemmas.Bool.Decides.{nat_tests}
use native.Mathlib.Decide.{ℕ_discrete, dec_le}
use Rattle.std.proofs.Math.Nat.{add-mul-mod_self_right, add-mul-div_right, div-eq_of_lt, le-div_iff_mul-le, mod-add-div', mul-div-le}
use Rattle.board.specs.Shares.{one_if_same}
use Rattle.board.specs.Words.{job_at, once_below, word_of, claim_count}

-- how often x was claimed, which is at place p of a share that was claimed c times
abbrev count_at : ℕ → ℕ → ℕ → ℕ → ℕ
count_at n x p c = cond (ltb x n && ltb p c) 1 0

module _ (w : ℕ) (some : 0 < w) where
  -- a number is the job at its place of its share
  place_of : (x : ℕ) → job_at w (x % w) (x / w) ≡ x
  place_of x = mod-add-div' x w

  pub job_share : (k c : ℕ) → k < w → job_at w k c % w ≡ k
  job_share k c lt = add-mul-mod_self_right k c w ∙ mod-eq_of_lt lt

  job_place : (k c : ℕ) → k < w → job_at w k c / w ≡ c
  job_place k c lt = let e = add-mul-div_right k c some in let z = div-eq_of_lt lt in omega arith

  -- a number below n is below the first place of its share that isn't
  place_below : (n x c : ℕ) → n ≤ job_at w (x % w) c → x < n → x / w < c
  place_below n x c full lt = elim (dec_le c (x / w)) [
    | yes le ↦ (let up : c * w ≤ x / w * w = mul-le-mul_right w le in let is = place_of x in absurd (omega arith))
    | no less ↦ omega arith
  ]

  -- share k is claimed from once more
  module _ (n : ℕ) (claims claims' : ℕ → ℕ) (k c : ℕ) (lt : k < w) (is : claims k ≡ c) (next : claims' k ≡ suc c) (others : (j : ℕ) → j ≢ k → claims' j ≡ claims j) where
    counts_here : (x : ℕ) → x % w ≡ k → (claim_count n w claims x ≡ count_at n x (x / w) c) × (claim_count n w claims' x ≡ count_at n x (x / w) (suc c))
    counts_here x here = (ap (count_at n x (x / w)) (ap claims here ∙ is), ap (count_at n x (x / w)) (ap claims' here ∙ next))

    counts_there : (x : ℕ) → x % w ≢ k → claim_count n w claims' x ≡ claim_count n w claims x
    counts_there x apart = ap (count_at n x (x / w)) (others (x % w) apart)

    pub claims_more : (x : ℕ) → job_at w k c < n → claim_count n w claims' x ≡ claim_count n w claims x + one_if_same x (job_at w k c)
    claims_more x room = elim (ℕ_discrete (x % w) k) [
      | yes here ↦
          let e = counts_here x here in
          let one : count_at n x (x / w) (suc c) ≡ count_at n x (x / w) c + one_if_same x (job_at w k c) = elim (ℕ_discrete (x / w) c) [
            | yes same ↦
                let at : x ≡ job_at w k c = sym (place_of x) ∙ (λ i. job_at w (here i) (same i)) in
                at_place n x (x / w) c (job_at w k c) at room same
            | no apart ↦ off_place n x (x / w) c (job_at w k c) (λ at. apart (ap (λ (y : ℕ). y / w) at ∙ job_place k c lt)) apart
          ] in
          e.1 ∙ one ∙ ap (λ (m : ℕ). m + one_if_same x (job_at w k c)) (sym e.0)
      | no apart ↦
          let e = counts_there x apart in
          let o : one_if_same x (job_at w k c) ≡ 0 = other x (job_at w k c) (λ at. apart (ap (λ (y : ℕ). y % w) at ∙ job_share k c lt)) in omega arith
    ]
      where
        at_place : (n x p c j : ℕ) → x ≡ j → j < n → p ≡ c → count_at n x p (suc c) ≡ count_at n x p c + one_if_same x j
        at_place n x p c j at room same = grind (arith, nat_tests)

        off_place : (n x p c j : ℕ) → x ≢ j → p ≢ c → count_at n x p (suc c) ≡ count_at n x p c + one_if_same x j
        off_place n x p c j other apart = grind (arith, nat_tests)

        other : (x j : ℕ) → x ≢ j → one_if_same x j ≡ 0
        other x j apart = grind (arith, nat_tests)

    pub claims_full : (x : ℕ) → n ≤ job_at w k c → claim_count n w claims' x ≡ claim_count n w claims x
    claims_full x full = elim (ℕ_discrete (x % w) k) [
      | yes here ↦
          let e = counts_here x here in
          let most : n ≤ job_at w (x % w) c = omega arith in
          e.1 ∙ all_below n x (x / w) c (place_below n x c most) ∙ sym e.0
      | no apart ↦ counts_there x apart
    ]
      where
        all_below : (n x p c : ℕ) → (x < n → p < c) → count_at n x p (suc c) ≡ count_at n x p c
        all_below n x p c below = elim (dec_le n x) [ yes le ↦ grind (arith, nat_tests) | no less ↦ (let b = below (omega arith) in grind (arith, nat_tests)) ]

  -- all numbers below n are claimed, if each share is used up
  pub claimed_all : (n : ℕ) (claims : ℕ → ℕ) (x : ℕ) → ((k : ℕ) → k < w → n ≤ job_at w k (claims k)) → claim_count n w claims x ≡ once_below x n
  claimed_all n claims x full =
      whole n x (x / w) (claims (x % w)) (place_below n x (claims (x % w)) (full (x % w) (mod-lt x some)))
    where
      whole : (n x p c : ℕ) → (x < n → p < c) → count_at n x p c ≡ once_below x n
      whole n x p c below = elim (dec_le n x) [ yes le ↦ grind (arith, nat_tests) | no less ↦ (let b = below (omega arith) in grind (arith, nat_tests)) ]

  pub claimed_same : (n : ℕ) (claims claims' : ℕ → ℕ) (x : ℕ) → ((k : ℕ) → k < w → claims' k ≡ claims k) → claim_count n w claims' x ≡ claim_count n w claims x
  claimed_same n claims claims' x same = ap (count_at n x (x / w)) (same (x % w) (mod-lt x some))

  -- nothing is claimed at first
  pub claimed_none : (n : ℕ) (claims : ℕ → ℕ) (x : ℕ) → ((k : ℕ) → k < w → claims k ≡ 0) → claim_count n w claims x ≡ 0
  claimed_none n claims x zeros = ap (count_at n x (x / w)) (zeros (x % w) (mod-lt x some)) ∙ none n x (x / w)
    where
      none : (n x p : ℕ) → count_at n x p 0 ≡ 0
      none n x p = grind (arith, nat_tests)

-- each number below n is claimed at most once
pub claimed_le : (n w : ℕ) (claims : ℕ → ℕ) (x : ℕ) → claim_count n w claims x ≤ once_below x n
claimed_le n w claims x = at_most n x (x / w) (claims (x % w))
  where
    at_most : (n x p c : ℕ) → count_at n x p c ≤ once_below x n
    at_most n x p c = grind (arith, nat_tests)

-- the claim words in use are apart, and below the fault word
gap_some : (w : ℕ) → 0 < w → w ≤ 64 → 0 < 64 / w
gap_some w any few = (le-div_iff_mul-le any).1 (omega arith)

pub word_below : (w k : ℕ) → w ≤ 64 → k < w → word_of w k < 64
unfolding word_of
word_below w k few lt =
    let g : ℕ = 64 / w in
    let gap = gap_some w (omega arith) few in
    let up : suc k * g ≤ w * g = mul-le-mul_right g lt in
    omega (arith, suc-mul k g, mul-div-le 64 w)

words_rise : (w j k : ℕ) → 0 < w → w ≤ 64 → j < k → word_of w j < word_of w k
unfolding word_of
words_rise w j k any few lt =
    let g : ℕ = 64 / w in
    let gap = gap_some w any few in
    let up : suc j * g ≤ k * g = mul-le-mul_right g lt in omega (arith, suc-mul j g)

pub word_apart : (w j k : ℕ) → 0 < w → w ≤ 64 → word_of w j ≡ word_of w k → j ≡ k
word_apart w j k any few same = elim (ℕ_discrete j k) [
  | yes here ↦ here
  | no apart ↦ elim (dec_le j k) [
    | yes le ↦ (let r = words_rise w j k any few (omega arith) in absurd (omega arith))
    | no above ↦ (let r = words_rise w k j any few (omega arith) in absurd (omega arith))
  ]
]
