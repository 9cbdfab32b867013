-- Each step keeps what holds of the numbers failed, looked at and skipped.
use Rattle.std.proofs.Common.{◌≡◌, inl, inr, ℕ, ◌+◌, ◌<◌, ◌≤◌, min, List, [], ◌∷◌, ◌++◌, length, set, ap, ◌∙◌, arith, get_or-set_same}
use mathlib.Core.Option.{some}
use lib.ListN.{get_elem?}
use native.Mathlib.Decide.{dec_le}
use Rattle.board.specs.declared.rule.SeatView.{SeatView}
use Rattle.board.specs.Shares.{times, one_if_same}
use Rattle.board.specs.Progress.{no_fault}
use Rattle.board.specs.Rule.{fresh_view, has_failed, times_failed, times_looked, times_skipped, fault_of, KeepsFailed, KeepsSkipped}
use Rattle.board.proofs.Sums.{total_set, times-snoc, same_tells, same_one}

-- a change that touches neither the fault word nor the lists of numbers failed and looked at
pub still_failed : (n : ℕ) (words words' : List ℕ) (views views' : List SeatView)
    → KeepsFailed n words views → fault_of words' ≡ fault_of words → ((x : ℕ) → times_failed x views' ≡ times_failed x views) → ((x : ℕ) → times_looked x views' ≡ times_looked x views)
    → KeepsFailed n words' views'
still_failed n words words' views views' h same failed looked = record {
  found = elim h.found [
    | inl free ↦ inl (same ∙ free)
    | inr there ↦ inr (let a : times_failed (fault_of words') views' ≡ times_failed (fault_of words) views = ap (λ (x : ℕ). times_failed x views') same ∙ failed (fault_of words) in omega arith)
  ];
  least = λ x any. let l = h.least x (let e = failed x in omega arith) in (l.0, (let m = l.1 in omega arith));
  looked = λ x any.
      let l = h.looked x (let e = looked x in omega arith) in
      ((let m = l.0 in omega arith), elim l.1 [ inl free ↦ inl free | inr there ↦ inr (let e = failed x in omega arith) ]);
}

pub still_skipped : (words words' : List ℕ) (views views' : List SeatView)
    → KeepsSkipped words views → fault_of words' ≤ fault_of words → ((x : ℕ) → times_skipped x views' ≡ times_skipped x views) → KeepsSkipped words' views'
still_skipped words words' views views' h less same = record { above = λ x any. let a = h.above x (let e = same x in omega arith) in omega arith }

-- a number is failed
pub settles : (n : ℕ) (words : List ℕ) (views : List SeatView) (id : ℕ) (v : SeatView) (j : ℕ)
    → KeepsFailed n words views → 64 < length words → get_elem? views id ≡ some v → j < n
    → KeepsFailed n (set words 64 (min (fault_of words) j)) (set views id (has_failed v j))
settles n words views id v j h wide at small =
    let u : SeatView = has_failed v j in
    let words' : List ℕ = set words 64 (min (fault_of words) j) in
    let is : fault_of words' ≡ min (fault_of words) j = get_or-set_same words 64 (min (fault_of words) j) 0 wide in
    let failed : (x : ℕ) → times_failed x (set views id u) ≡ times_failed x views + one_if_same x j = (λ x. let e = total_set (λ (z : SeatView). times x z.failed) views id v u at in let s = times-snoc x v.failed j in omega arith) in
    let looked : (x : ℕ) → times_looked x (set views id u) ≡ times_looked x views = (λ x. let e = total_set (λ (z : SeatView). times x z.looked) views id v u at in omega arith) in record {
      found = elim (dec_le (fault_of words) j) [
        | yes le ↦
            let same : fault_of words' ≡ fault_of words = omega arith in
            elim h.found [
              | inl free ↦ inl (same ∙ free)
              | inr there ↦ inr (let a : times_failed (fault_of words') (set views id u) ≡ times_failed (fault_of words) (set views id u) = ap (λ (x : ℕ). times_failed x (set views id u)) same in let f = failed (fault_of words) in omega arith)
            ]
        | no above ↦
            let same : fault_of words' ≡ j = omega arith in
            inr (let a : times_failed (fault_of words') (set views id u) ≡ times_failed j (set views id u) = ap (λ (x : ℕ). times_failed x (set views id u)) same in let f = failed j in let o = same_one j in omega arith)
      ];
      least = λ x any.
          let e = failed x in
          elim (same_tells x j) [
            | inl t ↦ (let p = t.1 in (omega arith, omega arith))
            | inr t ↦ (let q = t.0 in let l = h.least x (omega arith) in (l.0, (let m = l.1 in omega arith)))
          ];
      looked = λ x any.
          let e = looked x in let f = failed x in
          let l = h.looked x (omega arith) in
          ((let m = l.0 in omega arith), elim l.1 [ inl free ↦ inl free | inr there ↦ inr (omega arith) ]);
    }

-- the fault word is looked at
pub looks : (n : ℕ) (words : List ℕ) (views : List SeatView) (id : ℕ) (v : SeatView) (u : SeatView)
    → KeepsFailed n words views → get_elem? views id ≡ some v → u.failed ≡ v.failed → u.looked ≡ v.looked ++ fault_of words ∷ []
    → KeepsFailed n words (set views id u)
looks n words views id v u h at same more =
    let r : ℕ = fault_of words in
    let failed : (x : ℕ) → times_failed x (set views id u) ≡ times_failed x views = (λ x. let e = total_set (λ (z : SeatView). times x z.failed) views id v u at in let s : times x u.failed ≡ times x v.failed = ap (times x) same in omega arith) in
    let looked : (x : ℕ) → times_looked x (set views id u) ≡ times_looked x views + one_if_same x r = (λ x. let e = total_set (λ (z : SeatView). times x z.looked) views id v u at in let s : times x u.looked ≡ times x v.looked + one_if_same x r = ap (times x) more ∙ times-snoc x v.looked r in omega arith) in record {
      found = elim h.found [ inl free ↦ inl free | inr there ↦ inr (let e = failed r in omega arith) ];
      least = λ x any. h.least x (let e = failed x in omega arith);
      looked = λ x any.
          let e = looked x in
          elim (same_tells x r) [
            | inl t ↦ (let p = t.1 in (
              omega arith,
              elim h.found [
                | inl free ↦ inl (p ∙ free)
                | inr there ↦ inr (let a : times_failed x (set views id u) ≡ times_failed r (set views id u) = ap (λ (y : ℕ). times_failed y (set views id u)) p in let f = failed r in omega arith)
              ],
            ))
            | inr t ↦ (let q = t.0 in let l = h.looked x (omega arith) in (l.0, elim l.1 [ inl free ↦ inl free | inr there ↦ inr (let f = failed x in omega arith) ]))
          ];
    }

-- a number above the fault word is skipped
pub skips : (words : List ℕ) (views : List SeatView) (id : ℕ) (v : SeatView) (u : SeatView) (j : ℕ)
    → KeepsSkipped words views → get_elem? views id ≡ some v → u.skipped ≡ v.skipped ++ j ∷ [] → fault_of words < j
    → KeepsSkipped words (set views id u)
skips words views id v u j h at more past = record {
  above = λ x any.
      let e = total_set (λ (z : SeatView). times x z.skipped) views id v u at in
      let s : times x u.skipped ≡ times x v.skipped + one_if_same x j = ap (times x) more ∙ times-snoc x v.skipped j in
      elim (same_tells x j) [
        | inl t ↦ (let p = t.1 in omega arith)
        | inr t ↦ (let q = t.0 in h.above x (omega arith))
      ];
}

-- nobody failed at first
pub no_faults : (n w : ℕ) (words : List ℕ) → fault_of words ≡ no_fault → KeepsFailed n words (fresh_view w n w ∷ []) × KeepsSkipped words (fresh_view w n w ∷ [])
no_faults n w words is = (
  record { found = inl is; least = λ x any. absurd (omega arith); looked = λ x any. absurd (omega arith) },
  record { above = λ x any. absurd (omega arith) },
)
