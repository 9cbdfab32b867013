-- Results in their places.
use Rattle.std.proofs.Common.{◌≡◌, inl, inr, ℕ, ◌+◌, ◌<◌, List, [], ◌∷◌, ◌++◌, map, length, set, get_or, Option, None, Some, sym, ap, ◌∙◌, subst, arith, append_assoc, get_or-set_same, get_or-set_other}
use Rattle.std.proofs.lemmas.List.{get_or_append_left, get_or_default}
use Rattle.std.proofs.Math.Seq.{get_or-append_seam}
use Rattle.std.proofs.lemmas.Option.{same_Some, none-some}
use native.Mathlib.Decide.{ℕ_discrete, dec_le}
use Rattle.coding.specs.declared.fault.Fault.{Fault}
use Rattle.board.specs.Shares.{times}
use Rattle.board.specs.RunAnswer.{IsResult}
use Rattle.board.specs.WorkerResult.{IsPlaced, HasPlace}
use Rattle.board.proofs.Sums.{same_tells}

module _ {O : Type 0} (places : List (Option O)) (n : ℕ) (out : O) (lt : n < length places) where
  pub has_here : (i : ℕ) → i ≡ n → HasPlace (set places n (Some out)) i
  has_here i same = (out, ap (λ (j : ℕ). get_or (set places n (Some out)) j None) same ∙ get_or-set_same places n (Some out) None lt)

  pub has_still : (i : ℕ) → HasPlace places i → HasPlace (set places n (Some out)) i
  has_still i h = elim (ℕ_discrete i n) [
    | yes same ↦ has_here i same
    | no apart ↦ (h.0, get_or-set_other places n i (Some out) None apart ∙ h.1)
  ]

  pub placed_set : (refusal : ℕ → Option Fault) (gives : ℕ → O → Type 0) → IsPlaced refusal gives places → IsResult refusal gives (n, out) → IsPlaced refusal gives (set places n (Some out))
  placed_set refusal gives h is i o e = elim (ℕ_discrete i n) [
    | yes same ↦
        let now : Some out ≡ Some o = sym (ap (λ (j : ℕ). get_or (set places n (Some out)) j None) same ∙ get_or-set_same places n (Some out) None lt) ∙ e in
        subst (IsResult refusal gives) (λ k. (sym same k, same_Some out o now k)) is
    | no apart ↦ h i o (sym (get_or-set_other places n i (Some out) None apart) ∙ e)
  ]

  pub has_more : (rs : List (ℕ × O)) → ((i : ℕ) → 0 < times i (map (λ r. r.0) rs) → HasPlace places i) → (i : ℕ) → 0 < times i (map (λ r. r.0) ((n, out) ∷ rs)) → HasPlace (set places n (Some out)) i
  has_more rs h i any = elim (same_tells i n) [ inl t ↦ has_here i t.1 | inr t ↦ has_still i (h i (let a = t.0 in omega arith)) ]

pub one_popped : {A : Type 0} (all items rest rs : List A) (x : A) → all ≡ items ++ rs → items ≡ rest ++ x ∷ [] → all ≡ rest ++ x ∷ rs
one_popped all items rest rs x a b = a ∙ ap (λ l. l ++ rs) b ∙ append_assoc rest (x ∷ []) rs

-- a place that has a result is not read as empty
pub not_empty : {O : Type 0} (places was : List (Option O)) (i : ℕ) (read : Option O) → i < length places → get_or places i None ≡ get_or was i None → HasPlace was i → read ≡ get_or places i read → None ≡ read → ⊥
not_empty places was i read lt same has is none = none-some has.0 (none ∙ is ∙ get_or_default places i read None lt ∙ same ∙ has.1)

pub read_is : {O : Type 0} (places was : List (Option O)) (i : ℕ) (read : Option O) (out : O) → i < length places → get_or places i None ≡ get_or was i None → read ≡ get_or places i read → Some out ≡ read → get_or was i None ≡ Some out
read_is places was i read out lt same is some = sym same ∙ sym (get_or_default places i read None lt) ∙ sym is ∙ sym some

-- one result more in order
pub holds_more : {O : Type 0} (gives : ℕ → O → Type 0) (rs : List O) (i : ℕ) (out : O) → length rs ≡ i → ((k : ℕ) (d : O) → k < i → gives k (get_or rs k d)) → gives i out → (k : ℕ) (d : O) → k < i + 1 → gives k (get_or (rs ++ out ∷ []) k d)
holds_more {O} gives rs i out len before is k d lt = elim (dec_le i k) [
  | yes le ↦
      let same : i ≡ k = omega arith in
      let read : get_or (rs ++ out ∷ []) k d ≡ out = ap (λ (j : ℕ). get_or (rs ++ out ∷ []) j d) (sym same ∙ sym len) ∙ get_or-append_seam rs out [] d in
      subst (λ (z : ℕ × O). gives z.0 z.1) (λ j. (same j, sym read j)) is
  | no above ↦ subst (gives k) (sym (get_or_append_left rs (out ∷ []) d k (omega arith))) (before k d (omega arith))
]
