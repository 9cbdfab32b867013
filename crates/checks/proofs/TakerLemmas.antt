-- What a taker is told, one part after the other.
use Rattle.std.proofs.Common.{Bool, true, List, [], ◌∷◌, ◌++◌, sym, subst, inl, inr}
use Rattle.checks.specs.Takers.{AreToldInTurn}

module _ {T X : Type 0} (tells : T → X → Bool → T → Type 0) where
  pub told_append : (xs ys : List X) (old mid new : T) (goes : Bool) → AreToldInTurn tells old xs true mid → AreToldInTurn tells mid ys goes new → AreToldInTurn tells old (xs ++ ys) goes new
  told_append [] ys old mid new goes h k = subst (λ (t : T). AreToldInTurn tells t ys goes new) h.1 k
  told_append (x ∷ xs) ys old mid new goes (inl h) k = inr (mid, h.1, subst (λ (zs : List X). AreToldInTurn tells mid (zs ++ ys) goes new) (sym h.0) k)
  told_append (x ∷ xs) ys old mid new goes (inr h) k = inr (h.0, h.1, told_append xs ys h.0 mid new goes h.2 k)
