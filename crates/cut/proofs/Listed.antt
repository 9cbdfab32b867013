-- A list of bytes to which the bytes of one element more are appended.
use Rattle.std.proofs.Common.{◌≡◌, ℕ, ◌+◌, ◌<◌, List, [], ◌∷◌, ◌++◌, length, take, get_or, sym, ap, ◌∙◌}
use Rattle.std.specs.Prelude.{flat_map}
use Rattle.std.proofs.lemmas.List.{take_more, flat_map_more}

pub listed_more : {X : Type 0} (f : X → List ℕ) (xs : List X) (i : ℕ) (x : X) (first before more own : List ℕ) → i < length xs → get_or xs i x ≡ x
    → before ≡ first ++ flat_map f (take i xs) → own ≡ f x → more ≡ before ++ own → more ≡ first ++ flat_map f (take (i + 1) xs)
listed_more {X} f xs i x first before more own lt is so_far own_is added =
    let front : take (i + 1) xs ≡ take i xs ++ x ∷ [] = take_more xs i x lt ∙ ap (λ (y : X). take i xs ++ y ∷ []) is in
    added
    ∙ ap (λ (ys : List ℕ). before ++ ys) own_is
    ∙ ap (λ (ys : List ℕ). ys ++ f x) so_far
    ∙ flat_map_more f first (take i xs) x
    ∙ sym (ap (λ (ys : List X). first ++ flat_map f ys) front)
