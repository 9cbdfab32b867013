-- A list in parts, one part after the other.
use Rattle.std.proofs.Common.{◌≡◌, ◌<◌, ◌+◌, ℕ, suc, List, [], ◌∷◌, ◌++◌, length, map, take, drop, get_or, sym, ap, ap₂, ◌∙◌, append_assoc, arith}
use Rattle.std.proofs.Math.Seq.{drop-cons}
use Rattle.std.proofs.lemmas.List.{drop-drop, drop-map, map-append, take-map}
use Rattle.scan.specs.ListParts.{in_parts}

-- the next part of what is left
pub parts_more : {X Y : Type 0} (f : X → Y) (sizes : List ℕ) (xs : List X) (start i n : ℕ) → i < length sizes → get_or sizes i 0 ≡ n → in_parts (drop i sizes) (map f (drop start xs)) ≡ map f (take n (drop start xs)) ∷ in_parts (drop (i + 1) sizes) (map f (drop (start + n) xs))
parts_more {Y = Y} f sizes xs start i n lt is =
    let next : suc i ≡ i + 1 = omega arith in
    ap (λ (ns : List ℕ). in_parts ns (map f (drop start xs))) (drop-cons sizes i 0 lt)
    ∙ ap (λ (m : ℕ). take m (map f (drop start xs)) ∷ in_parts (drop (suc i) sizes) (drop m (map f (drop start xs)))) is
    ∙ ap₂ (λ (part rest : List Y). part ∷ in_parts (drop (suc i) sizes) rest) (take-map f n (drop start xs)) (drop-map f n (drop start xs) ∙ ap (map f) (drop-drop n start xs))
    ∙ ap (λ (m : ℕ). map f (take n (drop start xs)) ∷ in_parts (drop m sizes) (map f (drop (start + n) xs))) next

-- what is made of a part more
pub made_more : {M P E : Type 0} (f : M → E) (h : P → E) (made : List M) (m : M) (part : P) (rest all : List P) (whole : List E) → f m ≡ h part → all ≡ part ∷ rest → map f made ++ map h all ≡ whole → map f (made ++ m ∷ []) ++ map h rest ≡ whole
made_more {E = E} f h made m part rest all whole is are so_far =
    ap (λ (es : List E). es ++ map h rest) (map-append f made (m ∷ []))
    ∙ append_assoc (map f made) (f m ∷ []) (map h rest)
    ∙ ap (λ (e : E). map f made ++ (e ∷ map h rest)) is
    ∙ ap (λ (ps : List _). map f made ++ map h ps) (sym are)
    ∙ so_far
