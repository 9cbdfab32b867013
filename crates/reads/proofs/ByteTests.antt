-- What tests of bytes say.
use Rattle.std.proofs.Common.{◌≡◌, ℕ, Bool, true, false, not, List, sym, ap, ◌∙◌}
use Rattle.std.specs.Prelude.{◌≢◌, nat_eq}
use Rattle.std.specs.Cmp.Lexicographic.{pointwise}
use Rattle.std.proofs.lemmas.Slice.Eq.{bytes_eq-Decides}
use Rattle.std.proofs.lemmas.Bool.{not-false}

pub bytes_differ : (a b : List ℕ) (r : Bool) → r ≡ not (pointwise nat_eq a b) → r ≡ true → a ≢ b
bytes_differ a b r is h e =
    let same : pointwise nat_eq a b ≡ true = (bytes_eq-Decides a b).1 e in
    let both : true ≡ false = sym h ∙ is ∙ ap not same in absurd cc

pub bytes_same : (a b : List ℕ) (r : Bool) → r ≡ not (pointwise nat_eq a b) → r ≡ false → a ≡ b
bytes_same a b r is h = (bytes_eq-Decides a b).0 (not-false (pointwise nat_eq a b) (sym is ∙ h))
