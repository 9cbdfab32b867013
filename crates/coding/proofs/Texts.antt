-- A text of several pieces.
use Rattle.std.proofs.Common.{◌≡◌, ℕ, List, ◌++◌, ap, ◌∙◌, append_assoc}

-- a piece more
pub joined : (old first second : List ℕ) (one two : List ℕ) → first ≡ old ++ one → second ≡ first ++ two → second ≡ old ++ (one ++ two)
joined old first second one two a b = b ∙ ap (λ (t : List ℕ). t ++ two) a ∙ append_assoc old one two
