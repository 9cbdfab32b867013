-- What is appended leaves in front what was there.
use Rattle.std.proofs.Common.{◌≡◌, ℕ, List, ◌++◌, Result, Ok, Err, length, take, drop, sym, ap, ◌∙◌, append_assoc}
use Rattle.std.specs.Prelude.{OnErr}
use Rattle.std.proofs.Math.Seq.{take-append_seam}
use Rattle.std.proofs.lemmas.List.{take-append-drop}

-- a call that was refused, after others that appended, and keeps what it finds, keeps what was there
pub kept_on : {T E : Type 0} (r : Result T E) (old added mid new : List ℕ) → mid ≡ old ++ added → take (length mid) new ≡ mid → OnErr r (take (length old) new ≡ old)
kept_on (Ok x) old added mid new is kept = tt
kept_on (Err e) old added mid new is kept =
    let rest = drop (length mid) new in
    let whole : new ≡ old ++ (added ++ rest) = sym (take-append-drop (length mid) new) ∙ ap (λ (t : List ℕ). t ++ rest) (kept ∙ is) ∙ append_assoc old added rest in
    ap (take (length old)) whole ∙ take-append_seam old (added ++ rest)

-- more is appended
pub appended_on : (old mid new one two : List ℕ) → mid ≡ old ++ one → new ≡ mid ++ two → new ≡ old ++ (one ++ two)
appended_on old mid new one two a b = b ∙ ap (λ (t : List ℕ). t ++ two) a ∙ append_assoc old one two
