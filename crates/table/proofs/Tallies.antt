-- What is counted of entries, one after the other and as a whole.
use Rattle.std.proofs.Common.{◌≡◌, ℕ, ◌+◌, ◌-◌, ◌^◌, ◌≤◌, min, max, Bool, true, false, ◌||◌, List, [], ◌∷◌, ◌++◌, length, drop, suc, Option, Some, None, refl, sym, ap, ◌∙◌, arith}
use Rattle.block.specs.EncodedEntry.{Entry}
use Rattle.ikey.specs.Key.{sequence_of}
use Rattle.ikey.specs.declared.key.TheConstants.{MAX_SEQUENCE}
use Rattle.table.specs.EntryTests.{last_key_after}
use Rattle.table.specs.Tallies.{is_twin, has_twins, least_sequence, greatest_sequence, tally_of}
use Rattle.table.specs.TallySteps.{tally_of_none, tally_with, tally_after}
use Rattle.table.specs.declared.tally.Tally.{Tally}

-- two lists, one after the other
pub tally-append : (t : Tally) (before : Option (List ℕ)) (es fs : List Entry) → tally_after t before (es ++ fs) ≡ tally_after (tally_after t before es) (last_key_after before es) fs
tally-append t before [] fs = refl
tally-append t before (e ∷ []) fs = refl
tally-append t before (e ∷ f ∷ es) fs = tally-append (tally_with t before e.key) (Some e.key) (f ∷ es) fs

-- one entry further on
pub tally_goes_on : (t : Tally) (before : Option (List ℕ)) (q : List Entry) (key value : List ℕ) (total : Tally) → q ≡ record { key = key; value = value } ∷ drop 1 q → tally_after t before q ≡ total → tally_after (tally_with t before key) (Some key) (drop 1 q) ≡ total
tally_goes_on t before q key value total first so_far = sym (ap (tally_after t before) first) ∙ so_far

-- ---- as a whole

abbrev tally : ℕ → ℕ → ℕ → Bool → Tally
tally entries oldest newest twins = record { entries = entries; oldest = oldest; newest = newest; has_twins = twins }

same_tally : (a b c d e f : ℕ) (g h : Bool) → a ≡ b → c ≡ d → e ≡ f → g ≡ h → tally a c e g ≡ tally b d f h
same_tally a b c d e f g h one two three four =
    ap (λ (n : ℕ). tally n c e g) one ∙ ap (λ (n : ℕ). tally b n e g) two ∙ ap (λ (n : ℕ). tally b d n g) three ∙ ap (λ (x : Bool). tally b d f x) four

or_false : (b : Bool) → b ≡ (b || false)
or_false true = refl
or_false false = refl

or_more : (a b c : Bool) → ((a || b) || c) ≡ (a || (b || c))
or_more true b c = refl
or_more false b c = refl

whole : (t : Tally) (before : Option (List ℕ)) (es : List Entry) → t.entries ≤ 2 ^ 64 - 1 → t.oldest ≤ MAX_SEQUENCE
    → tally_after t before es ≡ tally (min (t.entries + length es) (2 ^ 64 - 1)) (min t.oldest (least_sequence es)) (max t.newest (greatest_sequence es)) (t.has_twins || has_twins before es)
whole t before [] few old =
    same_tally t.entries (min (t.entries + 0) (2 ^ 64 - 1)) t.oldest (min t.oldest MAX_SEQUENCE) t.newest (max t.newest 0) t.has_twins (t.has_twins || false)
    (omega (arith, few)) (omega (arith, old)) (omega arith) (or_false t.has_twins)
whole t before (e ∷ es) few old =
    let next = tally_with t before e.key in
    let s = sequence_of e.key in
    whole next (Some e.key) es (omega arith) (omega (arith, old))
    ∙ same_tally (min (min (t.entries + 1) (2 ^ 64 - 1) + length es) (2 ^ 64 - 1)) (min (t.entries + length (e ∷ es)) (2 ^ 64 - 1))
    (min (min t.oldest s) (least_sequence es)) (min t.oldest (min s (least_sequence es)))
    (max (max t.newest s) (greatest_sequence es)) (max t.newest (max s (greatest_sequence es)))
    ((t.has_twins || is_twin before e.key) || has_twins (Some e.key) es) (t.has_twins || has_twins before (e ∷ es))
    (counted t.entries (length es)) (least t.oldest s (least_sequence es)) (greatest t.newest s (greatest_sequence es)) (or_more t.has_twins (is_twin before e.key) (has_twins (Some e.key) es))
  where
    counted : (n more : ℕ) → min (min (n + 1) (2 ^ 64 - 1) + more) (2 ^ 64 - 1) ≡ min (n + suc more) (2 ^ 64 - 1)
    counted n more = omega arith

    least : (a b c : ℕ) → min (min a b) c ≡ min a (min b c)
    least a b c = omega arith

    greatest : (a b c : ℕ) → max (max a b) c ≡ max a (max b c)
    greatest a b c = omega arith

least_small : (es : List Entry) → least_sequence es ≤ MAX_SEQUENCE
least_small [] = omega arith
least_small (e ∷ es) = omega (arith, least_small es)

-- what is counted from the start is what is counted of all
pub tally_is : (es : List Entry) → tally_after tally_of_none None es ≡ tally_of es
tally_is es =
    whole tally_of_none None es (omega arith) (omega arith)
    ∙ same_tally (min (0 + length es) (2 ^ 64 - 1)) (min (length es) (2 ^ 64 - 1)) (min MAX_SEQUENCE (least_sequence es)) (least_sequence es) (max 0 (greatest_sequence es)) (greatest_sequence es)
    (has_twins None es) (has_twins None es) (omega arith) (omega (arith, least_small es)) (omega arith) refl
