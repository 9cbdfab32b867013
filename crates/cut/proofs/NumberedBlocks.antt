-- The data block of a number, among those of all outputs.
use Rattle.std.proofs.Common.{◌≡◌, ℕ, zero, suc, ◌+◌, ◌-◌, ◌<◌, ◌≤◌, List, [], ◌∷◌, ◌++◌, length, drop, get_or, refl, ap, ◌∙◌, arith}
use Rattle.std.specs.Prelude.{slice_get}
use Rattle.std.specs.List.Sorted.{IsNonDecreasingBy}
use Rattle.std.proofs.lemmas.List.{length-append}
use Rattle.std.proofs.lemmas.List.Concat.{length-flat_map}
use Rattle.std.proofs.lemmas.List.Sorted.{IsNonDecreasingBy-from_default}
use Rattle.std.proofs.lemmas.List.Sums.{sum_by-cons}
use Rattle.cut.specs.declared.planned_output.PlannedOutput.{PlannedOutput}
use Rattle.cut.specs.BlockNumbers.{output_ends, planned_blocks}
use Rattle.cut.specs.PlanInvariant.{block_count}

pub blocks_counted : (outputs : List PlannedOutput) → length (planned_blocks outputs) ≡ block_count outputs
blocks_counted outputs = length-flat_map (λ (p : PlannedOutput). p.blocks.items) outputs

-- ---- the ends

pub ends_counted : (at : ℕ) (outputs : List PlannedOutput) → length (output_ends at outputs) ≡ length outputs
ends_counted at [] = refl
ends_counted at (p ∷ ps) = (let rest = ends_counted (at + length p.blocks.items) ps in omega (arith, rest))

end_above : (at : ℕ) (outputs : List PlannedOutput) (j : ℕ) → j < length (output_ends at outputs) → at ≤ get_or (output_ends at outputs) j 0
end_above at [] j lt = absurd (omega arith)
end_above at (p ∷ ps) zero lt = omega arith
end_above at (p ∷ ps) (suc j) lt = (let rest = end_above (at + length p.blocks.items) ps j (omega arith) in omega (arith, rest))

ends_rise : (at : ℕ) (outputs : List PlannedOutput) (i j : ℕ) → i ≤ j → j < length (output_ends at outputs) → get_or (output_ends at outputs) i 0 ≤ get_or (output_ends at outputs) j 0
ends_rise at [] i j le lt = absurd (omega arith)
ends_rise at (p ∷ ps) zero zero le lt = omega arith
ends_rise at (p ∷ ps) zero (suc j) le lt = end_above (at + length p.blocks.items) ps j (omega arith)
ends_rise at (p ∷ ps) (suc i) zero le lt = absurd (omega arith)
ends_rise at (p ∷ ps) (suc i) (suc j) le lt = ends_rise (at + length p.blocks.items) ps i j (omega arith) (omega arith)

pub ends_sorted : (at : ℕ) (outputs : List PlannedOutput) → IsNonDecreasingBy (λ (end : ℕ). end) (output_ends at outputs)
ends_sorted at outputs = IsNonDecreasingBy-from_default (λ (end : ℕ). end) (output_ends at outputs) 0 (ends_rise at outputs)

-- ---- one end more

-- the ends so far, and those of the outputs that are left, are all ends
pub record AreEnds (outputs : List PlannedOutput) (ends : List ℕ) (end i : ℕ) : Type 0 where
  pub whole : ends ++ output_ends end (drop i outputs) ≡ output_ends 0 outputs
  pub count : end + block_count (drop i outputs) ≡ block_count outputs

-- ---- the block of a number

in_front : {X : Type 0} (xs ys : List X) (i : ℕ) → i < length xs → slice_get (xs ++ ys) i ≡ slice_get xs i
in_front [] ys i lt = absurd (omega arith)
in_front (x ∷ xs) ys zero lt = refl
in_front (x ∷ xs) ys (suc i) lt = in_front xs ys i (omega arith)

behind : {X : Type 0} (xs ys : List X) (i n : ℕ) → n ≡ length xs + i → slice_get (xs ++ ys) n ≡ slice_get ys i
behind [] ys i n is = (let same : n ≡ i = omega (arith, is) in ap (slice_get ys) same)
behind (x ∷ xs) ys i zero is = absurd (omega arith)
behind (x ∷ xs) ys i (suc n) is = behind xs ys i n (omega arith)

-- the output at a place has the block of this number: no output before it does, and it ends behind the block
pub record IsBlockIn (outputs : List PlannedOutput) (at job place : ℕ) : Type 0 where
  pub from : at ≤ job
  pub to : job < at + length (planned_blocks outputs)
  pub before : (i : ℕ) → i < place → i < length outputs → get_or (output_ends at outputs) i 0 ≤ job
  pub behind : place < length outputs → job < get_or (output_ends at outputs) place 0

next_in : (p : PlannedOutput) (ps : List PlannedOutput) (at job place : ℕ) → IsBlockIn (p ∷ ps) at job (suc place) → IsBlockIn ps (at + length p.blocks.items) job place
next_in p ps at job place h = record {
  from = h.before 0 (omega arith) (omega arith);
  to = omega (arith, h.to, length-append p.blocks.items (planned_blocks ps));
  before = λ i lt within. h.before (suc i) (omega arith) (omega arith);
  behind = λ lt. h.behind (omega arith);
}

pub output_there : (outputs : List PlannedOutput) (at job place : ℕ) → IsBlockIn outputs at job place → place < length outputs
output_there [] at job place h = absurd (omega (arith, h.from, h.to))
output_there (p ∷ ps) at job zero h = omega arith
output_there (p ∷ ps) at job (suc place) h = (let rest = output_there ps (at + length p.blocks.items) job place (next_in p ps at job place h) in omega (arith, rest))

pub end_within : (outputs : List PlannedOutput) (at job place : ℕ) (p : PlannedOutput) → IsBlockIn outputs at job place → get_or outputs place p ≡ p → get_or (output_ends at outputs) place 0 ≤ job + length p.blocks.items
end_within [] at job place p h is = absurd (omega (arith, h.from, h.to))
end_within (x ∷ xs) at job zero p h is = omega (arith, h.from, ap (λ (q : PlannedOutput). length q.blocks.items) is)
end_within (x ∷ xs) at job (suc place) p h is = end_within xs (at + length x.blocks.items) job place p (next_in x xs at job place h) is

pub block_there : (outputs : List PlannedOutput) (at job place i n : ℕ) (p : PlannedOutput) → IsBlockIn outputs at job place → get_or outputs place p ≡ p → i + get_or (output_ends at outputs) place 0 ≡ job + length p.blocks.items → i < length p.blocks.items → at + n ≡ job
    → slice_get (planned_blocks outputs) n ≡ slice_get p.blocks.items i
block_there [] at job place i n p h is end lt here = absurd (omega (arith, h.from, h.to))
block_there (x ∷ xs) at job zero i n p h is end lt here =
    let same : n ≡ i = omega (arith, h.from, end, here, ap (λ (q : PlannedOutput). length q.blocks.items) is) in
    ap (slice_get (x.blocks.items ++ planned_blocks xs)) same
    ∙ in_front x.blocks.items (planned_blocks xs) i (omega (arith, lt, ap (λ (q : PlannedOutput). length q.blocks.items) is))
    ∙ ap (λ (q : PlannedOutput). slice_get q.blocks.items i) is
block_there (x ∷ xs) at job (suc place) i n p h is end lt here =
    let next = next_in x xs at job place h in
    let m : ℕ = n - length x.blocks.items in
    behind x.blocks.items (planned_blocks xs) m n (omega (arith, next.from, here))
    ∙ block_there xs (at + length x.blocks.items) job place i m p next is end lt (omega (arith, next.from, here))

-- ---- the last end

last_end : (at d : ℕ) (p : PlannedOutput) (ps : List PlannedOutput) → get_or (output_ends at (p ∷ ps)) (length ps) d ≡ at + block_count (p ∷ ps)
last_end at d p [] = (let sum = sum_by-cons (λ (x : PlannedOutput). length x.blocks.items) p [] in omega (arith, sum))
last_end at d p (q ∷ qs) =
    let rest = last_end (at + length p.blocks.items) d q qs in
    let sum = sum_by-cons (λ (x : PlannedOutput). length x.blocks.items) p (q ∷ qs) in
    omega (arith, rest, sum)

pub all_counted : (outputs : List PlannedOutput) → get_or (output_ends 0 outputs) (length (output_ends 0 outputs) - 1) 0 ≡ block_count outputs
all_counted [] = refl
all_counted (p ∷ ps) =
    let place : length (output_ends 0 (p ∷ ps)) - 1 ≡ length ps = omega (arith, ends_counted 0 (p ∷ ps)) in
    let at : get_or (output_ends 0 (p ∷ ps)) (length ps) 0 ≡ block_count (p ∷ ps) = omega (arith, last_end 0 0 p ps) in
    ap (λ (n : ℕ). get_or (output_ends 0 (p ∷ ps)) n 0) place ∙ at
