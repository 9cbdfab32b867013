-- A list dealt out in groups, and so the outputs of a plan to plans of a few.
use Rattle.std.specs.Prelude.{ℕ, nat_le, if◌then◌else◌, List, [], ◌∷◌, ◌++◌, length, map}
use Rattle.cut.specs.OutputPlan.{PlanSeen}

-- the open group, if it has an element
abbrev pub open_group : {A : Type 0} → List A → List (List A)
open_group [] = []
open_group (x ∷ xs) = (x ∷ xs) ∷ []

-- The groups of a list, if the open group has the elements `latest`. A group ends with the element
-- by which it has n.
abbrev pub groups_after : {A : Type 0} → ℕ → List A → List A → List (List A)
groups_after n latest [] = open_group latest
groups_after n latest (x ∷ xs) =
    if nat_le n (length (latest ++ x ∷ []))
    then (latest ++ x ∷ []) ∷ groups_after n [] xs
    else groups_after n (latest ++ x ∷ []) xs

-- A list dealt out in groups, in order: each of n elements, but the last of those that are left. No
-- group if there is no element.
abbrev pub groups_of : {A : Type 0} → ℕ → List A → List (List A)
groups_of n xs = groups_after n [] xs

-- the plans of at most n outputs each that a plan is dealt out to
abbrev pub plan_groups : ℕ → PlanSeen → List PlanSeen
plan_groups n p = map (λ outputs. record { options = p.options; outputs = outputs })
    (groups_of n p.outputs)
