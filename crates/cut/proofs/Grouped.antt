-- A list dealt out in groups.
use Rattle.std.proofs.Common.{◌≡◌, ℕ, ◌+◌, ◌<◌, ◌≤◌, Bool, true, false, List, [], ◌∷◌, ◌++◌, length, map, Result, Ok, Err, refl, sym, ap, subst, ◌∙◌, append_assoc, append-nil, arith}
use Rattle.std.specs.Prelude.{nat_le, if◌then◌else◌, flat_map, IfOk}
use Rattle.std.specs.List.{AllByRecursion}
use Rattle.std.proofs.lemmas.Bool.{le-leb}
use Rattle.std.proofs.lemmas.Bool.Decides.{nat_tests}
use Rattle.std.proofs.lemmas.List.{length-map, map-append}
use Rattle.std.proofs.lemmas.List.Sums.{sum_by-cons}
use Rattle.coding.specs.Answers.{EqualOrMemory}
use Rattle.coding.specs.declared.fault.Fault.{Fault}
use Rattle.coding.proofs.Refusals.{unless_from}
use Rattle.table.specs.declared.options.Options.{Options}
use Rattle.keep.proofs.OnAnswers.{same_ok}
use Rattle.cut.specs.declared.planned_output.PlannedOutput.{PlannedOutput}
use Rattle.cut.specs.Groups.{open_group, groups_after, groups_of, plan_groups}
use Rattle.cut.specs.OutputPlan.{PlanSeen}
use Rattle.cut.specs.Plan.{OutputView}
use Rattle.cut.specs.PlanInvariant.{planned_of, block_count}

-- ---- the groups together are the list

module _ {A : Type 0} (n : ℕ) where
  none_open : (latest : List A) → flat_map (λ (g : List A). g) (open_group latest) ≡ latest ++ []
  none_open [] = refl
  none_open (x ∷ xs) = refl

  joined_by : (b : Bool) (latest : List A) (x : A) (xs : List A) → flat_map (λ (g : List A). g) (groups_after n [] xs) ≡ xs
      → flat_map (λ (g : List A). g) (groups_after n (latest ++ x ∷ []) xs) ≡ (latest ++ x ∷ []) ++ xs
      → flat_map (λ (g : List A). g) (if b then (latest ++ x ∷ []) ∷ groups_after n [] xs else groups_after n (latest ++ x ∷ []) xs) ≡ (latest ++ x ∷ []) ++ xs
  joined_by true latest x xs closed grown = ap (λ (ys : List A). (latest ++ x ∷ []) ++ ys) closed
  joined_by false latest x xs closed grown = grown

  joined_behind : (latest xs : List A) → flat_map (λ (g : List A). g) (groups_after n latest xs) ≡ latest ++ xs
  joined_behind latest [] = none_open latest
  joined_behind latest (x ∷ xs) =
      joined_by (nat_le n (length (latest ++ x ∷ []))) latest x xs (joined_behind [] xs) (joined_behind (latest ++ x ∷ []) xs)
      ∙ append_assoc latest (x ∷ []) xs

  -- the groups of a list, one after the other, are the list
  pub groups_join : (xs : List A) → flat_map (λ (g : List A). g) (groups_of n xs) ≡ xs
  groups_join xs = joined_behind [] xs

-- ---- the groups of what a function makes of each element

module _ {A B : Type 0} (f : A → B) (n : ℕ) where
  open_mapped : (latest : List A) → open_group (map f latest) ≡ map (map f) (open_group latest)
  open_mapped [] = refl
  open_mapped (x ∷ xs) = refl

  mapped_by : (b : Bool) (more xs : List A) → groups_after n [] (map f xs) ≡ map (map f) (groups_after n [] xs) → groups_after n (map f more) (map f xs) ≡ map (map f) (groups_after n more xs)
      → (if b then map f more ∷ groups_after n [] (map f xs) else groups_after n (map f more) (map f xs)) ≡ map (map f) (if b then more ∷ groups_after n [] xs else groups_after n more xs)
  mapped_by true more xs closed grown = ap (λ (gs : List (List B)). map f more ∷ gs) closed
  mapped_by false more xs closed grown = grown

  mapped_behind : (latest xs : List A) → groups_after n (map f latest) (map f xs) ≡ map (map f) (groups_after n latest xs)
  mapped_behind latest [] = open_mapped latest
  mapped_behind latest (x ∷ xs) =
      let more : List A = latest ++ x ∷ [] in
      ap (λ (ys : List B). if nat_le n (length ys) then ys ∷ groups_after n [] (map f xs) else groups_after n ys (map f xs)) (sym (map-append f latest (x ∷ [])))
      ∙ ap (λ (k : ℕ). if nat_le n k then map f more ∷ groups_after n [] (map f xs) else groups_after n (map f more) (map f xs)) (length-map more f)
      ∙ mapped_by (nat_le n (length more)) more xs (mapped_behind [] xs) (mapped_behind more xs)

  pub groups_mapped : (xs : List A) → groups_of n (map f xs) ≡ map (map f) (groups_of n xs)
  groups_mapped xs = mapped_behind [] xs

-- ---- one element more

module _ {A B : Type 0} (f : List A → B) (n : ℕ) (all : List A) where
  -- the closed groups, and those of the open one and what is ahead, are the groups of all
  abbrev pub AreDealt : List B → List A → List A → Type 0
  AreDealt groups latest ahead = groups ++ map f (groups_after n latest ahead) ≡ map f (groups_of n all)

  stays_open : (m : ℕ) → m < n → nat_le n m ≡ false
  stays_open m h = grind (arith, nat_tests)

  next_is : (b : Bool) (latest : List A) (x : A) (rest : List A) → nat_le n (length (latest ++ x ∷ [])) ≡ b
      → groups_after n latest (x ∷ rest) ≡ (if b then (latest ++ x ∷ []) ∷ groups_after n [] rest else groups_after n (latest ++ x ∷ []) rest)
  next_is b latest x rest is = ap (λ (t : Bool). if t then (latest ++ x ∷ []) ∷ groups_after n [] rest else groups_after n (latest ++ x ∷ []) rest) is

  pub dealt_open : (groups : List B) (latest more ahead rest : List A) (x : A) → ahead ≡ x ∷ rest → more ≡ latest ++ x ∷ [] → length more < n → AreDealt groups latest ahead → AreDealt groups more rest
  dealt_open groups latest more ahead rest x next is less dealt =
      ap (λ (m : List A). groups ++ map f (groups_after n m rest)) is
      ∙ ap (λ (gs : List (List A)). groups ++ map f gs) (sym (next_is false latest x rest (stays_open (length (latest ++ x ∷ [])) (subst (λ (m : List A). length m < n) is less))))
      ∙ ap (λ (xs : List A). groups ++ map f (groups_after n latest xs)) (sym next)
      ∙ dealt

  pub dealt_full : (groups : List B) (latest more ahead rest : List A) (x : A) → ahead ≡ x ∷ rest → more ≡ latest ++ x ∷ [] → n ≤ length more → AreDealt groups latest ahead → AreDealt (groups ++ f more ∷ []) [] rest
  dealt_full groups latest more ahead rest x next is enough dealt =
      append_assoc groups (f more ∷ []) (map f (groups_after n [] rest))
      ∙ ap (λ (m : List A). groups ++ f m ∷ map f (groups_after n [] rest)) is
      ∙ ap (λ (gs : List (List A)). groups ++ map f gs) (sym (next_is true latest x rest (le-leb n (length (latest ++ x ∷ [])) (subst (λ (m : List A). n ≤ length m) is enough))))
      ∙ ap (λ (xs : List A). groups ++ map f (groups_after n latest xs)) (sym next)
      ∙ dealt

  pub dealt_end : (groups : List B) (latest ahead : List A) → latest ≡ [] → length ahead ≡ 0 → AreDealt groups latest ahead → groups ≡ map f (groups_of n all)
  dealt_end groups [] [] none end dealt = sym (append-nil groups) ∙ dealt
  dealt_end groups (x ∷ xs) ahead none end dealt = absurd cc
  dealt_end groups [] (y ∷ ys) none end dealt = absurd (omega (arith, end))

  pub dealt_rest : (groups : List B) (latest ahead : List A) → (latest ≡ [] → ⊥) → length ahead ≡ 0 → AreDealt groups latest ahead → groups ++ f latest ∷ [] ≡ map f (groups_of n all)
  dealt_rest groups [] ahead some end dealt = absurd (some refl)
  dealt_rest groups (x ∷ xs) [] some end dealt = dealt
  dealt_rest groups (x ∷ xs) (y ∷ ys) some end dealt = absurd (omega (arith, end))

-- ---- plans

-- the plan of outputs, as contracts see it
abbrev pub plan_seen : Options → List PlannedOutput → PlanSeen
plan_seen o outputs = record { options = o; outputs = map planned_of outputs }

map_twice : (o : Options) (groups : List (List PlannedOutput)) → map (plan_seen o) groups ≡ map (λ outputs. record { options = o; outputs = outputs }) (map (map planned_of) groups)
map_twice o [] = refl
map_twice o (g ∷ gs) = ap (λ (ps : List PlanSeen). plan_seen o g ∷ ps) (map_twice o gs)

pub seen_groups : (n : ℕ) (o : Options) (outputs : List PlannedOutput) → map (plan_seen o) (groups_of n outputs) ≡ plan_groups n (plan_seen o outputs)
seen_groups n o outputs =
    map_twice o (groups_of n outputs) ∙ ap (map (λ os. record { options = o; outputs = os })) (sym (groups_mapped planned_of n outputs))

-- ---- outputs in their limits

pub all_more : {X : Type 0} (P : X → Type 0) (xs : List X) (x : X) → AllByRecursion P xs → P x → AllByRecursion P (xs ++ x ∷ [])
all_more P [] x h own = (own, tt)
all_more P (y ∷ ys) x h own = (h.0, all_more P ys x h.1 own)

pub count_more : (xs more : List PlannedOutput) (x : PlannedOutput) → more ≡ xs ++ x ∷ [] → block_count more ≡ block_count xs + length x.blocks.items
count_more xs more x is = ap block_count is ∙ pushed xs
  where
    pushed : (xs : List PlannedOutput) → block_count (xs ++ x ∷ []) ≡ block_count xs + length x.blocks.items
    pushed [] = let one = sum_by-cons (λ (p : PlannedOutput). length p.blocks.items) x [] in omega (arith, one)
    pushed (y ∷ ys) =
        let one = sum_by-cons (λ (p : PlannedOutput). length p.blocks.items) y (ys ++ x ∷ []) in
        let own = sum_by-cons (λ (p : PlannedOutput). length p.blocks.items) y ys in
        omega (arith, one, own, pushed ys)

pub count_ahead : (ahead rest : List PlannedOutput) (x : PlannedOutput) → ahead ≡ x ∷ rest → block_count ahead ≡ length x.blocks.items + block_count rest
count_ahead ahead rest x is = ap block_count is ∙ sum_by-cons (λ (p : PlannedOutput). length p.blocks.items) x rest

-- ---- an answer that is the plan of outputs

pub seen_outputs : (o : Options) (outputs : List PlannedOutput) (r : Result PlanSeen Fault) (answer : Result (List OutputView) Fault) → EqualOrMemory (λ (p : PlanSeen). p) r (Ok (plan_seen o outputs)) → answer ≡ Ok (map planned_of outputs)
    → EqualOrMemory (λ (p : PlanSeen). p.outputs) r answer
seen_outputs o outputs (Ok p) answer h is = is ∙ ap (λ (q : PlanSeen). Ok q.outputs) (same_ok (plan_seen o outputs) p h)
seen_outputs o outputs (Err e) answer h is = unless_from e (Ok (plan_seen o outputs) ≡ Err e) (answer ≡ Err e) (λ no. absurd cc) h

pub seen_options : (o : Options) (outputs : List PlannedOutput) (r : Result PlanSeen Fault) → EqualOrMemory (λ (p : PlanSeen). p) r (Ok (plan_seen o outputs)) → IfOk r (λ (p : PlanSeen). p.options ≡ o)
seen_options o outputs (Ok p) h = sym (ap (λ (q : PlanSeen). q.options) (same_ok (plan_seen o outputs) p h))
seen_options o outputs (Err e) h = tt
