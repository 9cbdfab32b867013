-- Faults that are told, one part after the other.
use Rattle.std.proofs.Common.{◌≡◌, ℕ, zero, suc, ◌+◌, ◌-◌, ◌<◌, ◌≤◌, ◌^◌, min, Bool, true, false, List, [], ◌∷◌, ◌++◌, length, map, drop, get_or, Result, Ok, Err, IsErrAnd, refl, sym, ap, subst, ◌∙◌, inl, inr, arith, append_assoc, add-one}
use Rattle.std.proofs.lemmas.Bool.{both_ways}
use Rattle.table.specs.fault.Fault.{Fault}
use Rattle.table.proofs.Steps.{next_item, past_end}
use Rattle.checks.proofs.TakerLemmas.{told_append}
use Rattle.checks.specs.Takers.{AreToldInTurn}
use Rattle.faults.specs.VersionFault.{VersionFault}
use Rattle.faults.specs.ToldFaults.{IsBegun, IsPart, IsTelling, IsTold, count_after, next_count}
use Rattle.faults.specs.declared.fault_count.FaultCount.{FaultCount}

-- the first of what is left of a list
pub next_of : {A B : Type 0} (f : A → B) (xs : List A) (i : ℕ) (x : A) → i < length xs → x ≡ get_or xs i x → map f (drop i xs) ≡ f x ∷ map f (drop (i + 1) xs)
next_of f xs i x lt is = ap (map f) (next_item xs i x lt is)

-- ---- how many

pub count_append : (n : ℕ) (xs ys : List VersionFault) → count_after n (xs ++ ys) ≡ count_after (count_after n xs) ys
count_append n [] ys = refl
count_append n (x ∷ xs) ys = count_append (next_count n) xs ys

most_none : (m n : ℕ) → n ≤ m → n ≡ min (n + 0) m
most_none m n le = omega arith

most_more : (m n k : ℕ) → min (min (n + 1) m + k) m ≡ min (n + (k + 1)) m
most_more m n k = omega arith

most_within : (m n : ℕ) → min (n + 1) m ≤ m
most_within m n = omega arith

pub count_most : (n : ℕ) (xs : List VersionFault) → n ≤ 2 ^ 64 - 1 → count_after n xs ≡ min (n + length xs) (2 ^ 64 - 1)
count_most n [] le = most_none (2 ^ 64 - 1) n le
count_most n (x ∷ xs) le =
    count_most (next_count n) xs (most_within (2 ^ 64 - 1) n)
    ∙ most_more (2 ^ 64 - 1) n (length xs) ∙ ap (λ (k : ℕ). min (n + k) (2 ^ 64 - 1)) (add-one (length xs))

-- ---- which

regroup : (a b c d : List VersionFault) → a ++ ((b ++ c) ++ d) ≡ (a ++ b) ++ (c ++ d)
regroup a b c d = simp append_assoc

module _ {T : Type 0} (tells : T → VersionFault → Bool → T → Type 0) where
  -- nothing is told yet
  pub none_told : (faults : List VersionFault) (old : T) (after : FaultCount) → after.goes ≡ true → IsPart tells faults old after.count faults old after
  none_told faults old after goes = record { told = []; parts = refl; taker = (goes, refl); counted = refl }

  -- a part, after some of the faults
  module _ (faults front behind : List VersionFault) (old mid new : T) (before : ℕ) (m : FaultCount) (goes : m.goes ≡ true) (p : IsPart tells faults old before (front ++ behind) mid m) where
    pub part_then : (n : FaultCount) (untold : List VersionFault) → IsPart tells front mid m.count untold new n → IsPart tells faults old before (untold ++ behind) new n
    part_then n untold q = record {
      told = p.told ++ q.told;
      parts = p.parts ∙ ap (λ (fs : List VersionFault). p.told ++ (fs ++ behind)) q.parts ∙ regroup p.told q.told untold behind;
      taker = told_append tells p.told q.told old mid new n.goes (subst (λ (b : Bool). AreToldInTurn tells old p.told b mid) goes p.taker) q.taker;
      counted = q.counted ∙ ap (λ (k : ℕ). count_after k q.told) p.counted ∙ sym (count_append before p.told q.told);
    }

    -- all of it was told, and more is wanted
    pub told_more : (n : FaultCount) → IsTold tells front mid m.count new n → n.goes ≡ true → IsPart tells faults old before behind new n
    told_more n q more = elim q.ended [
      | inl none ↦ subst (λ (fs : List VersionFault). IsPart tells faults old before (fs ++ behind) new n) none (part_then n q.untold q.part)
      | inr stops ↦ absurd (both_ways n.goes stops more)
    ]

    -- the taker said to stop
    pub told_stops : (n : FaultCount) → IsTold tells front mid m.count new n → n.goes ≡ false → IsTold tells faults old before new n
    told_stops n q stops = record { untold = q.untold ++ behind; part = part_then n q.untold q.part; ended = inr stops }

    -- a refusal came
    pub told_begun : IsBegun tells front mid m.count new → IsBegun tells faults old before new
    told_begun q = record { untold = q.untold ++ behind; after = q.after; part = part_then q.after q.untold q.part; goes = q.goes }

  -- one fault more
  pub one_told : (f : VersionFault) (behind faults : List VersionFault) (old now new : T) (before : ℕ) (m n : FaultCount) → m.goes ≡ true → IsPart tells faults old before (f ∷ behind) now m → tells now f n.goes new → n.count ≡ next_count m.count → IsPart tells faults old before behind new n
  one_told f behind faults old now new before m n goes p h counted =
      part_then faults (f ∷ []) behind old now new before m goes p n [] (record { told = f ∷ []; parts = refl; taker = inl (refl, h); counted = counted })

  -- at the end
  pub told_end : (faults : List VersionFault) (old new : T) (before : ℕ) (after : FaultCount) → IsPart tells faults old before [] new after → IsTold tells faults old before new after
  told_end faults old new before after p = record { untold = []; part = p; ended = inl refl }

  -- the taker said to stop after one
  pub stopped_at : (faults untold : List VersionFault) (old new : T) (before : ℕ) (after : FaultCount) → IsPart tells faults old before untold new after → after.goes ≡ false → IsTold tells faults old before new after
  stopped_at faults untold old new before after p stops = record { untold = untold; part = p; ended = inr stops }

  pub begun_at : (faults untold : List VersionFault) (old new : T) (before : ℕ) (after : FaultCount) → IsPart tells faults old before untold new after → after.goes ≡ true → IsBegun tells faults old before new
  begun_at faults untold old new before after p goes = record { untold = untold; after = after; part = p; goes = goes }

  -- a refusal that `?` hands on
  pub handed_begun : (faults : List VersionFault) (old new : T) (before : ℕ) (r : Result FaultCount Fault) (e : Fault) → IsErrAnd r (λ f. f ≡ e) → IsBegun tells faults old before new → IsTelling tells faults old before new r
  handed_begun faults old new before (Ok t) e h begun = absurd h
  handed_begun faults old new before (Err f) e h begun = begun

-- ---- a list of faults

pub at_again : {A : Type 0} (xs : List A) (i : ℕ) (d : A) → i < length xs → get_or xs i d ≡ get_or xs i (get_or xs i d)
at_again [] i d lt = absurd (omega arith)
at_again (x ∷ xs) zero d lt = refl
at_again (x ∷ xs) (suc i) d lt = at_again xs i d (omega arith)

module _ {T : Type 0} (tells : T → VersionFault → Bool → T → Type 0) {A : Type 0} (f : A → VersionFault) (xs : List A) (i : ℕ) (old now new : T) (before : ℕ) (m : FaultCount) (goes : m.goes ≡ true) (p : IsPart tells (map f xs) old before (map f (drop i xs)) now m) where
  -- one more of the list
  pub next_told : (x : A) (n : FaultCount) (more : Bool) → i < length xs → x ≡ get_or xs i x → tells now (f x) more new → n ≡ record { count = next_count m.count; goes = more } → IsPart tells (map f xs) old before (map f (drop (i + 1) xs)) new n
  next_told x n more lt is h told =
      one_told tells (f x) (map f (drop (i + 1) xs)) (map f xs) old now new before m n goes
      (subst (λ (fs : List VersionFault). IsPart tells (map f xs) old before fs now m) (next_of f xs i x lt is) p)
      (subst (λ (b : Bool). tells now (f x) b new) (sym (ap (λ (t : FaultCount). t.goes) told)) h)
      (ap (λ (t : FaultCount). t.count) told)

  -- the end of the list
  pub list_told : length xs ≤ i → IsTold tells (map f xs) old before now m
  list_told le = told_end tells (map f xs) old now before m (subst (λ (fs : List VersionFault). IsPart tells (map f xs) old before fs now m) (ap (map f) (past_end xs i le)) p)
