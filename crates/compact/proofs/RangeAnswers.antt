-- The answers on ranges, one by one.
use Rattle.std.proofs.Common.{◌≡◌, ℕ, ◌+◌, ◌≤◌, Bool, true, false, List, [], ◌∷◌, map, length, Option, Some, None, Result, Ok, Err, refl, sym, ap, ◌∙◌, arith}
use Rattle.std.specs.Prelude.{slice_get, ◌&&◌, cond}
use Rattle.std.specs.List.{list_all}
use Rattle.std.specs.Option.{option_map}
use Rattle.std.specs.declared.cmp.Ordering.{Ordering}
use Rattle.std.proofs.lemmas.Option.{slice_get-map}
use Rattle.ikey.specs.fault.Fault.{Fault}
use Rattle.ikey.specs.fault.FaultName.TheVariants.{Duplicate}
use Rattle.ikey.specs.Answers.{fault, ◌>>=◌}
use Rattle.table.specs.EncodedEntry.{Entry}
use Rattle.reads.specs.MergedLists.{merged}
use Rattle.split.specs.Boundaries.{IsSplit}
use Rattle.split.specs.Ranges.{KeyRange, range_at}
use Rattle.merge.specs.InRange.{entries_in}
use Rattle.keep.specs.Marks.{CompactionContext}
use Rattle.keep.specs.Runs.{Run, run_of, are_distinct, range_run, ranges_from, ranges_of, runs_of, RangesCompose}
use Rattle.board.specs.CollectedResults.{collected_results}
use Rattle.compact.specs.JobAnswers.{range_answers}
use Rattle.compact.specs.RangeMerges.{runs_reading}

abbrev unless_twice : {A : Type 0} → Bool → A → Result A Fault
unless_twice distinct x = cond distinct (Ok x) (Err (fault Duplicate))

step : {A : Type 0} (here rest : Bool) (x : A) (xs : List A)
    → ((unless_twice here x) >>= λ v. (unless_twice rest xs) >>= λ vs. Ok (v ∷ vs)) ≡ unless_twice (here && rest) (x ∷ xs)
step true true x xs = refl
step true false x xs = refl
step false rest x xs = refl

last_step : {A B : Type 0} (distinct : Bool) (x : A) (f : A → B) → ((unless_twice distinct x) >>= λ u. Ok (f u)) ≡ unless_twice distinct (f x)
last_step true x f = refl
last_step false x f = refl

module _ (cmp : List ℕ → List ℕ → Ordering) (b : CompactionContext) (inputs : List (List Entry)) where
  abbrev parts : List KeyRange → List (List Entry)
  parts ranges = map (λ range. entries_in cmp range (merged cmp inputs)) ranges

  each_collected : (ranges : List KeyRange) → collected_results (map (range_run cmp b inputs) ranges) ≡ unless_twice (list_all are_distinct (parts ranges)) (map (run_of cmp b) (parts ranges))
  each_collected [] = refl
  each_collected (range ∷ ranges) =
      ap (λ (rest : Result (List Run) Fault). range_run cmp b inputs range >>= λ run. rest >>= λ runs. Ok (run ∷ runs)) (each_collected ranges)
      ∙ step (are_distinct (entries_in cmp range (merged cmp inputs))) (list_all are_distinct (parts ranges)) (run_of cmp b (entries_in cmp range (merged cmp inputs))) (map (run_of cmp b) (parts ranges))

  pub ranges_collected : (boundaries : List (List ℕ)) → IsSplit cmp boundaries → RangesCompose cmp → collected_results (range_answers cmp b boundaries inputs) ≡ runs_reading cmp b boundaries inputs
  ranges_collected boundaries split compose =
      each_collected (ranges_of boundaries)
      ∙ ap (λ (d : Bool). unless_twice d (runs_of cmp b boundaries (merged cmp inputs))) (compose.refused inputs boundaries split)
      ∙ sym (last_step (are_distinct (merged cmp inputs)) (merged cmp inputs) (λ union. runs_of cmp b boundaries union))

  pub range_answer_at : (boundaries : List (List ℕ)) (job : ℕ) → RangesCompose cmp → job ≤ length boundaries → slice_get (range_answers cmp b boundaries inputs) job ≡ Some (range_run cmp b inputs (range_at boundaries job))
  range_answer_at boundaries job compose h =
      slice_get-map (range_run cmp b inputs) (ranges_of boundaries) job ∙ ap (option_map (range_run cmp b inputs)) (compose.ranges boundaries job h)

ranges_length : (lower : Option (List ℕ)) (boundaries : List (List ℕ)) → length (ranges_from lower boundaries) ≡ length boundaries + 1
ranges_length lower [] = refl
ranges_length lower (k ∷ ks) = omega (arith, ranges_length (Some k) ks)

map_length : {A B : Type 0} (f : A → B) (xs : List A) → length (map f xs) ≡ length xs
map_length f [] = refl
map_length f (x ∷ xs) = omega (arith, map_length f xs)

pub range_answers_length : (cmp : List ℕ → List ℕ → Ordering) (b : CompactionContext) (boundaries : List (List ℕ)) (inputs : List (List Entry)) → length boundaries + 1 ≡ length (range_answers cmp b boundaries inputs)
range_answers_length cmp b boundaries inputs = sym (map_length (range_run cmp b inputs) (ranges_of boundaries) ∙ ranges_length None boundaries)

pub map_same : {A : Type 0} (xs : List A) → map (λ x. x) xs ≡ xs
map_same [] = refl
map_same (x ∷ xs) = ap (λ (ys : List _). x ∷ ys) (map_same xs)
