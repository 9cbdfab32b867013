-- What a run by a number of workers answers.
use Rattle.std.proofs.Common.{◌≡◌, ◌⊎◌, ℕ, ◌<◌, ◌≤◌, inl, inr, Bool, true, false, List, map, length, Result, Ok, Err, refl, sym, ap, subst, ◌∙◌, arith}
use Rattle.std.specs.Prelude.{◌↔◌, nat_le, ◌&&◌}
use Rattle.std.proofs.lemmas.Bool.{le-leb}
use Rattle.ikey.specs.fault.Fault.{Fault}
use Rattle.ikey.specs.fault.FaultName.TheVariants.{Workers as NamedWorkers}
use Rattle.ikey.specs.Answers.{fault, ◌>>=◌, FailsOrMemory}
use Rattle.ikey.proofs.Refusals.{FailsOrMemory-from}
use Rattle.table.specs.TestResult.{test_result}
use Rattle.board.specs.declared.pool.RunFault.{RunFault}
use Rattle.board.specs.RunAnswer.{AreResults, IsRefused, fault_of_run}
use Rattle.board.specs.CollectedResults.{collected_results, refusal_at, HasValue}
use Rattle.board.proofs.CollectedAnswers.{results_collected, refused_collected}
use Rattle.compact.specs.RangeMerges.{by_workers}

-- a number of workers outside 1 to 64
abbrev pub IsOutside : ℕ → Type 0
IsOutside workers = (workers ≡ 0) ⊎ (64 < workers)

test_within : (workers : ℕ) → (IsOutside workers → ⊥) → (nat_le 1 workers && nat_le workers 64) ≡ true
test_within workers never =
    let some : 1 ≤ workers = some_of workers (λ e. never (inl e)) in
    let few : workers ≤ 64 = few_of workers (λ e. never (inr e)) in
    ap (λ (b : Bool). b && nat_le workers 64) (le-leb 1 workers some) ∙ le-leb workers 64 few
  where
    some_of : (n : ℕ) → (n ≡ 0 → ⊥) → 1 ≤ n
    some_of n never = omega arith

    few_of : (n : ℕ) → (64 < n → ⊥) → n ≤ 64
    few_of n never = omega arith

pub within_limits : (workers : ℕ) → 1 ≤ workers → workers ≤ 64 → IsOutside workers → ⊥
within_limits workers some few (inl none) = omega (arith, none, some)
within_limits workers some few (inr many) = omega (arith, many, few)

pub within : {A : Type 0} (workers : ℕ) (answer : Result A Fault) → (IsOutside workers → ⊥) → by_workers workers answer ≡ answer
within {A} workers answer never = ap (λ (b : Bool). test_result b NamedWorkers >>= λ _. answer) (test_within workers never)

outside : {A : Type 0} (workers : ℕ) (answer : Result A Fault) → IsOutside workers → by_workers workers answer ≡ Err (fault NamedWorkers)
outside workers answer (inl none) = subst (λ (n : ℕ). by_workers n answer ≡ Err (fault NamedWorkers)) (sym none) refl
outside {A} workers answer (inr many) = ap (λ (b : Bool). test_result b NamedWorkers >>= λ _. answer) (by (nat_le 1 workers) (nat_le workers 64) (not_le workers many))
  where
    by : (a b : Bool) → b ≡ false → (a && b) ≡ false
    by true b e = e
    by false b e = refl

    not_le : (n : ℕ) → 64 < n → nat_le n 64 ≡ false
    not_le n h = grind arith

module _ {B O V : Type 0} (view : O → B) (answers : List (Result B Fault)) (jobs workers : ℕ) (result : Result V RunFault) (is_outside : (result ≡ Err RunFault.Workers) ↔ ((workers ≡ 0) ⊎ (64 < workers))) where
  -- the results of a run
  pub run_gives : (outs : List O) (value : V) → result ≡ Ok value → jobs ≡ length answers → AreResults (refusal_at answers) (λ job out. HasValue answers job (view out)) jobs outs
      → by_workers workers (collected_results answers) ≡ Ok (map view outs)
  run_gives outs value is all h =
      within workers (collected_results answers) (λ out. let no : Ok value ≡ Err RunFault.Workers = sym is ∙ is_outside.1 out in absurd cc)
      ∙ results_collected view answers jobs outs all h

  -- the refusal of a run
  pub run_fails : (why : RunFault) → result ≡ Err why
      → ((job : ℕ) (fault : Fault) → result ≡ Err (RunFault.Job job fault) → IsRefused (refusal_at answers) (λ job out. HasValue answers job (view out)) jobs job fault)
      → FailsOrMemory (fault_of_run why) (by_workers workers (collected_results answers))
  run_fails (RunFault.Job job e) is refused =
      subst (λ (a : Result (List B) Fault). FailsOrMemory e a)
      (sym (within workers (collected_results answers) (λ out. let no : Err (RunFault.Job job e) ≡ Err RunFault.Workers = sym is ∙ is_outside.1 out in absurd cc)))
      (refused_collected view answers jobs job e (refused job e is))
  run_fails RunFault.Workers is refused = FailsOrMemory-from (fault NamedWorkers) (by_workers workers (collected_results answers)) (outside workers (collected_results answers) (is_outside.0 is))
  run_fails RunFault.Memory is refused = tt
