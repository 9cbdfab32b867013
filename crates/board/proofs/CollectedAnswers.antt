-- What a run answers, if its labour states the answers of all jobs as one list.
use Rattle.std.proofs.Common.{◌≡◌, ◌≢◌, ◌⊎◌, ℕ, zero, suc, ◌<◌, ◌≤◌, inl, inr, List, [], ◌∷◌, map, length, get_or, Some, Result, Ok, Err, IfOk, IfErr, refl, ap, ◌∙◌, arith, slice_get}
use Rattle.std.proofs.lemmas.Option.{same_Some}
use Rattle.coding.specs.declared.fault.Fault.{Fault}
use Rattle.coding.specs.Answers.{◌>>=◌, EqualOrMemory, FailsOrMemory}
use Rattle.coding.proofs.Refusals.{unless_from}
use Rattle.board.specs.declared.pool.RunFault.{RunFault}
use Rattle.board.specs.RunAnswer.{IsFaultOf, IsResult, AreResults, IsRefused, fault_of_run}
use Rattle.board.specs.CollectedResults.{collected_results, fault_in, refusal_at, HasValue}

module _ {B O : Type 0} (view : O → B) where
  each_collected : (answers : List (Result B Fault)) (outs : List O) → length outs ≡ length answers
      → ((i : ℕ) (d : O) → i < length answers → HasValue answers i (view (get_or outs i d))) → collected_results answers ≡ Ok (map view outs)
  each_collected [] [] len each = refl
  each_collected [] (out ∷ outs) len each = absurd (omega arith)
  each_collected (answer ∷ answers) [] len each = absurd (omega arith)
  each_collected (answer ∷ answers) (out ∷ outs) len each =
      let here : answer ≡ Ok (view out) = same_Some answer (Ok (view out)) (each zero out (omega arith)) in
      let rest = each_collected answers outs (omega arith) (λ i d lt. each (suc i) d (omega arith)) in
      ap (λ (a : Result B Fault). a >>= λ b. collected_results answers >>= λ bs. Ok (b ∷ bs)) here ∙ ap (λ (r : Result (List B) Fault). r >>= λ bs. Ok (view out ∷ bs)) rest

  -- the results of a run are the collected answers
  pub results_collected : (answers : List (Result B Fault)) (jobs : ℕ) (outs : List O) → jobs ≡ length answers
      → AreResults (refusal_at answers) (λ job out. HasValue answers job (view out)) jobs outs → collected_results answers ≡ Ok (map view outs)
  results_collected answers jobs outs all h = each_collected answers outs (h.len ∙ all) (λ i d lt. (h.each i d (omega arith)).1)

first_by : {B : Type 0} (answer : Result B Fault) (rest : List (Result B Fault)) (fault : Fault) → fault_in (Some answer) ≡ Some fault → collected_results (answer ∷ rest) ≡ Err fault
first_by (Ok b) rest fault e = cc
first_by (Err f) rest fault e = ap Err (same_Some f fault e)

-- before the least refusal each answer has a value
first_refused : {B : Type 0} (answers : List (Result B Fault)) (job : ℕ) (fault : Fault) → ((i : ℕ) → i < job → (b : B) × HasValue answers i b) → refusal_at answers job ≡ Some fault → collected_results answers ≡ Err fault
first_refused [] job fault before e = cc
first_refused (answer ∷ answers) zero fault before e = first_by answer answers fault e
first_refused {B} (answer ∷ answers) (suc job) fault before e =
    let v = before zero (omega arith) in
    let here : answer ≡ Ok v.0 = same_Some answer (Ok v.0) v.1 in
    let rest = first_refused answers job fault (λ i lt. before (suc i) (omega arith)) e in
    ap (λ (a : Result B Fault). a >>= λ b. collected_results answers >>= λ bs. Ok (b ∷ bs)) here ∙ ap (λ (r : Result (List B) Fault). r >>= λ bs. Ok (v.0 ∷ bs)) rest

module _ {B O : Type 0} (view : O → B) where
  -- the refusal of a run is that of the collected answers
  pub refused_collected : (answers : List (Result B Fault)) (jobs job : ℕ) (fault : Fault)
      → IsRefused (refusal_at answers) (λ job out. HasValue answers job (view out)) jobs job fault → FailsOrMemory fault (collected_results answers)
  refused_collected answers jobs job fault h =
      unless_from fault _ _ (first_refused answers job fault (λ i lt. let r = h.before i lt in (view r.0, r.1.1))) h.refused

  -- the same of any fault of a run, if the number of workers is none
  pub fault_collected : {V : Type 0} (answers : List (Result B Fault)) (jobs : ℕ) (result : Result V RunFault) (e : RunFault) → result ≡ Err e
      → ((job : ℕ) (fault : Fault) → result ≡ Err (RunFault.Job job fault) → IsRefused (refusal_at answers) (λ job out. HasValue answers job (view out)) jobs job fault)
      → result ≢ Err RunFault.Workers → FailsOrMemory (fault_of_run e) (collected_results answers)
  fault_collected answers jobs result (RunFault.Job job fault) is refused few = refused_collected answers jobs job fault (refused job fault is)
  fault_collected answers jobs result RunFault.Workers is refused few = absurd (few is)
  fault_collected answers jobs result RunFault.Memory is refused few = tt

-- a number from 1 to 64 isn't outside
pub none_outside : (workers : ℕ) → 0 < workers → workers ≤ 64 → (workers ≡ 0) ⊎ (64 < workers) → ⊥
none_outside workers some few (inl none) = omega arith
none_outside workers some few (inr many) = omega arith

-- What a labour's work owes, if a call gives a job's answer.
module _ {B O : Type 0} (view : O → B) (answers : List (Result B Fault)) (job : ℕ) (answer : Result B Fault) (at : slice_get answers job ≡ Some answer) where
  pub work_gives : (result : Result O Fault) → EqualOrMemory view result answer → IfOk result (λ out. IsResult (refusal_at answers) (λ i o. HasValue answers i (view o)) (job, out))
  work_gives (Ok out) is =
      let here : slice_get answers job ≡ Some (Ok (view out)) = at ∙ ap Some is in
      (ap fault_in here, here)
  work_gives (Err e) is = tt

  pub work_refuses : (result : Result O Fault) → EqualOrMemory view result answer → IfErr result (IsFaultOf (refusal_at answers) job)
  work_refuses (Ok out) is = tt
  work_refuses (Err e) is = unless_from e _ _ (λ (no : answer ≡ Err e). ap fault_in (at ∙ ap Some no)) is
