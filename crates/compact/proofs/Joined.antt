-- The runs of a request, and what one thread answers: both go on from the union of the inputs.
use Rattle.std.proofs.Common.{◌≡◌, ℕ, suc, ◌+◌, ◌<◌, ◌≤◌, ◌^◌, Bool, true, false, List, [], ◌∷◌, length, Result, Ok, Err, refl, sym, ap, subst, ◌∙◌}
use Rattle.std.specs.Prelude.{nat_le, nat_lt, ◌&&◌, if◌then◌else◌, IfOk, IfErr}
use Rattle.std.specs.declared.cmp.Ordering.{Ordering}
use Rattle.std.specs.List.{list_all}
use Rattle.std.proofs.lemmas.Bool.{and_parts, ltb-true}
use Rattle.table.specs.declared.options.Options.{Options}
use Rattle.cut.specs.Plan.{OutputView, plan_of, planned_from, parts}
use Rattle.ikey.specs.fault.Fault.{Fault}
use Rattle.ikey.specs.fault.FaultName.TheVariants.{Workers, Duplicate, Numbers, TooLarge}
use Rattle.ikey.specs.Answers.{fault, ◌>>=◌, EqualOrMemory, FailsOrMemory}
use Rattle.ikey.proofs.Refusals.{unless_from}
use Rattle.table.specs.EncodedEntry.{Entry}
use Rattle.table.specs.TestResult.{test_result}
use Rattle.table.specs.Table.{table}
use Rattle.reads.specs.MergedLists.{merged}
use Rattle.reads.specs.Union.{VersionsRise}
use Rattle.split.specs.Boundaries.{IsSplit}
use Rattle.keep.specs.Runs.{Run, are_distinct, joined_run, runs_of, DistinctLaw}
use Rattle.cut.specs.Outputs.{outputs, outputs_of, RangesCutLaw}
use Rattle.compact.specs.Request.{RequestView, below_request, request_test}
use Rattle.compact.specs.Inputs.{inputs_reading, union_reading}
use Rattle.compact.specs.OneThread.{Answer, one_thread, outputs_answer}
use Rattle.compact.specs.OutputTables.{outputs_from}
use Rattle.compact.specs.RangeMerges.{by_workers, runs_reading}
use Rattle.compact.specs.MergedRequest.{runs_answer}
use Rattle.compact.specs.WrittenOutputs.{written_of}
use Rattle.compact.proofs.PlanAnswers.{outputs_planned}
use Rattle.compact.proofs.WorkerAnswers.{within, within_limits}
use Rattle.ikey.specs.Comparator.{ShortKeys}

-- ---- steps

-- a step that was taken, and the next one
pub record Taken {A B : Type 0} (step : Result A Fault) (next : A → Result B Fault) (b : B) : Type 0 where
  pub value : A
  pub is : step ≡ Ok value
  pub goes_on : next value ≡ Ok b

pub taken : {A B : Type 0} (step : Result A Fault) (next : A → Result B Fault) (b : B) → (step >>= next) ≡ Ok b → Taken step next b
taken (Ok a) next b h = record { value = a; is = refl; goes_on = h }
taken (Err e) next b h = absurd cc

-- if steps fail that go on without a refusal, the same steps fail with another ending
pub fails_on : {A B D : Type 0} (f : Result A Fault) (r : A → B) (k : A → Result D Fault) (e : Fault) → FailsOrMemory e (f >>= λ u. Ok (r u)) → FailsOrMemory e (f >>= k)
fails_on {A} {B} {D} f r k e h = unless_from e _ _ (by f) h
  where
    by : (f : Result A Fault) → (f >>= λ u. Ok (r u)) ≡ Err e → (f >>= k) ≡ Err e
    by (Ok u) is = absurd cc
    by (Err d) is = cc

abbrev if_distinct : Bool → List Entry → Result (List Entry) Fault
if_distinct d m = if d then Ok m else Err (fault Duplicate)

united : (d : Bool) (m u : List Entry) → if_distinct d m ≡ Ok u → (d ≡ true) × (u ≡ m)
united true m u h = (refl, cc)
united false m u h = absurd cc

abbrev ok_runs : List Run → Result (List Run) Fault
ok_runs runs = Ok runs

same_ok : (a b : List Run) → ok_runs a ≡ ok_runs b → a ≡ b
same_ok a b h = cc

-- ---- a request

module _ (cmp : List ℕ → List ℕ → Ordering) (short_keys : ShortKeys) (r : RequestView) where
  -- what one thread goes on with from the union of the inputs
  abbrev ending : List Entry → Result Answer Fault
  ending union = outputs_answer r (outputs_from (table cmp short_keys r.options) r.first_number (outputs cmp (below_request r) r.options union))

  pub refused_test : (e : Fault) → request_test cmp r ≡ Err e → one_thread cmp short_keys r ≡ Err e
  refused_test e h = ap (λ (t : Result (Unit {0}) Fault). t >>= λ _. (inputs_reading cmp 0 r.picked.files r.tables >>= λ lists. (union_reading cmp lists >>= ending))) h

  tested_is : request_test cmp r ≡ Ok tt → one_thread cmp short_keys r ≡ (inputs_reading cmp 0 r.picked.files r.tables >>= λ lists. (union_reading cmp lists >>= ending))
  tested_is h = ap (λ (t : Result (Unit {0}) Fault). t >>= λ _. (inputs_reading cmp 0 r.picked.files r.tables >>= λ lists. (union_reading cmp lists >>= ending))) h

  pub refused_input : (e : Fault) → request_test cmp r ≡ Ok tt → FailsOrMemory e (inputs_reading cmp 0 r.picked.files r.tables) → FailsOrMemory e (one_thread cmp short_keys r)
  refused_input e tested h =
      unless_from e _ _
      (λ is. tested_is tested ∙ ap (λ (i : Result (List (List Entry)) Fault). i >>= λ lists. (union_reading cmp lists >>= ending)) is) h

  thread_is : (inputs : List (List Entry)) → request_test cmp r ≡ Ok tt → inputs_reading cmp 0 r.picked.files r.tables ≡ Ok inputs → one_thread cmp short_keys r ≡ (union_reading cmp inputs >>= ending)
  thread_is inputs tested read = tested_is tested ∙ ap (λ (i : Result (List (List Entry)) Fault). i >>= λ lists. (union_reading cmp lists >>= ending)) read

  module _ (inputs : List (List Entry)) (workers : ℕ) (some : 1 ≤ workers) (limited : workers ≤ 64) (tested : request_test cmp r ≡ Ok tt) (read : inputs_reading cmp 0 r.picked.files r.tables ≡ Ok inputs)
      (boundaries : List (List ℕ)) where
    abbrev all_runs : Result (List Run) Fault
    all_runs = runs_reading cmp (below_request r) boundaries inputs

    runs_are : by_workers workers all_runs ≡ all_runs
    runs_are = within workers all_runs (within_limits workers some limited)

    -- what one thread answers is what is written of the outputs of the runs
    pub whole_answer : DistinctLaw cmp → RangesCutLaw cmp → IsSplit cmp boundaries → (runs : List Run) → by_workers workers all_runs ≡ Ok runs
        → one_thread cmp short_keys r ≡ written_of (table cmp short_keys r.options) r (outputs_of r.picked.grandparents r.options (joined_run runs))
    whole_answer distinct cut split runs h =
        let step = taken (union_reading cmp inputs) (λ union. Ok (runs_of cmp (below_request r) boundaries union)) runs (sym runs_are ∙ h) in
        let union : List Entry = step.value in
        let both = united (are_distinct (merged cmp inputs)) (merged cmp inputs) union step.is in
        let rising : VersionsRise cmp union = ((distinct inputs union).1 (both.1, both.0)).rising in
        let runs_is : runs_of cmp (below_request r) boundaries union ≡ runs = same_ok (runs_of cmp (below_request r) boundaries union) runs step.goes_on in
        thread_is inputs tested read ∙ ap (λ (u : Result (List Entry) Fault). u >>= ending) step.is
        ∙ outputs_planned (table cmp short_keys r.options) r (outputs cmp (below_request r) r.options union)
        ∙ ap (λ (os : List (List Entry)). written_of (table cmp short_keys r.options) r os)
        (sym (ap (λ (rs : List Run). outputs_of r.picked.grandparents r.options (joined_run rs)) (sym runs_is) ∙ cut (below_request r) r.options boundaries union split rising))

    pub refused_answer : (e : Fault) → FailsOrMemory e (by_workers workers all_runs) → FailsOrMemory e (one_thread cmp short_keys r)
    refused_answer e h =
        subst (FailsOrMemory e) (sym (thread_is inputs tested read))
        (fails_on (union_reading cmp inputs) (runs_of cmp (below_request r) boundaries) ending e (subst (FailsOrMemory e) runs_are h))

    module _ {V : Type 0} (runs_in : V → List Run) where
      pub runs_merged : DistinctLaw cmp → RangesCutLaw cmp → IsSplit cmp boundaries → (result : Result V Fault) → EqualOrMemory runs_in result (by_workers workers all_runs)
          → IfOk result (λ v. one_thread cmp short_keys r ≡ runs_answer cmp short_keys r (runs_in v))
      runs_merged distinct cut split (Ok v) h = whole_answer distinct cut split (runs_in v) h
      runs_merged distinct cut split (Err e) h = tt

      pub runs_refused : (result : Result V Fault) → EqualOrMemory runs_in result (by_workers workers all_runs) → IfErr result (λ e. FailsOrMemory e (one_thread cmp short_keys r))
      runs_refused (Ok v) h = tt
      runs_refused (Err e) h = refused_answer e h

-- ---- before one thread

module _ (workers : ℕ) (passes : test_result (nat_le 1 workers && nat_le workers 64) Workers ≡ Ok tt) where
  passed_both : (nat_le 1 workers ≡ true) × (nat_le workers 64 ≡ true)
  passed_both = and_parts (nat_le 1 workers) (nat_le workers 64) (passed (nat_le 1 workers && nat_le workers 64) passes)
    where
      passed : (b : Bool) → test_result b Workers ≡ Ok tt → b ≡ true
      passed true h = refl
      passed false h = absurd cc

  pub inputs_are : (inputs : Result (List (List Entry)) Fault) → by_workers workers inputs ≡ inputs
  inputs_are inputs = ap (λ (w : Result (Unit {0}) Fault). w >>= λ _. inputs) passes

  pub answer_is : (answer : Result Answer Fault) → by_workers workers answer ≡ answer
  answer_is answer = ap (λ (w : Result (Unit {0}) Fault). w >>= λ _. answer) passes

-- what a law says of each answer holds of what a call answers
pub if_answered : {X : Type 0} (view : X → Answer) (P : Answer → Type 0) (result : Result X Fault) (answer : Result Answer Fault)
    → EqualOrMemory view result answer → ((a : Answer) → answer ≡ Ok a → P a) → IfOk result (λ x. P (view x))
if_answered view P (Ok x) answer same law = law (view x) same
if_answered view P (Err e) answer same law = tt

-- ---- a plan

numbered_length : (table_of : List Entry → List ℕ) (o : Options) (number : ℕ) (outs : List (List Entry)) → length (planned_from table_of o number outs) ≡ length outs
numbered_length table_of o number [] = refl
numbered_length table_of o number (q ∷ qs) = ap suc (numbered_length table_of o (number + 1) qs)

by_numbers : (b : Bool) (behind : Result (List OutputView) Fault) (plan : List OutputView) → (test_result b Numbers >>= λ _. behind) ≡ Ok plan → (b ≡ true) × (behind ≡ Ok plan)
by_numbers true behind plan h = (refl, h)
by_numbers false behind plan h = absurd cc

by_lengths : (b : Bool) (made plan : List OutputView) → (test_result b TooLarge >>= λ _. Ok made) ≡ Ok plan → made ≡ plan
by_lengths true made plan h = cc
by_lengths false made plan h = absurd cc

-- the number after the last output of a plan is below 2 ^ 64
pub plan_fits : (table_of : List Entry → List ℕ) (o : Options) (first : ℕ) (outs : List (List Entry)) (plan : List OutputView) → plan_of table_of o first outs ≡ Ok plan → first + length plan < 2 ^ 64
plan_fits table_of o first outs plan h =
    let n = by_numbers (nat_lt (first + length outs) (2 ^ 64)) (test_result (list_all (λ q. nat_le (length (table_of q)) (2 ^ 30)) outs && nat_le (length (parts o outs)) (2 ^ 40)) TooLarge >>= λ _. Ok (planned_from table_of o first outs)) plan h in
    let made : planned_from table_of o first outs ≡ plan = by_lengths (list_all (λ q. nat_le (length (table_of q)) (2 ^ 30)) outs && nat_le (length (parts o outs)) (2 ^ 40)) (planned_from table_of o first outs) plan n.1 in
    let few : first + length outs < 2 ^ 64 = ltb-true (first + length outs) (2 ^ 64) n.0 in
    subst (λ (m : ℕ). first + m < 2 ^ 64) (sym (numbered_length table_of o first outs) ∙ ap length made) few
