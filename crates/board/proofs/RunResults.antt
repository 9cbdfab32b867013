-- The results of a run, beside the things that its jobs are about.
use Rattle.std.proofs.Common.{◌≡◌, ℕ, zero, suc, ◌<◌, List, [], ◌∷◌, length, get_or, Result, Ok, Err, Option, IfOk, IfSome, ◌∙◌, arith, slice_get}
use Rattle.std.specs.Global.{Vec}
use Rattle.std.specs.List.{AllZip}
use Rattle.std.specs.Result.{result_ok}
use Rattle.coding.specs.declared.fault.Fault.{Fault}
use Rattle.board.specs.RunAnswer.{AreResults}

module _ {O T : Type 0} (is_of : O → T → Type 0) where
  -- a result for each thing, of the one at its place
  each_zipped : (outs : List O) (things : List T) → length outs ≡ length things
      → ((i : ℕ) (d : O) → i < length things → IfSome (slice_get things i) (is_of (get_or outs i d))) → AllZip is_of outs things
  each_zipped [] [] len each = tt
  each_zipped [] (thing ∷ things) len each = absurd (omega arith)
  each_zipped (out ∷ outs) [] len each = absurd (omega arith)
  each_zipped (out ∷ outs) (thing ∷ things) len each = (each zero out (omega arith), each_zipped outs things (omega arith) (λ i d lt. each (suc i) d (omega arith)))

  -- the results of a run are of the things, if its jobs are about these
  pub run_zipped : {E : Type 0} (refusal : ℕ → Option Fault) (things : List T) (jobs : ℕ) (result : Result (Vec O) E) → jobs ≡ length things
      → IfOk result (λ v. AreResults refusal (λ job out. IfSome (slice_get things job) (is_of out)) jobs v.items) → IfSome (result_ok result) (λ v. AllZip is_of v.items things)
  run_zipped refusal things jobs (Err e) all are = tt
  run_zipped refusal things jobs (Ok v) all are = each_zipped v.items things (are.len ∙ all) (λ i d lt. (are.each i d (omega (arith, all))).1)
