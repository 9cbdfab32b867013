-- The compaction of inputs, step by step.
use Rattle.std.proofs.Common.{length, false, ◌≡◌, ℕ, Bool, true, List, Result, Ok, Err, ap, ◌∙◌}
use Rattle.std.specs.Prelude.{MatchBool, nat_lt}
use Rattle.std.specs.declared.cmp.Ordering.{Ordering}
use Rattle.folder.proofs.Refusals.{unless_from}
use Rattle.folder.specs.Answers.{FailsOrMemory, fault, ◌>>=◌}
use Rattle.folder.specs.fault.Fault.{Fault}
use Rattle.folder.specs.fault.FaultName.TheVariants.{Level, NoInput}
use Rattle.folder.specs.Version.{State}
use Rattle.folder.specs.VersionOrder.{level_files}
use Rattle.pick.specs.PickedInputs.{IsInputsAnswer, IsPicked, PickedInputs}

-- a refusal after a test that passed
pub refused_behind : {A B : Type 0} (first : Result (Unit {0}) Fault) (second : Result A Fault) (f : A → Result B Fault) (e : Fault) → first ≡ Ok tt → FailsOrMemory e second → FailsOrMemory e (first >>= λ _. second >>= f)
refused_behind {A = A} {B = B} first second f e passed given =
    unless_from e (second ≡ Err e) ((first >>= λ _. second >>= f) ≡ Err e)
    (λ is. ap (λ (w : Result (Unit {0}) Fault). w >>= λ _. second >>= f) passed ∙ ap (λ (a : Result A Fault). a >>= f) is) given

-- a value after a test that passed
pub answer_behind : {A B : Type 0} (first : Result (Unit {0}) Fault) (second : Result A Fault) (f : A → Result B Fault) (a : A) → first ≡ Ok tt → second ≡ Ok a → (first >>= λ _. second >>= f) ≡ f a
answer_behind {A = A} first second f a passed is = ap (λ (w : Result (Unit {0}) Fault). w >>= λ _. second >>= f) passed ∙ ap (λ (x : Result A Fault). x >>= f) is

-- the inputs that were answered are picked
pub picked_of : (cmp : List ℕ → List ℕ → Ordering) (v : State) (level : ℕ) (p : PickedInputs) → IsInputsAnswer cmp v level (Ok p) → IsPicked cmp v level p
picked_of cmp v level p h = by (nat_lt 5 level) (nat_lt 0 (length (level_files cmp v level))) h
  where
    by : (a b : Bool) → MatchBool a (Ok p ≡ Err (fault Level)) (MatchBool b (IsPicked cmp v level p) (Ok p ≡ Err (fault NoInput))) → IsPicked cmp v level p
    by true b is = absurd (cc is)
    by false true is = is
    by false false is = absurd (cc is)
