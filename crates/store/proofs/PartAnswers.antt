-- Answers of calls that may lack memory, one after the other.
use Rattle.std.proofs.Common.{◌≡◌, Result, Ok, Err, IsErrAnd, sym, subst}
use Rattle.folder.proofs.Refusals.{unless_from}
use Rattle.folder.specs.Answers.{EqualOrMemory, HoldsOrMemory, UnlessMemory}
use Rattle.folder.specs.fault.Fault.{Fault}

-- a refusal that `?` hands on is the answer's
pub handed_holds : {A X Y : Type 0} (view : X → Y) (r : Result X Fault) (e : Fault) (IsFirst : Result A Fault → Type 0) (IsAll : Result Y Fault → Type 0)
    → IsErrAnd r (λ f. f ≡ e) → UnlessMemory e (IsFirst (Err e)) → (IsFirst (Err e) → IsAll (Err e)) → HoldsOrMemory view r IsAll
handed_holds view (Ok x) e IsFirst IsAll h given go = absurd h
handed_holds view (Err f) e IsFirst IsAll h given go =
    subst (λ (d : Fault). UnlessMemory d (IsAll (Err d))) (sym h) (unless_from e (IsFirst (Err e)) (IsAll (Err e)) go given)

-- what has this answer has one that holds
pub equal_holds : {X Y : Type 0} (view : X → Y) (r : Result X Fault) (answer : Result Y Fault) (IsAll : Result Y Fault → Type 0) → IsAll answer → EqualOrMemory view r answer → HoldsOrMemory view r IsAll
equal_holds view (Ok x) answer IsAll given h = subst IsAll h given
equal_holds view (Err e) answer IsAll given h = unless_from e (answer ≡ Err e) (IsAll (Err e)) (λ is. subst IsAll is given) h

-- what holds of an answer
pub holds_weaker : {X Y : Type 0} (view : X → Y) (r : Result X Fault) (IsOne IsOther : Result Y Fault → Type 0) → ((a : Result Y Fault) → IsOne a → IsOther a) → HoldsOrMemory view r IsOne → HoldsOrMemory view r IsOther
holds_weaker view (Ok x) IsOne IsOther f h = f (Ok (view x)) h
holds_weaker view (Err e) IsOne IsOther f h = unless_from e (IsOne (Err e)) (IsOther (Err e)) (f (Err e)) h
