-- What the bytes of a manifest answer, step by step.
use Rattle.std.proofs.Common.{◌≡◌, ℕ, List, [], ◌∷◌, ◌++◌, Result, Ok, Err, IsErrAnd, refl, sym, subst}
use Rattle.std.specs.List.{AllZip}
use Rattle.ikey.proofs.Refusals.{unless_from}
use Rattle.ikey.specs.Answers.{FailsOrMemory, UnlessMemory, HoldsOrMemory}
use Rattle.ikey.specs.fault.Fault.{Fault}
use Rattle.logrec.specs.LogReader.{records_of}
use Rattle.folder.specs.Manifest.{IsManifestAnswer}

-- a refusal that `?` hands on
pub handed_on : {X Y : Type 0} (view : X → Y) (r : Result X Fault) (e : Fault) (IsAnswer : Result Y Fault → Type 0) → IsErrAnd r (λ f. f ≡ e) → UnlessMemory e (IsAnswer (Err e)) → HoldsOrMemory view r IsAnswer
handed_on view (Ok x) e IsAnswer h u = absurd h
handed_on view (Err f) e IsAnswer h u = subst (λ (g : Fault). UnlessMemory g (IsAnswer (Err g))) (sym h) u

-- one pair more
pub zip_push : {A B : Type 0} (R : A → B → Type 0) (xs : List A) (ys : List B) (x : A) (y : B) → AllZip R xs ys → R x y → AllZip R (xs ++ x ∷ []) (ys ++ y ∷ [])
zip_push R [] [] x y all one = (one, tt)
zip_push R [] (b ∷ ys) x y all one = absurd all
zip_push R (a ∷ xs) [] x y all one = absurd all
zip_push R (a ∷ xs) (b ∷ ys) x y all one = (all.0, zip_push R xs ys x y all.1 one)

-- the bytes are no log
pub no_log : (number : ℕ) (bytes : List ℕ) (e : Fault) → FailsOrMemory e (records_of bytes) → UnlessMemory e (IsManifestAnswer number bytes (Err e))
no_log number bytes e h = unless_from e (records_of bytes ≡ Err e) (IsManifestAnswer number bytes (Err e)) (λ same. (Err e, (sym same, refl))) h
