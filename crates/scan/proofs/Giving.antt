-- What a step gives, and what it hands on.
use Rattle.std.proofs.Common.{◌≡◌, ◌⊎◌, ℕ, Result, Ok, Err, IfErr, IsErrAnd, sym, ap, subst, inl, inr}
use Rattle.table.proofs.Refusals.{unless}
use Rattle.table.proofs.Binds.{done, failed}
use Rattle.table.specs.Answers.{UnlessMemory, fault}
use Rattle.table.specs.fault.Fault.{Fault}
use Rattle.table.specs.fault.FaultName.{FaultName}
use Rattle.table.specs.fault.FaultName.TheVariants as name
use Rattle.folder.specs.OpenAnswer.{FolderAnswers, HasDeviceFailed, IsStopped}
use Rattle.scan.specs.Excuses.{Gives, IsExcuse}
use Rattle.scan.specs.SearchAnswers.{Refuses}

-- a refusal that `?` hands on
pub handed : {X : Type 0} (r : Result X Fault) (e : Fault) (P : X → Type 0) → IsErrAnd r (λ f. f ≡ e) → IsExcuse e → Gives r P
handed (Ok x) e P h excuse = absurd h
handed (Err f) e P h excuse = subst IsExcuse (sym h) excuse

-- what follows of what is given
pub gives_from : {X : Type 0} (r : Result X Fault) (P Q : X → Type 0) → ((x : X) → P x → Q x) → Gives r P → Gives r Q
gives_from (Ok x) P Q f h = f x h
gives_from (Err e) P Q f h = h

-- the same of a refusal by a name
pub refused : {X : Type 0} (r : Result X Fault) (e : Fault) (n : FaultName) → IsErrAnd r (λ f. f ≡ e) → (e ≡ fault n) ⊎ IsExcuse e → Refuses r n
refused (Ok x) e n h why = absurd h
refused (Err f) e n h why = subst (λ (d : Fault). (d ≡ fault n) ⊎ IsExcuse d) (sym h) why

-- a value that is given is what a call on a folder answers
pub answers : {X Y : Type 0} (view : X → Y) (before now : ℕ) (r : Result X Fault) (y : Y) → IfErr r (HasDeviceFailed before now) → Gives r (λ x. view x ≡ y) → FolderAnswers view before now r (λ answer. answer ≡ Ok y)
answers view before now (Ok x) y device h = value_of h
  where
    value_of : view x ≡ y → done (view x) ≡ done y
    value_of is = cc
answers {Y = Y} view before now (Err e) y device (inl is) =
    unless e (IsStopped before now e ⊎ (failed {A = Y} e ≡ done y)) (inl (is, device (ap (λ (f : Fault). f.name) is)))
answers {Y = Y} view before now (Err e) y device (inr is) = subst (λ (f : Fault). UnlessMemory f (IsStopped before now f ⊎ (failed {A = Y} f ≡ done y))) (sym is) tt
