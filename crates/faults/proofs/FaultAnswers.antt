-- What calls answer that read the files of a folder.
use Rattle.std.proofs.Common.{◌≡◌, ℕ, ◌+◌, ◌<◌, ◌≤◌, List, [], ◌∷◌, ◌++◌, length, take, get_or, Result, Ok, Err, IfErr, IfOk, IsErrAnd, sym, ap, subst, ◌∙◌, inl, inr}
use Rattle.std.specs.Prelude.{◌⊎◌}
use Rattle.std.specs.List.{AllZip}
use Rattle.std.proofs.lemmas.List.{take_more}
use Rattle.table.proofs.Binds.{done, failed}
use Rattle.table.proofs.Refusals.{unless_from}
use Rattle.table.specs.Answers.{UnlessMemory, fault}
use Rattle.table.specs.fault.Fault.{Fault}
use Rattle.table.specs.fault.FaultName.TheVariants.{Memory}
use Rattle.folder.proofs.OpeningLemmas.{failed_since}
use Rattle.folder.specs.OpenAnswer.{FolderAnswers, IsStopped}

-- ---- refusals

pub no_value : {A : Type 0} (e : Fault) (x : A) → failed {A = A} e ≡ done x → ⊥
no_value e x h = cc

-- Memory alone
pub memory_stopped : {X : Type 0} (before now : ℕ) (r : Result X Fault) → IfErr r (λ e. e ≡ fault Memory) → IfErr r (λ e. UnlessMemory e (IsStopped before now e))
memory_stopped before now (Ok x) h = tt
memory_stopped before now (Err e) h = subst (λ (f : Fault). UnlessMemory f (IsStopped before now f)) (sym h) tt

pub memory_handed : {X : Type 0} (before now : ℕ) (r : Result X Fault) (e : Fault) → IsErrAnd r (λ f. f ≡ e) → e ≡ fault Memory → IfErr r (λ e. UnlessMemory e (IsStopped before now e))
memory_handed before now (Ok x) e is h = absurd is
memory_handed before now (Err f) e is h = subst (λ (d : Fault). UnlessMemory d (IsStopped before now d)) (sym (is ∙ h)) tt

-- a device that failed after a time failed after an earlier time
pub stopped_since : (before middle now : ℕ) (e : Fault) → before ≤ middle → middle ≤ now → UnlessMemory e (IsStopped middle now e) → UnlessMemory e (IsStopped before now e)
stopped_since before middle now e one two h = unless_from e (IsStopped middle now e) (IsStopped before now e) (λ s. (s.0, failed_since before middle now one two s.1)) h

-- a refusal that `?` hands on, if more calls came before it
pub stopped_handed : {X : Type 0} (before middle now : ℕ) (r : Result X Fault) (e : Fault) → IsErrAnd r (λ f. f ≡ e) → before ≤ middle → middle ≤ now → UnlessMemory e (IsStopped middle now e) → IfErr r (λ e. UnlessMemory e (IsStopped before now e))
stopped_handed before middle now (Ok x) e is one two h = absurd is
stopped_handed before middle now (Err f) e is one two h =
    subst (λ (d : Fault). UnlessMemory d (IsStopped before now d)) (sym is) (stopped_since before middle now e one two h)

pub memory_of : (before now : ℕ) (e : Fault) → e ≡ fault Memory → UnlessMemory e (IsStopped before now e)
memory_of before now e h = subst (λ (f : Fault). UnlessMemory f (IsStopped before now f)) (sym h) tt

-- the device stopped it, if it has no refusal of its own
pub stopped_only : (before now : ℕ) (e : Fault) (Own : Type 0) → (Own → ⊥) → UnlessMemory e (IsStopped before now e ⊎ Own) → UnlessMemory e (IsStopped before now e)
stopped_only before now e Own none h = unless_from e (IsStopped before now e ⊎ Own) (IsStopped before now e) (λ g. elim g [ inl s ↦ s | inr own ↦ absurd (none own) ]) h

-- the same of an answer
pub stopped_answer : {X Y : Type 0} (view : X → Y) (before now : ℕ) (r : Result X Fault) (IsAnswer : Result Y Fault → Type 0) (e : Fault) → IsErrAnd r (λ f. f ≡ e) → UnlessMemory e (IsStopped before now e) → FolderAnswers view before now r IsAnswer
stopped_answer view before now (Ok x) IsAnswer e is h = absurd is
stopped_answer view before now (Err f) IsAnswer e is h =
    subst (λ (d : Fault). UnlessMemory d (IsStopped before now d ⊎ IsAnswer (Err d))) (sym is) (unless_from e (IsStopped before now e) (IsStopped before now e ⊎ IsAnswer (Err e)) (λ s. inl s) h)

pub ok_weaker : {X : Type 0} (r : Result X Fault) (P Q : X → Type 0) → ((x : X) → P x → Q x) → IfOk r P → IfOk r Q
ok_weaker (Ok x) P Q f h = f x h
ok_weaker (Err e) P Q f h = tt

-- ---- lists

zip_push : {A B : Type 0} (R : A → B → Type 0) (xs : List A) (ys : List B) (x : A) (y : B) → AllZip R xs ys → R x y → AllZip R (xs ++ x ∷ []) (ys ++ y ∷ [])
zip_push R [] [] x y h one = (one, tt)
zip_push R [] (b ∷ ys) x y h one = absurd h
zip_push R (a ∷ xs) [] x y h one = absurd h
zip_push R (a ∷ xs) (b ∷ ys) x y h one = (h.0, zip_push R xs ys x y h.1 one)

pub zip_more : {A B : Type 0} (R : A → B → Type 0) (xs : List A) (ys : List B) (i : ℕ) (x : A) (y : B) (new : List B) → i < length xs → x ≡ get_or xs i x → new ≡ ys ++ y ∷ [] → AllZip R (take i xs) ys → R x y → AllZip R (take (i + 1) xs) new
zip_more {A} {B} R xs ys i x y new lt is pushed h one =
    let front : take (i + 1) xs ≡ take i xs ++ x ∷ [] = take_more xs i x lt ∙ ap (λ (z : A). take i xs ++ z ∷ []) (sym is) in
    subst (λ (zs : List A). AllZip R zs new) (sym front) (subst (λ (zs : List B). AllZip R (take i xs ++ x ∷ []) zs) (sym pushed) (zip_push R (take i xs) ys x y h one))
