-- What opening a folder answers, step by step.
use Rattle.std.proofs.Common.{◌≡◌, ◌⊎◌, ℕ, ◌≤◌, List, [], ◌∷◌, ◌++◌, Option, Some, None, Result, Ok, Err, IsErrAnd, refl, sym, ap, subst, ◌∙◌, arith, inl, inr, codes, append_assoc}
use Rattle.ikey.proofs.Refusals.{unless_from}
use Rattle.ikey.specs.Answers.{UnlessMemory, HoldsOrMemory}
use Rattle.ikey.specs.fault.Fault.{Fault}
use Rattle.edit.specs.Version.{State}
use Rattle.folder.specs.Calls.{Step}
use Rattle.folder.specs.Folder.{DeviceFailed, TellsSame}
use Rattle.folder.specs.Manifest.{IsManifestAnswer}
use Rattle.folder.specs.Names.{IsNumberAnswer, current_text, manifest_name}
use Rattle.folder.specs.OpenAnswer.{FolderAnswers, IsFileReading, IsOpened, IsStopped, IsVersionRead}
use Rattle.folder.specs.Readings.{Reading}
use Rattle.folder.specs.declared.folder.Folder.{Ghosts}
use Rattle.folder.specs.declared.order.Order.{Order}

-- CURRENT was read, and then the manifest that it names
pub version_read : {F : Type 0} {g : Ghosts F} (old middle new : F) (order : Order) (v : State) (number : ℕ) (current name bytes : List ℕ)
    → g.readings middle ≡ g.readings old ++ (g.calls old, codes "CURRENT", Some current) ∷ [] → current ≡ current_text number → g.calls middle ≡ g.calls old
    → g.readings new ≡ g.readings middle ++ (g.calls middle, name, Some bytes) ∷ [] → name ≡ manifest_name number → IsManifestAnswer number bytes (Ok (order, v)) → IsVersionRead g old new order v number
version_read {g = g} old middle new order v number current name bytes one is same two named gives =
    let made = g.calls old in
    let current_read : List ℕ → Reading = λ c. (made, codes "CURRENT", Some c) in
    let manifest_read : List Step → List ℕ → Reading = λ s n. (s, n, Some bytes) in
    record {
      bytes = bytes;
      read = two ∙ (ap (λ (l : List Reading). l ++ manifest_read (g.calls middle) name ∷ []) one ∙ (append_assoc (g.readings old) (current_read current ∷ []) (manifest_read (g.calls middle) name ∷ [])
          ∙ (ap (λ (c : List ℕ). g.readings old ++ current_read c ∷ (manifest_read (g.calls middle) name ∷ [])) is
          ∙ (ap (λ (s : List Step). g.readings old ++ current_read (current_text number) ∷ (manifest_read s name ∷ [])) same
          ∙ ap (λ (n : List ℕ). g.readings old ++ current_read (current_text number) ∷ (manifest_read made n ∷ [])) named))));
      gives = gives;
    }

-- a failure after a time is one after an earlier time
pub failed_since : (before middle now : ℕ) → before ≤ middle → middle ≤ now → DeviceFailed middle now → DeviceFailed before now
failed_since before middle now one two h =
    elim h [
      | inl rose ↦ inl (omega arith)
      | inr full ↦ grind (arith)
    ]

-- an answer that came later
pub answers_since : {X Y : Type 0} (view : X → Y) (before middle now : ℕ) (r : Result X Fault) (IsFirst IsAnswer : Result Y Fault → Type 0) → ((a : Result Y Fault) → IsFirst a → IsAnswer a) → before ≤ middle → middle ≤ now → FolderAnswers view middle now r IsFirst → FolderAnswers view before now r IsAnswer
answers_since view before middle now (Ok x) IsFirst IsAnswer f one two given = f (Ok (view x)) given
answers_since view before middle now (Err e) IsFirst IsAnswer f one two given =
    unless_from e (IsStopped middle now e ⊎ IsFirst (Err e)) (IsStopped before now e ⊎ IsAnswer (Err e)) (λ g. elim g [
      | inl stopped ↦ inl (stopped.0, failed_since before middle now one two stopped.1)
      | inr found ↦ inr (f (Err e) found)
    ]) given

-- a call's refusal that `?` hands on, if more calls came before it
pub hands_on : {X Y Z : Type 0} (view : X → Y) (before middle now : ℕ) (r : Result X Fault) (e : Fault) (IsFirst : Result Z Fault → Type 0) (IsAnswer : Result Y Fault → Type 0)
    → IsErrAnd r (λ f. f ≡ e) → before ≤ middle → middle ≤ now → UnlessMemory e (IsStopped middle now e ⊎ IsFirst (Err e)) → (IsFirst (Err e) → IsAnswer (Err e)) → FolderAnswers view before now r IsAnswer
hands_on view before middle now (Ok x) e IsFirst IsAnswer h one two given f = absurd h
hands_on view before middle now (Err g) e IsFirst IsAnswer h one two given f =
    subst (λ (x : Fault). UnlessMemory x (IsStopped before now x ⊎ IsAnswer (Err x))) (sym h)
    (unless_from e (IsStopped middle now e ⊎ IsFirst (Err e)) (IsStopped before now e ⊎ IsAnswer (Err e)) (λ g. elim g [
      | inl stopped ↦ inl (stopped.0, failed_since before middle now one two stopped.1)
      | inr first ↦ inr (f first)
    ]) given)

-- a refusal by what was read alone
pub refuses : {X Y Z : Type 0} (view : X → Y) (before now : ℕ) (r : Result X Fault) (e : Fault) (IsFirst : Result Z Fault → Type 0) (IsAnswer : Result Y Fault → Type 0)
    → IsErrAnd r (λ f. f ≡ e) → UnlessMemory e (IsFirst (Err e)) → (IsFirst (Err e) → IsAnswer (Err e)) → FolderAnswers view before now r IsAnswer
refuses view before now (Ok x) e IsFirst IsAnswer h given f = absurd h
refuses view before now (Err g) e IsFirst IsAnswer h given f =
    subst (λ (x : Fault). UnlessMemory x (IsStopped before now x ⊎ IsAnswer (Err x))) (sym h)
    (unless_from e (IsFirst (Err e)) (IsStopped before now e ⊎ IsAnswer (Err e)) (λ first. inr (f first)) given)

-- what is read alone answers
pub answers_alone : {X Y : Type 0} (view : X → Y) (before now : ℕ) (r : Result X Fault) (IsFirst IsAnswer : Result Y Fault → Type 0)
    → ((a : Result Y Fault) → IsFirst a → IsAnswer a) → HoldsOrMemory view r IsFirst → FolderAnswers view before now r IsAnswer
answers_alone view before now (Ok x) IsFirst IsAnswer f given = f (Ok (view x)) given
answers_alone view before now (Err e) IsFirst IsAnswer f given =
    unless_from e (IsFirst (Err e)) (IsStopped before now e ⊎ IsAnswer (Err e)) (λ first. inr (f (Err e) first)) given

-- what was held at first, told later
pub held_before : (old new : List ℕ → Option (List ℕ) → Type 0) (name told : List ℕ) (r : Result (List ℕ) Fault) → TellsSame old new → told ≡ name → IsFileReading new told r → IsFileReading old name r
held_before old new name told (Ok bytes) same is h = (same name (Some bytes)).1 (subst (λ (n : List ℕ). new n (Some bytes)) is h)
held_before old new name told (Err e) same is h = ((same name None).1 (subst (λ (n : List ℕ). new n None) is h.0), h.1)

-- there is no CURRENT
pub no_current : (tells : List ℕ → Option (List ℕ) → Type 0) (e : Fault) → IsFileReading tells (codes "CURRENT") (Err e) → IsOpened tells (Err e)
no_current tells e h = (Err e, (h, refl))

-- CURRENT is of another form
pub no_number : (tells : List ℕ → Option (List ℕ) → Type 0) (current : List ℕ) (e : Fault) → IsFileReading tells (codes "CURRENT") (Ok current) → IsNumberAnswer current (Err e) → IsOpened tells (Err e)
no_number tells current e one h = (Ok current, (one, (Err e, (h, refl))))

-- the manifest isn't there
pub no_manifest : (tells : List ℕ → Option (List ℕ) → Type 0) (current : List ℕ) (number : ℕ) (e : Fault) → IsFileReading tells (codes "CURRENT") (Ok current) → IsNumberAnswer current (Ok number)
    → IsFileReading tells (manifest_name number) (Err e) → IsOpened tells (Err e)
no_manifest tells current number e one two h = (Ok current, (one, (Ok number, (two, (Err e, (h, refl))))))

-- the manifest is there, and its bytes answer
pub manifest_answers : (tells : List ℕ → Option (List ℕ) → Type 0) (current : List ℕ) (number : ℕ) (bytes : List ℕ) → IsFileReading tells (codes "CURRENT") (Ok current) → IsNumberAnswer current (Ok number)
    → IsFileReading tells (manifest_name number) (Ok bytes) → (a : Result (Order × State) Fault) → IsManifestAnswer number bytes a → IsOpened tells a
manifest_answers tells current number bytes one two three a h = (Ok current, (one, (Ok number, (two, (Ok bytes, (three, h))))))
