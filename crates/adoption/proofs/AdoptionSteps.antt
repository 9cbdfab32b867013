-- The steps of an adoption, as parts of a call.
use Rattle.std.proofs.Common.{◌≡◌, ◌⊎◌, ℕ, List, Result, Ok, Err, IfOk, refl, inl, inr, codes}
use Rattle.edit.proofs.Refusals.{only_memory, unless_from}
use Rattle.edit.specs.Answers.{FailsOrMemory, HoldsOrMemory, IsThen, UnlessMemory, fault}
use Rattle.edit.specs.fault.Fault.{Fault}
use Rattle.edit.specs.fault.FaultName.TheVariants.{Device, Memory}
use Rattle.edit.specs.Comparator.{KeyOrder}
use Rattle.edit.specs.Edit.{Edit}
use Rattle.edit.specs.Version.{State}
use Rattle.folder.proofs.OpeningLemmas.{held_before}
use Rattle.folder.specs.Calls.{Files, Tells, ToldFiles}
use Rattle.folder.specs.Folder.{TellsSame}
use Rattle.folder.specs.OpenAnswer.{FolderAnswers, IsStopped}
use Rattle.folder.specs.ReadsAs.{IsFileIn}
use Rattle.folder.specs.declared.folder.Folder.{Ghosts}
use Rattle.store.proofs.Flow.{loaded_in, no_refusal}
use Rattle.store.specs.InputsCompaction.{input_numbers}
use Rattle.adoption.specs.Adoption.{Adoption, IsEditGiven, IsGiven}
use Rattle.adoption.specs.BothFolders.{AnswersFrom, HasEitherFailed}

-- what has a value is refused as Memory alone
pub never_refused : {Y : Type 0} (y : Y) (e : Fault) → FailsOrMemory e (Ok y) → e ≡ fault Memory
never_refused {Y = Y} y e h = only_memory e (Ok y ≡ Err e) (no_refusal y e) h

-- the answer of a step after one that had this value
pub holds_behind : {X Y B : Type 0} (view : X → B) (r : Result X Fault) (IsFirst : Result Y Fault → Type 0) (IsNext : Y → Result B Fault → Type 0) (a : Y) → IsFirst (Ok a) → HoldsOrMemory view r (IsNext a) → HoldsOrMemory view r (IsThen IsFirst IsNext)
holds_behind view (Ok x) IsFirst IsNext a h given = (Ok a, (h, given))
holds_behind view (Err e) IsFirst IsNext a h given = unless_from e (IsNext a (Err e)) (IsThen IsFirst IsNext (Err e)) (λ next. (Ok a, (h, next))) given

pub ok_with : {T E : Type 0} (r : Result T E) (P Q : T → Type 0) → ((x : T) → P x → Q x) → IfOk r P → IfOk r Q
ok_with (Ok x) P Q f h = f x h
ok_with (Err e) P Q f h = tt

-- ---- two folders

module _ {F G X Y B : Type 0} (view : X → B) (f : Ghosts F) (g : Ghosts G) (one one_now : F) (other other_now : G) where
  -- after a value that one folder gave the other answers
  pub both_behind : (r : Result X Fault) (IsFirst : Result Y Fault → Type 0) (IsNext : Y → Result B Fault → Type 0) (a : Y) → IsFirst (Ok a) → FolderAnswers view (f.failed one) (f.failed one_now) r (IsNext a)
      → AnswersFrom view (HasEitherFailed f g one one_now other other_now) r (IsThen IsFirst IsNext)
  both_behind (Ok x) IsFirst IsNext a h given = (Ok a, (h, given))
  both_behind (Err e) IsFirst IsNext a h given =
      unless_from e (IsStopped (f.failed one) (f.failed one_now) e ⊎ IsNext a (Err e)) (((e ≡ fault Device) × HasEitherFailed f g one one_now other other_now) ⊎ IsThen IsFirst IsNext (Err e))
      (λ s. elim s [ inl stopped ↦ inl (stopped.0, inl stopped.1) | inr found ↦ inr (Ok a, (h, found)) ]) given

  -- what one folder refuses is refused
  pub both_refused : (e : Fault) (IsTold IsFirst : Result Y Fault → Type 0) (IsNext : Y → Result B Fault → Type 0) → (IsTold (Err e) → IsFirst (Err e)) → UnlessMemory e (IsStopped (g.failed other) (g.failed other_now) e ⊎ IsTold (Err e))
      → UnlessMemory e (((e ≡ fault Device) × HasEitherFailed f g one one_now other other_now) ⊎ IsThen IsFirst IsNext (Err e))
  both_refused e IsTold IsFirst IsNext held given =
      unless_from e (IsStopped (g.failed other) (g.failed other_now) e ⊎ IsTold (Err e)) (((e ≡ fault Device) × HasEitherFailed f g one one_now other other_now) ⊎ IsThen IsFirst IsNext (Err e))
      (λ s. elim s [ inl stopped ↦ inl (stopped.0, inr stopped.1) | inr found ↦ inr (Err e, (held found, refl)) ]) given

-- what a folder that tells files gives is what they hold
told_in : (tells : ToldFiles) (files : Files) → Tells tells files → TellsSame (IsFileIn files) tells
told_in tells files h name held = ((h name held).1, (h name held).0)

edit_held : (tells : ToldFiles) (files : Files) (r : Result Edit Fault) → Tells tells files → IsEditGiven tells r → IsEditGiven (IsFileIn files) r
edit_held tells files r h (Err e, (held, is)) = (Err e, (held_before (IsFileIn files) tells (codes "EDIT") (codes "EDIT") (Err e) (told_in tells files h) refl held, is))
edit_held tells files r h (Ok bytes, (held, is)) = (Ok bytes, (held_before (IsFileIn files) tells (codes "EDIT") (codes "EDIT") (Ok bytes) (told_in tells files h) refl held, is))

pub given_held : (cmp : KeyOrder) (v : State) (tells : ToldFiles) (files : Files) (r : Result (Adoption × List (ℕ × List ℕ)) Fault) → Tells tells files → IsGiven cmp tells v r → IsGiven cmp (IsFileIn files) v r
given_held cmp v tells files r h (Err e, (edit, is)) = (Err e, (edit_held tells files (Err e) h edit, is))
given_held cmp v tells files r h (Ok e, (edit, (Err f, (adoption, is)))) = (Ok e, (edit_held tells files (Ok e) h edit, (Err f, (adoption, is))))
given_held cmp v tells files r h (Ok e, (edit, (Ok a, (adoption, (Err f, (loaded, is)))))) =
    (Ok e, (edit_held tells files (Ok e) h edit, (Ok a, (adoption, (Err f, (loaded_in tells files (input_numbers a.outputs) (Err f) h loaded, is))))))
given_held cmp v tells files r h (Ok e, (edit, (Ok a, (adoption, (Ok tables, (loaded, is)))))) =
    (Ok e, (edit_held tells files (Ok e) h edit, (Ok a, (adoption, (Ok tables, (loaded_in tells files (input_numbers a.outputs) (Ok tables) h loaded, is))))))
