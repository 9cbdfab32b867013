-- The answers of a folder's tables, step by step.
use Rattle.std.proofs.Common.{◌≡◌, ◌⊎◌, ℕ, ◌≤◌, List, Option, Result, Ok, Err, IfErr, IsErrAnd, refl, sym, ap, ◌∙◌, arith}
use Rattle.std.specs.declared.cmp.Ordering.{Ordering}
use Rattle.table.proofs.Refusals.{unless_from, only_memory}
use Rattle.table.proofs.Binds.{done, failed}
use Rattle.table.specs.Answers.{EqualOrMemory, HoldsOrMemory, UnlessMemory}
use Rattle.table.specs.fault.Fault.{Fault}
use Rattle.edit.specs.Version.{State}
use Rattle.folder.proofs.OpeningLemmas.{answers_alone, answers_since, hands_on}
use Rattle.folder.specs.Calls.{Files}
use Rattle.folder.specs.Levels.{file_numbers}
use Rattle.folder.specs.LoadedTables.{IsLoaded}
use Rattle.folder.specs.OpenAnswer.{FolderAnswers, HasDeviceFailed, IsOpened, IsStopped}
use Rattle.folder.specs.ReadsAs.{IsFileIn}
use Rattle.folder.specs.declared.order.Order.{Order}
use Rattle.checks.specs.Tables.{NumberedContents}
use Rattle.checks.specs.LawfulTables.{IsLawfulTables}
use Rattle.checks.specs.TestedTables.{IsTested, totals_of}
use Rattle.checks.specs.declared.version_totals.VersionTotals.{VersionTotals}
use Rattle.folder.specs.Orders.{order_cmp}
use Rattle.answers.specs.FolderLines.{IsAnswerOfFolder, IsAnswerOfVersion}

no_refusal : {Y : Type 0} (y : Y) (e : Fault) → done y ≡ failed e → ⊥
no_refusal y e h = cc

no_answer : {Y : Type 0} (y : Y) (e : Fault) → failed e ≡ done y → ⊥
no_answer y e h = cc

same_answer : {Y : Type 0} (x y : Y) → done x ≡ done y → x ≡ y
same_answer x y h = cc

-- a refusal of one type as that of another
same_refusal : {Y Z : Type 0} (e d : Fault) → failed {A = Y} e ≡ failed d → failed {A = Z} e ≡ failed d
same_refusal {Z = Z} e d h = let one : e ≡ d = cc in ap (λ (f : Fault). failed {A = Z} f) one

-- what a call answers alone is its answer
pub answer_holds : {X Y : Type 0} (view : X → Y) (r : Result X Fault) (y : Y)
    → EqualOrMemory view r (Ok y) → HoldsOrMemory view r (λ a. a ≡ Ok y)
answer_holds view (Ok x) y given = sym given
answer_holds view (Err e) y given =
    unless_from e (Ok y ≡ failed e) (failed e ≡ Ok y) (λ same. absurd (no_refusal y e same)) given

-- it is refused for Memory alone
pub answer_device : {X Y : Type 0} (view : X → Y) (before now : ℕ) (r : Result X Fault) (y : Y)
    → EqualOrMemory view r (Ok y) → IfErr r (HasDeviceFailed before now)
answer_device view before now (Ok x) y given = tt
answer_device view before now (Err e) y given =
    let memory = only_memory e (Ok y ≡ failed e) (no_refusal y e) given in
    λ same. let is = sym (ap (λ (f : Fault). f.name) memory) ∙ same in absurd cc

-- the refusal of a call whose definition answers a value
pub value_refused : {X Y Z : Type 0} (view : X → Y) (before now : ℕ) (r : Result X Fault) (e : Fault) (z : Z) (y : Y) → IsErrAnd r (λ f. f ≡ e) → before ≤ now → UnlessMemory e (IsStopped before now e ⊎ (failed e ≡ done z))
    → FolderAnswers view before now r (λ a. a ≡ Ok y)
value_refused view before now r e z y is later given =
    hands_on view before before now r e (λ a. a ≡ done z) (λ a. a ≡ done y) is (omega arith) later given (λ same. absurd (no_refusal z e (sym same)))

-- what is made of a value alone
pub value_told : {X Y : Type 0} (view : X → Y) (before now : ℕ) (r : Result X Fault) (y : Y) → EqualOrMemory view r (Ok y) → FolderAnswers view before now r (λ a. a ≡ Ok y)
value_told view before now r y h = answers_alone view before now r (λ a. a ≡ done y) (λ a. a ≡ done y) (λ a same. same) (answer_holds view r y h)

-- the folder isn't opened
pub not_opened : {Y : Type 0} (tells : List ℕ → Option (List ℕ) → Type 0) (answer_of : State → List NumberedContents → Y) (e : Fault) → IsOpened tells (Err e) → IsAnswerOfFolder tells answer_of (Err e)
not_opened tells answer_of e h = (Err e, (h, refl))

-- it is
pub opened_as : {Y : Type 0} (tells : List ℕ → Option (List ℕ) → Type 0) (answer_of : State → List NumberedContents → Y) (order : Order) (v : State) → IsOpened tells (Ok (order, v))
    → (a : Result Y Fault) → IsAnswerOfVersion tells (order_cmp order) v (answer_of v) a → IsAnswerOfFolder tells answer_of a
opened_as tells answer_of order v opened a h = (Ok (order, v), (opened, h))

-- ---- of files that the folder tells

module _ {X Y : Type 0} (view : X → Y) (before middle now : ℕ) (r : Result X Fault) (files : Files) (one : before ≤ middle) (two : middle ≤ now) where
  -- the folder is opened, and then the version answers
  pub opened_answer : (order : Order) (v : State) (answer_of : State → List NumberedContents → Y) → IsOpened (IsFileIn files) (Ok (order, v))
      → FolderAnswers view middle now r (IsAnswerOfVersion (IsFileIn files) (order_cmp order) v (answer_of v)) → FolderAnswers view before now r (IsAnswerOfFolder (IsFileIn files) answer_of)
  opened_answer order v answer_of opened given =
      answers_since view before middle now r (IsAnswerOfVersion (IsFileIn files) (order_cmp order) v (answer_of v)) (IsAnswerOfFolder (IsFileIn files) answer_of) (opened_as (IsFileIn files) answer_of order v opened) one two given

  -- the version is tested, and then the answer of its tables is given
  pub tested_answer : (cmp : List ℕ → List ℕ → Ordering) (v : State) (answer_of : List NumberedContents → Y) (tested : VersionTotals) → IsTested (IsFileIn files) cmp v (Ok tested)
      → ((loaded : List (ℕ × List ℕ)) (tables : List NumberedContents) → IsLoaded (IsFileIn files) (file_numbers cmp v) (Ok loaded) → IsLawfulTables cmp v loaded (Ok tables)
      → FolderAnswers view middle now r (λ a. a ≡ Ok (answer_of tables))) → FolderAnswers view before now r (IsAnswerOfVersion (IsFileIn files) cmp v answer_of)
  tested_answer cmp v answer_of tested (Err e, (l, is)) f = absurd (no_refusal tested e is)
  tested_answer cmp v answer_of tested (Ok loaded, (l, (Err e, (k, is)))) f = absurd (no_refusal tested e is)
  tested_answer cmp v answer_of tested (Ok loaded, (l, (Ok tables, (k, is)))) f =
      answers_since view before middle now r (λ a. a ≡ Ok (answer_of tables)) (IsAnswerOfVersion (IsFileIn files) cmp v answer_of) (λ a same. (Ok loaded, (l, (Ok tables, (k, same))))) one two (f loaded tables l k)

-- ---- a version that was tested

module _ (tells : List ℕ → Option (List ℕ) → Type 0) (cmp : List ℕ → List ℕ → Ordering) (v : State) where
  -- what is answered of what the test tells
  pub answer_of_tested : {Y : Type 0} (f : VersionTotals → Y) (t : VersionTotals) → IsTested tells cmp v (Ok t) → IsAnswerOfVersion tells cmp v (λ tables. f (totals_of tables)) (Ok (f t))
  answer_of_tested f t (Ok loaded, (there, (Ok tables, (sound, is)))) =
      (Ok loaded, (there, (Ok tables, (sound, ap (λ (x : VersionTotals). done (f x)) (same_answer t (totals_of tables) is)))))
  answer_of_tested f t (Ok loaded, (there, (Err d, (sound, is)))) = absurd (no_refusal t d is)
  answer_of_tested f t (Err d, (there, is)) = absurd (no_refusal t d is)

  -- its refusal
  pub refused_answer : {Y : Type 0} (answer_of : List NumberedContents → Y) (e : Fault) → IsTested tells cmp v (Err e) → IsAnswerOfVersion tells cmp v answer_of (Err e)
  refused_answer answer_of e (Ok loaded, (there, (Ok tables, (sound, is)))) = absurd (no_answer (totals_of tables) e is)
  refused_answer {Y = Y} answer_of e (Ok loaded, (there, (Err d, (sound, is)))) = (Ok loaded, (there, (Err d, (sound, same_refusal {Y = VersionTotals} {Z = Y} e d is))))
  refused_answer {Y = Y} answer_of e (Err d, (there, is)) = (Err d, (there, same_refusal {Y = VersionTotals} {Z = Y} e d is))
