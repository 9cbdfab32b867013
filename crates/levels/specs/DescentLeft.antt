-- What compactions of one level after the other leave of a folder, if files that the version
-- doesn't need are removed after each.
use Rattle.std.specs.Prelude.{Err, IfErr, List, None, Ok, OnOk, Option, Result, Some}
use Rattle.std.specs.Prelude.{[], length, ℕ, ◌++◌, ◌∷◌, ◌≡◌, ◌≤◌, ◌⊎◌}
use Rattle.edit.specs.Answers.{UnlessMemory}
use Rattle.edit.specs.Version.{State}
use Rattle.edit.specs.fault.Fault.{Fault}
use Rattle.folder.specs.Calls.{Files, Tells}
use Rattle.folder.specs.OpenAnswer.{IsStopped}
use Rattle.folder.specs.Orders.{order_cmp}
use Rattle.folder.specs.ReadsAs.{ReadsAs, ReadsBy}
use Rattle.folder.specs.declared.order.Order.{Order}
use Rattle.install.specs.FolderChange.{FolderCall, IsUntouched}
use Rattle.install.specs.Install.{LoadedVersion, next_with, version_with}
use Rattle.keep.specs.Tables.{NumberedContents}
use Rattle.checks.specs.LawfulTables.{IsLawfulTables}
use Rattle.store.specs.Cleaning.{NamedVersion}
use Rattle.store.specs.Descent.{IsBottom, IsNextLevel}
use Rattle.store.specs.Compaction.{AnswersAs, IsUnchanged}
use Rattle.store.specs.FolderRequest.{manifest_of}
use Rattle.store.specs.OrderView.{order_view}
use Rattle.store.specs.Outcome.{IsTestAnswer}
use Rattle.store.specs.Step.{StepView}
use Rattle.levels.specs.LevelLeft.{SelectedCompaction}
use Rattle.levels.specs.LevelMade.{IsRefusedSo, Way}
use Rattle.levels.specs.declared.descent_end.DescentEnd.{DescentEnd}
use Rattle.levels.specs.declared.descent_end.DescentEnd.TheVariants.{AtBottom}

-- a compaction in a row of them: its level, its step, and the version and the tables that it leaves
pub record CompactionLink : Type 0 where
  pub level : ℕ
  pub step : StepView
  pub left : LoadedVersion

-- It is a compaction of this version with these tables, of the first level above the bottom that
-- has a file. What it leaves is its edited version.
pub record IsLink (way : Way) (v : LoadedVersion) (l : CompactionLink) : Type 0 where
  pub next_level : IsNextLevel v.version way.bottom (Some l.level)
  pub compacted : SelectedCompaction way.selection (order_view way.order) v l.level way.settings
      l.step
  pub left_is : l.left ≡ next_with (order_cmp way.order) compacted.edited.next compacted.outputs
      v.tables

-- compactions, each of the version and the tables that the one before it leaves
abbrev pub AreLinked : Way → LoadedVersion → List CompactionLink → Type 0
AreLinked way v [] = Unit {0}
AreLinked way v (l ∷ links) = IsLink way v l × AreLinked way l.left links

-- a version of a folder, with its tables and the number of its manifest
pub record FolderVersion : Type 0 where
  pub loaded : LoadedVersion
  pub manifest : ℕ

abbrev pub folder_version : State → ℕ → List (ℕ × List ℕ) → FolderVersion
folder_version v manifest tables =
    record { loaded = version_with v tables; manifest = manifest }

-- the version that a compaction of this one leaves, by the manifest that it made
abbrev pub left_by : FolderVersion → CompactionLink → FolderVersion
left_by v l = record { loaded = l.left; manifest = manifest_of v.loaded.version }

-- the version after compactions, each of the one before it
abbrev pub last_left : FolderVersion → List CompactionLink → FolderVersion
last_left v [] = v
last_left v (l ∷ links) = last_left (left_by v l) links

-- files that read as this version, or as one that compactions leave
abbrev pub ReadsAsOneOf : Order → LoadedVersion → List CompactionLink → Files → Type 0
ReadsAsOneOf order v [] files = ReadsAs (order_cmp order) order v.version v.tables files
ReadsAsOneOf order v (l ∷ links) files =
    ReadsAs (order_cmp order) order v.version v.tables files ⊎ ReadsAsOneOf order l.left links files

-- the compaction of the next level is refused so
pub record IsNextLevelRefused (way : Way) (v : FolderVersion) (e : Fault) : Type 0 where
  pub level : ℕ
  pub next_level : IsNextLevel v.loaded.version way.bottom (Some level)
  pub refused : IsRefusedSo way.selection way.order v.loaded level way.settings e

-- What compactions leave of a folder that reads as a version, lawful with its tables, if a removal
-- follows each. They were made one after the other, and at most one more was begun.
-- - Without a crash the folder reads as one of these, and at Ok as the last one.
-- - The version after those that were made is lawful, and answers as the first one.
-- - At Ok none is begun.
-- - Else the device failed, or the next compaction is refused.
pub record IsDescended (way : Way) (v : FolderVersion) (tables : List NumberedContents)
    (call : FolderCall) (result : Result DescentEnd Fault) : Type 0 where
  pub links : List CompactionLink
  pub begun : List CompactionLink
  pub chain : AreLinked way v.loaded (links ++ begun)
  pub few : length begun ≤ 1
  pub none : OnOk result (begun ≡ [])
  pub files_now : Files
  pub holds : Tells call.change.new files_now
  pub read : ReadsAsOneOf way.order v.loaded (links ++ begun) files_now
  pub reads_last : OnOk result (ReadsBy (order_cmp way.order) way.order
      (last_left v links).loaded.version (last_left v links).manifest
      (last_left v links).loaded.tables files_now)
  pub answers : AnswersAs (order_cmp way.order) way.settings v.loaded.version tables
      (last_left v links).loaded
  pub refused : IfErr result (λ e. UnlessMemory e (IsStopped call.failed call.now e
      ⊎ IsNextLevelRefused way (last_left v links) e))

-- The version passed the test, if one was asked for. If it is lawful, as it is after a test,
-- compactions were made of it.
pub record IsPassedLeft (way_to : ℕ → Way) (test : Option ℕ) (v : NamedVersion) (files : Files)
    (call : FolderCall) (result : Result DescentEnd Fault) : Type 0 where
  pub passed : IsTestAnswer test files (order_cmp v.order) v.version (Ok tt)
  pub bottom : ℕ
  pub is_bottom : IsBottom v.version bottom
  pub descended : (loaded : List (ℕ × List ℕ)) (tables : List NumberedContents) →
      ReadsAs (order_cmp v.order) v.order v.version loaded files →
      IsLawfulTables (order_cmp v.order) v.version loaded (Ok tables) →
      IsDescended (way_to bottom) (folder_version v.version v.manifest loaded) tables call result

-- What is left of a folder that opens as a version by the manifest of a number, of which all levels
-- are compacted. Nothing was changed or told: the test is refused, or the device failed. Or no file
-- is above the bottom, so that nothing was tested, changed or told. Or compactions were made.
abbrev pub IsAllLevelsLeft : {W : Type 0} → (ℕ → Way) → Option ℕ → NamedVersion → Files →
    FolderCall → W → W → Result DescentEnd Fault → Type 0
IsAllLevelsLeft way_to test v files call told told_now result =
    (IsUnchanged call.change result × (told_now ≡ told)
    × IfErr result (λ e. UnlessMemory e (IsStopped call.failed call.now e
    ⊎ IsTestAnswer test files (order_cmp v.order) v.version (Err e))))
    ⊎ (((bottom : ℕ) × IsBottom v.version bottom × IsNextLevel v.version bottom None
    × IsUntouched call.change told told_now × (result ≡ Ok AtBottom))
    ⊎ IsPassedLeft way_to test v files call result)
