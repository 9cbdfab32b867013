-- Which calls the compactions of all levels make on a folder, be it one that tells what it holds or
-- not, if files that the version doesn't need are removed after each; and what is told.
use Rattle.std.specs.Prelude.{Bool, IfOk, List, None, Ok, Result, Some, [], false, true, ℕ}
use Rattle.std.specs.Prelude.{◌∷◌, ◌≡◌, ◌⊎◌}
use Rattle.edit.specs.Version.{State}
use Rattle.edit.specs.fault.Fault.{Fault}
use Rattle.folder.specs.Reports.{OnlyReads}
use Rattle.folder.specs.declared.folder.Folder.{Ghosts}
use Rattle.install.specs.FolderChange.{IsUntouched, change_of}
use Rattle.store.specs.Cleaning.{CleanTeller, IsCleaned, named_version}
use Rattle.store.specs.Compaction.{IsUnchanged}
use Rattle.store.specs.Descent.{IsBottom, IsNextLevel}
use Rattle.store.specs.FolderRequest.{manifest_of}
use Rattle.store.specs.OpenedAfter.{IsOpenedAfter}
use Rattle.store.specs.Step.{step_in}
use Rattle.store.specs.declared.compaction_step.CompactionStep.{CompactionStep}
use Rattle.levels.specs.LevelMade.{At, IsLevelMade, IsLevelMadeBy, Way, at_by}
use Rattle.levels.specs.declared.descent_end.DescentEnd.{DescentEnd}
use Rattle.levels.specs.declared.descent_end.DescentEnd.TheVariants.{AtBottom, Stopped}

-- A compaction in a row of them, and the removal after it: its level, its step, and the version
-- that it leaves; the folder, and who is told, as they are after each of the two.
pub record DescentLink (F W : Type 0) : Type 0 where
  pub level : ℕ
  pub step : CompactionStep
  pub installed : At F W
  pub next : State
  pub after : At F W

-- It is a compaction of the first level above the bottom that has a file. Its step was told, and
-- told to go on. Its edit makes the next version.
pub record IsLinkInstalled {F W : Type 0} (g : Ghosts F) (by : CleanTeller W) (way : Way)
    (v : State) (at : At F W) (l : DescentLink F W) : Type 0 where
  pub next_level : IsNextLevel v way.bottom (Some l.level)
  pub run : IsLevelMadeBy way.selection g way.order v l.level way.settings at.folder
      l.installed.folder (Ok l.step)
  pub told_step : by.installs at.told (step_in l.step) true l.installed.told
  pub edited : IsOpenedAfter way.order v l.step.edit.items (Ok (way.order, l.next, manifest_of v))

-- the removal after it
abbrev pub IsLinkCleaned : {F T W : Type 0} → Ghosts F → CleanTeller W → Way → State →
    DescentLink F W → (Bool → T → Type 0) → Result T Fault → Type 0
IsLinkCleaned g by way v l IsAsTold result = IsCleaned by (named_version way.order l.next
    (manifest_of v)) (change_of g l.installed.folder l.after.folder) l.installed.told l.after.told
    IsAsTold result

-- it was told to go on
abbrev pub IsGoing : Bool → Unit {0} → Type 0
IsGoing goes u = goes ≡ true

-- it stopped, as it was told to
abbrev pub IsStopTold : Bool → DescentEnd → Type 0
IsStopTold goes end = (end ≡ Stopped) × (goes ≡ false)

-- These compactions and removals were made, each of the version and in the folder that the one
-- before it leaves, and after them at most one more compaction:
-- - no further one was begun; at Ok no file is above the bottom;
-- - or the last one was refused, or told to stop, and no removal follows;
-- - or its removal was refused, or told to stop.
abbrev pub AreLinksMade : {F W : Type 0} → Ghosts F → CleanTeller W → Way → State → At F W →
    At F W → Result DescentEnd Fault → List (DescentLink F W) → Type 0
AreLinksMade {F} {W} g by way v at end result [] =
    (IsUntouched (change_of g at.folder end.folder) at.told end.told
    × IfOk result (λ e. (e ≡ AtBottom) × IsNextLevel v way.bottom None))
    ⊎ (((level : ℕ) × IsNextLevel v way.bottom (Some level)
    × IsLevelMade g by.installs way v level at end IsStopTold result)
    ⊎ ((link : DescentLink F W) × (link.after ≡ end) × IsLinkInstalled g by way v at link
    × IsLinkCleaned g by way v link IsStopTold result))
AreLinksMade g by way v at end result (l ∷ links) = IsLinkInstalled g by way v at l
    × IsLinkCleaned g by way v l IsGoing (Ok tt)
    × AreLinksMade g by way l.next l.after end result links

-- compactions of one level after the other were made, with a removal after each
abbrev pub IsDescentRun : {F W : Type 0} → Ghosts F → CleanTeller W → Way → State → At F W →
    At F W → Result DescentEnd Fault → Type 0
IsDescentRun {F = F} {W = W} g by way v at end result =
    (links : List (DescentLink F W)) × AreLinksMade g by way v at end result links

-- No call that writes was made, and nothing told. Or the folder was only read at first, and then
-- compactions were made.
abbrev pub IsAllLevelsRun : {F W : Type 0} → Ghosts F → CleanTeller W → (ℕ → Way) → State →
    At F W → At F W → Result DescentEnd Fault → Type 0
IsAllLevelsRun {F = F} g by way_to v at end result =
    (IsUnchanged (change_of g at.folder end.folder) result × (end.told ≡ at.told))
    ⊎ ((bottom : ℕ) × IsBottom v bottom × (read : F) × OnlyReads g at.folder read
    × IsDescentRun g by (way_to bottom) v (at_by read at.told) end result)
