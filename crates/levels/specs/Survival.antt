-- What a crash leaves of compactions of levels, of a folder that tells what it holds or not.
use Rattle.std.specs.List.{All}
use Rattle.std.specs.Prelude.{IfOk, List, Ok, OnOk, Result, [], unwrap_or}
use Rattle.std.specs.Prelude.{ℕ, ◌<◌, ◌^◌, ◌∷◌, ◌≡◌, ◌⊎◌}
use Rattle.edit.specs.Version.{IsState, State}
use Rattle.edit.specs.declared.meta.NewFile.{NewFile}
use Rattle.edit.specs.fault.Fault.{Fault}
use Rattle.reads.specs.Lawful.{IsBelowNextFile}
use Rattle.folder.specs.Calls.{Files, Step}
use Rattle.folder.specs.Crash.{LeavesOnly, World}
use Rattle.folder.specs.declared.folder.Folder.{Ghosts}
use Rattle.install.specs.ReadsOf.{NamedVersion, Reads, Stands}
use Rattle.compact.specs.declared.settings.Settings.{Settings}
use Rattle.store.specs.Cleaning.{CleanTeller, named_version}
use Rattle.store.specs.FolderRequest.{manifest_of}
use Rattle.store.specs.OpenedAfter.{IsOpenedAfter}
use Rattle.store.specs.declared.compaction_step.CompactionStep.{CompactionStep}
use Rattle.levels.specs.DescentRuns.{AreLinksMade, DescentLink}
use Rattle.levels.specs.LevelMade.{At, IsLevelMadeBy, Way}
use Rattle.levels.specs.declared.descent_end.DescentEnd.{DescentEnd}
use Rattle.levels.specs.declared.selection.Selection.{Selection}

-- What a compaction asks of a version, so that its edit makes another one: each number is below
-- next file. The rest holds of each version that was opened.
pub record IsNumbered (v : State) : Type 0 where
  pub state : IsState v.pointers v.files
  pub below : All (λ (f : NewFile). IsBelowNextFile v.next_file f.meta.number) v.files
  pub log : unwrap_or v.log_number 0 < 2 ^ 64
  pub previous : unwrap_or v.previous_log 0 < 2 ^ 64

-- a version of a folder, with its tables
pub record HeldVersion : Type 0 where
  pub named : NamedVersion
  pub tables : List (ℕ × List ℕ)

-- the files read as it; the folder stands for it after these calls
abbrev pub ReadsHeld : HeldVersion → Files → Type 0
ReadsHeld v files = Reads v.named v.tables files

abbrev pub StandsHeld : HeldVersion → World → List Step → Type 0
StandsHeld v start calls = Stands v.named v.tables start calls

-- between these calls, a crash leaves one of the two versions
abbrev pub LeavesEither : HeldVersion → HeldVersion → World → List Step → List Step → Type 0
LeavesEither v next start before after =
    LeavesOnly start before after (λ files. ReadsHeld v files ⊎ ReadsHeld next files)

-- the edit of the step makes the next version, of which another compaction can be made
abbrev pub IsNextBy : NamedVersion → NamedVersion → CompactionStep → Type 0
IsNextBy v next step = IsNumbered next.version × IsOpenedAfter v.order v.version step.edit.items
    (Ok (next.order, next.version, next.manifest))

-- What a compaction of a level leaves of a folder that stands for a version. A crash at any moment
-- leaves it or a next one. At Ok the folder stands for the next one, which the step's edit makes.
-- No matter what reads of the folder gave.
abbrev pub LevelsSurvive : {F : Type 0} → Ghosts F → Type 0
LevelsSurvive {F = F} g = (selection : Selection) (level : ℕ) (s : Settings) (v : HeldVersion)
    (old new : F) (result : Result CompactionStep Fault) (start : World) →
    IsNumbered v.named.version →
    IsLevelMadeBy selection g v.named.order v.named.version level s old new result →
    StandsHeld v start (g.calls old) → (next : HeldVersion)
    × LeavesEither v next start (g.calls old) (g.calls new)
    × OnOk result (StandsHeld next start (g.calls new)) × IfOk result (IsNextBy v.named next.named)

-- A compaction in a row of them that was told, and the removal after it: before it was told, a
-- crash leaves the version before or the next one; from then on the next one, for which the folder
-- stands.
pub record IsLinkSurvived {F W : Type 0} (g : Ghosts F) (v next : HeldVersion) (start : World)
    (at : At F W) (l : DescentLink F W) : Type 0 where
  pub is_next : next.named ≡ named_version v.named.order l.next (manifest_of v.named.version)
  pub leaves : LeavesEither v next start (g.calls at.folder) (g.calls l.installed.folder)
  pub installed : StandsHeld next start (g.calls l.installed.folder)
  pub stays : LeavesOnly start (g.calls l.installed.folder) (g.calls l.after.folder)
      (ReadsHeld next)
  pub stands : StandsHeld next start (g.calls l.after.folder)

-- Compactions in a row, and what was done after them: a crash leaves the version that they leave,
-- or a next one. If anything was told of that, the folder stands for the next one.
abbrev pub AreSurvived : {F W : Type 0} → Ghosts F → HeldVersion → World → At F W → At F W →
    List (DescentLink F W) → Type 0
AreSurvived g v start at end [] = (next : HeldVersion)
    × LeavesEither v next start (g.calls at.folder) (g.calls end.folder)
    × ((end.told ≡ at.told) ⊎ StandsHeld next start (g.calls end.folder))
AreSurvived g v start at end (l ∷ links) = (next : HeldVersion)
    × IsLinkSurvived g v next start at l × AreSurvived g next start l.after end links

-- So each step that was told is durable, whatever comes after it.
abbrev pub DescentsSurvive : {F W : Type 0} → Ghosts F → CleanTeller W → Type 0
DescentsSurvive {F = F} {W = W} g by = (way : Way) (v : HeldVersion) (at end : At F W)
    (result : Result DescentEnd Fault) (links : List (DescentLink F W)) (start : World) →
    v.named.order ≡ way.order → IsNumbered v.named.version →
    AreLinksMade g by way v.named.version at end result links →
    StandsHeld v start (g.calls at.folder) → AreSurvived g v start at end links
