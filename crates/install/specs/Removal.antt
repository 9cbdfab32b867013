-- The removal of files: its calls, who is told of them, and what they leave of a version.
use Rattle.std.specs.Prelude.{ℕ, List, [], ◌∷◌, ◌++◌, map, Result}
use Rattle.edit.specs.fault.Fault.{Fault}
use Rattle.edit.specs.Comparator.{KeyOrder}
use Rattle.edit.specs.Version.{State}
use Rattle.folder.specs.Calls.{Call, Done, Files, FolderSynced, Removed, Step, Tells}
use Rattle.folder.specs.CallSequence.{MakesCalls}
use Rattle.folder.specs.Crash.{LeavesOnly, World}
use Rattle.folder.specs.ReadsAs.{ReadsBy}
use Rattle.folder.specs.declared.order.Order.{Order}
use Rattle.install.specs.Install.{AlwaysStandsBy}
use Rattle.install.specs.ToldNames.{AreTold}
use Rattle.install.specs.FolderChange.{FolderChange}

-- each file is removed, and then the folder is synced; no call is made if there is no file
abbrev pub removal_calls : List (List ℕ) → List Call
removal_calls [] = []
removal_calls (name ∷ names) = map Removed (name ∷ names) ++ FolderSynced ∷ []

-- the names that steps removed, in their order
abbrev pub removed_by : List Step → List (List ℕ)
removed_by [] = []
removed_by (Done (Removed name) ∷ steps) = name ∷ removed_by steps
removed_by (step ∷ steps) = removed_by steps

-- The calls were made in their order, up to one that failed. Each file that they removed was told.
pub record IsToldRemoval {W T E : Type 0} (tells : W → List ℕ → W → Type 0) (calls : List Call)
    (change : FolderChange) (told told_now : W) (result : Result T E) : Type 0 where
  pub runs : MakesCalls calls change.before change.after change.old change.new result
  pub told_all : AreTold tells told (removed_by runs.steps) told_now

-- Files of names like these were removed, up to a call that failed, and then the folder was synced.
pub record AreRemoved {W T : Type 0} (tells : W → List ℕ → W → Type 0)
    (AreSo : List (List ℕ) → Type 0) (change : FolderChange) (told told_now : W)
    (result : Result T Fault) : Type 0 where
  pub removed : List (List ℕ)
  pub obsolete : AreSo removed
  pub run : IsToldRemoval tells (removal_calls removed) change told told_now result

-- What calls that remove files leave of a version with these tables, by the manifest that CURRENT
-- names.
pub record StaysAs (cmp : KeyOrder) (order : Order) (v : State) (manifest : ℕ)
    (tables : List (ℕ × List ℕ)) (change : FolderChange) : Type 0 where
  -- if the folder stands for it, a crash at any moment leaves it
  pub any_moment : (start : World) →
      AlwaysStandsBy cmp order v manifest tables start change.before →
      LeavesOnly start change.before change.after (ReadsBy cmp order v manifest tables)
  -- then the folder stands for it after the calls
  pub stands : (start : World) →
      AlwaysStandsBy cmp order v manifest tables start change.before →
      AlwaysStandsBy cmp order v manifest tables start change.after
  -- without a crash the folder reads as it
  pub read : (files : Files) → Tells change.old files → ReadsBy cmp order v manifest tables files →
      (now : Files) × Tells change.new now × ReadsBy cmp order v manifest tables now
