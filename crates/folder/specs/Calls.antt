-- The calls that write to a folder, and what they change.
use Rattle.std.specs.Prelude.{◌≡◌, ◌⊎◌, ◌↔◌, ℕ, Bool, true, false, if◌then◌else◌, List, [], ◌∷◌}
use Rattle.std.specs.Prelude.{Option, Some, None, Result, Ok, Err}
use Rattle.std.specs.Str.{bytes_eq}
use Rattle.folder.specs.declared.folder.FolderFault.{FolderFault}

-- a call that writes:
-- - a file is made of these bytes;
-- - files are made of these bytes and synced in any order;
-- - a file is synced;
-- - a file is renamed;
-- - a file is removed;
-- - the folder is synced
pub data Call : Type 0 where
  Created : List ℕ → List ℕ → Call
  Written : List (List ℕ × List ℕ) → Call
  Synced : List ℕ → Call
  Renamed : List ℕ → List ℕ → Call
  Removed : List ℕ → Call
  FolderSynced : Call

-- a call that was done, or one that failed or was under way when a crash came
pub data Step : Type 0 where
  Done : Call → Step
  Tried : Call → Step

-- the step of a call, by its answer
abbrev pub step_of : {T : Type 0} → Call → Result T FolderFault → Step
step_of call (Ok _) = Done call
step_of call (Err _) = Tried call

-- the bytes under each name, None for no file
abbrev pub Files : Type 0
Files = List ℕ → Option (List ℕ)

-- the same, but x at this name
abbrev pub with_value : {A : Type 0} → (List ℕ → A) → List ℕ → A → List ℕ → A
with_value of name x other = if bytes_eq other name then x else of other

-- what was at the first name is at the second, and nothing is left at the first
abbrev pub with_moved : {A : Type 0} → A → (List ℕ → A) → List ℕ → List ℕ → List ℕ → A
with_moved nothing of from to = with_value (with_value of from nothing) to (of from)

-- a folder as it is read: its files, and which names were synced since they got their bytes
pub record FolderView : Type 0 where
  pub files : Files
  pub synced : List ℕ → Bool

abbrev pub with_contents : FolderView → List ℕ → Option (List ℕ) → FolderView
with_contents s name held =
    record { files = with_value s.files name held; synced = with_value s.synced name false }

abbrev pub with_synced : FolderView → List ℕ → FolderView
with_synced s name = record { files = s.files; synced = with_value s.synced name true }

abbrev pub with_renamed : FolderView → List ℕ → List ℕ → FolderView
with_renamed s from to =
    record { files = with_moved None s.files from to; synced = with_moved false s.synced from to }

-- the same, but these files are there with their bytes, and were synced since
abbrev pub with_written : FolderView → List (List ℕ × List ℕ) → FolderView
with_written s [] = s
with_written s (file ∷ files) =
    with_written (with_synced (with_contents s file.0 (Some file.1)) file.0) files

-- the same, but each of these files has any bytes or is missing
abbrev pub AreTorn : List (List ℕ × List ℕ) → FolderView → FolderView → Type 0
AreTorn [] s next = next ≡ s
AreTorn (file ∷ files) s next = (held : Option (List ℕ))
    × AreTorn files (with_contents s file.0 held) next

-- What a step changes if no crash comes. A call that failed may have made a file of any bytes or
-- none, or each of several files so, or renamed one or not, or removed one or not.
abbrev pub Shows : Step → FolderView → FolderView → Type 0
Shows (Done (Created name bytes)) s next = next ≡ with_contents s name (Some bytes)
Shows (Tried (Created name bytes)) s next = (held : Option (List ℕ))
    × (next ≡ with_contents s name held)
Shows (Done (Written files)) s next = next ≡ with_written s files
Shows (Tried (Written files)) s next = AreTorn files s next
Shows (Done (Renamed from to)) s next = next ≡ with_renamed s from to
Shows (Tried (Renamed from to)) s next = (next ≡ s) ⊎ (next ≡ with_renamed s from to)
Shows (Done (Removed name)) s next = next ≡ with_contents s name None
Shows (Tried (Removed name)) s next = (next ≡ s) ⊎ (next ≡ with_contents s name None)
Shows (Done (Synced name)) s next = next ≡ with_synced s name
Shows (Tried (Synced name)) s next = next ≡ s
Shows (Done FolderSynced) s next = next ≡ s
Shows (Tried FolderSynced) s next = next ≡ s

-- what a folder tells of its files: which bytes are under a name, None for no file
abbrev pub ToldFiles : Type 1
ToldFiles = List ℕ → Option (List ℕ) → Type 0

-- a folder tells just these files
abbrev pub Tells : ToldFiles → Files → Type 0
Tells tells files = (name : List ℕ) (held : Option (List ℕ)) → tells name held ↔ (files name ≡ held)

-- What a step changes of what a folder tells. Nothing is said of a folder that tells no files.
abbrev pub TellsAfter : Step → ToldFiles → ToldFiles → Type 0
TellsAfter step old new = (s : FolderView) → Tells old s.files →
    (next : FolderView) × Shows step s next × Tells new next.files
