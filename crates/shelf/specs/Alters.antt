-- What a step makes of files.
use Rattle.std.specs.Prelude.{◌≡◌, ◌⊎◌, ℕ, Bool, if◌then◌else◌, List, [], ◌∷◌, Option, Some, None}
use Rattle.folder.specs.Calls.{Call, Created, Done, Files, FolderSynced, Removed, Renamed, Step}
use Rattle.folder.specs.Calls.{Synced, Tried, Written, with_moved, with_value}

-- these files, but those are there with their bytes
abbrev pub with_files : Files → List (List ℕ × List ℕ) → Files
with_files old [] = old
with_files old (file ∷ files) = with_files (with_value old file.0 (Some file.1)) files

-- the same, but each of these files may have any bytes or be missing
abbrev pub AltersEach : List (List ℕ × List ℕ) → Files → Files → Type 0
AltersEach [] old new = new ≡ old
AltersEach (file ∷ files) old new = AltersEach files old new
    ⊎ ((held : Option (List ℕ)) × AltersEach files (with_value old file.0 held) new)

-- What a step makes of files. A call that failed may have made a file of any bytes or none, or each
-- of several files so, or renamed one or not, or removed one or not.
abbrev pub Alters : Step → Files → Files → Type 0
Alters (Done (Created name bytes)) old new = new ≡ with_value old name (Some bytes)
Alters (Tried (Created name bytes)) old new = (new ≡ old)
    ⊎ ((held : Option (List ℕ)) × (new ≡ with_value old name held))
Alters (Done (Written files)) old new = new ≡ with_files old files
Alters (Tried (Written files)) old new = AltersEach files old new
Alters (Done (Renamed from to)) old new = new ≡ with_moved None old from to
Alters (Tried (Renamed from to)) old new = (new ≡ old) ⊎ (new ≡ with_moved None old from to)
Alters (Done (Removed name)) old new = new ≡ with_value old name None
Alters (Tried (Removed name)) old new = (new ≡ old) ⊎ (new ≡ with_value old name None)
Alters (Done (Synced name)) old new = new ≡ old
Alters (Tried (Synced name)) old new = new ≡ old
Alters (Done FolderSynced) old new = new ≡ old
Alters (Tried FolderSynced) old new = new ≡ old

-- a call that failed, or that was done
abbrev pub tried_if : Bool → Call → Step
tried_if failed call = if failed then Tried call else Done call
