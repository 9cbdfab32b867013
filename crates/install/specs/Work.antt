-- Work on a folder, piece by piece: tables are written, a version is named by a manifest, files are
-- removed. What a crash leaves of it.
use Rattle.std.specs.List.{All, flat_map}
use Rattle.std.specs.Prelude.{◌≡◌, ◌≢◌, ◌⊎◌, ◌+◌, ℕ, List, [], ◌∷◌, ◌++◌, Err, Ok, Result, Some}
use Rattle.edit.specs.Edit.{Edit, IsEdit}
use Rattle.edit.specs.Version.{applied}
use Rattle.edit.specs.fault.Fault.{Fault}
use Rattle.folder.specs.CallSequence.{MakesCalls}
use Rattle.folder.specs.Calls.{Call, Files, Tells}
use Rattle.folder.specs.Crash.{LeavesOnly, World}
use Rattle.folder.specs.Orders.{order_cmp}
use Rattle.folder.specs.declared.folder.Folder.{Ghosts}
use Rattle.install.specs.Install.{table_calls}
use Rattle.install.specs.Naming.{IsNamedEdit, manifest_of, naming_calls, tables_of}
use Rattle.install.specs.ObsoleteFile.{IsObsoleteFile}
use Rattle.install.specs.ReadsOf.{NamedVersion, Reads, Stands}
use Rattle.install.specs.Removal.{removal_calls}

-- what a compaction answers: its tables and its edit (Answer of compact)
pub record Made : Type 0 where
  pub tables : List (ℕ × List ℕ)
  pub edit : List ℕ

-- Where work on a folder is: the version that CURRENT names; the tables of the outcomes that were
-- written since, and their edits, one after the other; how many these are; and the version that
-- they would make.
pub record Place : Type 0 where
  pub now : NamedVersion
  pub tables : List (ℕ × List ℕ)
  pub edits : List ℕ
  pub count : ℕ
  pub next : NamedVersion

abbrev pub place_at : NamedVersion → Place
place_at v = record { now = v; tables = []; edits = []; count = 0; next = v }

-- a piece of work:
-- - the tables of an outcome are written, a group after the other;
-- - the version that outcomes make is named, by bytes that read as their edits do;
-- - files are removed, and the folder is synced
pub data Piece : Type 0 where
  Wrote : Made → List (List (ℕ × List ℕ)) → Piece
  Installed : List ℕ → Piece
  Cleared : List (List ℕ) → Piece

abbrev pub calls_of : Place → Piece → List Call
calls_of p (Wrote a groups) = table_calls groups
calls_of p (Installed bytes) = naming_calls p.now bytes
calls_of p (Cleared names) = removal_calls names

-- what a piece leads to
abbrev pub Goes : Place → Piece → Place → Type 0
Goes p (Wrote a groups) q = IsNamedEdit p.next a.tables a.edit q.next
    × (flat_map (λ (g : List (ℕ × List ℕ)). g) groups ≡ a.tables) × (q.now ≡ p.now)
    × (q.tables ≡ p.tables ++ a.tables)
    × (q.edits ≡ p.edits ++ a.edit) × (q.count ≡ p.count + 1)
Goes p (Installed bytes) q = (e : Edit) × IsEdit p.edits e × IsEdit bytes e
    × (applied p.now.version e ≡ Some p.next.version) × (p.count ≢ 0)
    × (q ≡ place_at (record {
      order = p.now.order;
      version = p.next.version;
      manifest = manifest_of p.now.version;
    }))
Goes p (Cleared names) q = (q ≡ p) × (p.count ≡ 0)
    × All (IsObsoleteFile (order_cmp p.now.order) p.now.version p.now.manifest) names

-- a folder, and where work on it is
pub record At (F : Type 0) : Type 0 where
  pub folder : F
  pub place : Place

abbrev pub begun : {F : Type 0} → F → NamedVersion → At F
begun folder v = record { folder = folder; place = place_at v }

-- a piece of work that was done, and what it led to
pub record WorkLink (F : Type 0) : Type 0 where
  pub piece : Piece
  pub to : At F

-- A piece leads there, and its calls were made, up to one that failed.
pub record IsPieceDone {F : Type 0} (g : Ghosts F) (at : At F) (l : WorkLink F)
    (result : Result (Unit {0}) Fault) : Type 0 where
  pub goes : Goes at.place l.piece l.to.place
  pub runs : MakesCalls (calls_of at.place l.piece) (g.calls at.folder) (g.calls l.to.folder)
      (g.tells at.folder) (g.tells l.to.folder) result

-- Pieces of work were done one after the other, and these calls are theirs. At Ok all were done;
-- else the last one perhaps in part.
abbrev pub IsWorkOn : {F : Type 0} → Ghosts F → At F → At F → Result (Unit {0}) Fault →
    List (WorkLink F) → Type 0
IsWorkOn g at new result [] = new ≡ at
IsWorkOn g at new result (l ∷ []) = IsPieceDone g at l result × (new ≡ l.to)
IsWorkOn g at new result (l ∷ (k ∷ links)) = IsPieceDone g at l (Ok tt)
    × IsWorkOn g l.to new result (k ∷ links)

-- the tables of the version that CURRENT names after a piece, which leads to this one
abbrev pub tables_then : Place → Piece → NamedVersion → List (ℕ × List ℕ) → List (ℕ × List ℕ)
tables_then p (Wrote a groups) v tables = tables
tables_then p (Installed bytes) v tables = tables_of v (p.tables ++ tables)
tables_then p (Cleared names) v tables = tables

-- the same after pieces
abbrev pub tables_after : {F : Type 0} → Place → List (ℕ × List ℕ) → List (WorkLink F) →
    List (ℕ × List ℕ)
tables_after p tables [] = tables
tables_after p tables (l ∷ links) =
    tables_after l.to.place (tables_then p l.piece l.to.place.now tables) links

-- files that read as a version that was named at the beginning or by one of these pieces
abbrev pub ReadsOneOf : {F : Type 0} → Place → List (ℕ × List ℕ) → List (WorkLink F) → Files →
    Type 0
ReadsOneOf p tables [] files = Reads p.now tables files
ReadsOneOf p tables (l ∷ links) files = Reads p.now tables files
    ⊎ ReadsOneOf l.to.place (tables_then p l.piece l.to.place.now tables) links files

-- The work ended in Ok, or in a piece that names no version.
abbrev pub NamesNothing : Piece → Type 0
NamesNothing (Wrote a groups) = Unit {0}
NamesNothing (Installed bytes) = ⊥
NamesNothing (Cleared names) = Unit {0}

abbrev pub IsSettledEnd : {F : Type 0} → Result (Unit {0}) Fault → List (WorkLink F) → Type 0
IsSettledEnd (Ok u) links = Unit {0}
IsSettledEnd (Err e) [] = Unit {0}
IsSettledEnd (Err e) (l ∷ []) = NamesNothing l.piece
IsSettledEnd (Err e) (l ∷ (k ∷ links)) = IsSettledEnd (Err e) (k ∷ links)

-- What work leaves of a folder that stands for a version with these tables: a crash at any moment,
-- and no crash, leaves a version that was named. At Ok it stands for the last one, and if tables
-- couldn't be written or files couldn't be removed.
abbrev pub WorkSurvives : {F : Type 0} → Ghosts F → Type 0
WorkSurvives {F = F} g = (old : F) (new : At F) (v : NamedVersion)
    (tables : List (ℕ × List ℕ))
    (result : Result (Unit {0}) Fault) (links : List (WorkLink F)) (start : World) →
    IsWorkOn g (begun old v) new result links →
    Stands v tables start (g.calls old) →
    LeavesOnly start (g.calls old) (g.calls new.folder) (ReadsOneOf (place_at v) tables links)
    × (IsSettledEnd result links → Stands new.place.now (tables_after (place_at v) tables links)
    start (g.calls new.folder))
    × ((files : Files) → Tells (g.tells old) files → Reads v tables files →
    (now : Files) × Tells (g.tells new.folder) now × ReadsOneOf (place_at v) tables links now)
