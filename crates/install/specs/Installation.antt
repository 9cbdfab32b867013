-- An installation as work: its two pieces, and what a crash leaves of it.
use Rattle.std.specs.List.{flat_map}
use Rattle.std.specs.Prelude.{◌≡◌, ◌⊎◌, ℕ, List, [], ◌∷◌, ◌++◌, Result, IsErr, OnOk}
use Rattle.edit.specs.fault.Fault.{Fault}
use Rattle.folder.specs.CallSequence.{AreMadeBy}
use Rattle.folder.specs.Calls.{Files, Step, Tells}
use Rattle.folder.specs.Crash.{LeavesOnly, World}
use Rattle.folder.specs.declared.folder.Folder.{Ghosts}
use Rattle.install.specs.Install.{install_calls}
use Rattle.install.specs.Naming.{IsNamedEdit, manifest_of, named_bytes, tables_of}
use Rattle.install.specs.ReadsOf.{NamedVersion, Reads, Stands}
use Rattle.install.specs.Work.{Installed, IsWorkOn, Place, WorkLink, Wrote, begun, place_at}

-- where work is after the tables of one outcome, which has these bytes of an edit
abbrev pub place_with : NamedVersion → List (ℕ × List ℕ) → List ℕ → NamedVersion → Place
place_with v tables edit next =
    record { now = v; tables = tables; edits = edit; count = 1; next = next }

-- the tables of that place were written in these groups
abbrev pub tables_link : {F : Type 0} → Place → List (List (ℕ × List ℕ)) → F → WorkLink F
tables_link p groups folder = record {
  piece = Wrote (record { tables = p.tables; edit = p.edits }) groups;
  to = record { folder = folder; place = p };
}

-- its next version was named
abbrev pub naming_link : {F : Type 0} → Place → F → WorkLink F
naming_link p folder = record {
  piece = Installed p.edits;
  to = record { folder = folder; place = place_at p.next };
}

-- An installation is two pieces of work: the tables are written, and then the next version is
-- named. A refusal may come in each of the two.
abbrev pub IsInstallation : {F : Type 0} → Ghosts F → Place → List (List (ℕ × List ℕ)) → F → F →
    Result (Unit {0}) Fault → Type 0
IsInstallation {F = F} g p groups old new result =
    (IsErr result × IsWorkOn g (begun old p.now) (tables_link p groups new).to
    result (tables_link p groups new ∷ []))
    ⊎ ((middle : F) × IsWorkOn g (begun old p.now) (naming_link p new).to result
    (tables_link p groups middle ∷ naming_link p new ∷ []))

-- files that read as the version before or as the next one, each with its manifest
abbrev pub ReadsEither : Place → List (ℕ × List ℕ) → Files → Type 0
ReadsEither p tables files = Reads p.now tables files
    ⊎ Reads p.next (tables_of p.next (p.tables ++ tables)) files

-- If the folder stands for the version before, a crash at any moment of an installation leaves it
-- or the next one. At Ok the folder stands for the next one. Without a crash it reads as one of
-- them.
abbrev pub InstallationSurvives : {F : Type 0} → Ghosts F → Type 0
InstallationSurvives {F = F} g = (p : Place) (groups : List (List (ℕ × List ℕ))) (old new : F)
    (result : Result (Unit {0}) Fault) (tables : List (ℕ × List ℕ)) (start : World) →
    IsInstallation g p groups old new result → Stands p.now tables start (g.calls old) →
    LeavesOnly start (g.calls old) (g.calls new) (ReadsEither p tables)
    × OnOk result (Stands p.next (tables_of p.next (p.tables ++ tables)) start (g.calls new))
    × ((files : Files) → Tells (g.tells old) files → Reads p.now tables files →
    (now : Files) × Tells (g.tells new) now × ReadsEither p tables now)

-- So it is of the calls of an installation alone, made from these steps on, whatever is told.
abbrev pub InstallCallsSurvive : Type 0
InstallCallsSurvive = (v next : NamedVersion) (outputs : List (ℕ × List ℕ)) (edit : List ℕ)
    (groups : List (List (ℕ × List ℕ))) (before steps : List Step)
    (result : Result (Unit {0}) Fault) (tables : List (ℕ × List ℕ)) (start : World) →
    IsNamedEdit v outputs edit next →
    flat_map (λ (g : List (ℕ × List ℕ)). g) groups ≡ outputs →
    AreMadeBy (install_calls (manifest_of v.version) groups (named_bytes v edit)) steps result →
    Stands v tables start before →
    LeavesOnly start before (before ++ steps) (ReadsEither (place_with v outputs edit next) tables)
    × OnOk result (Stands next (tables_of next (outputs ++ tables)) start (before ++ steps))
