-- What a crash leaves of a compaction, whatever the folder tells.
use Rattle.std.specs.Prelude.{ℕ, List, ◌++◌, map, Result, OnOk}
use Rattle.folder.specs.fault.Fault.{Fault}
use Rattle.folder.specs.Calls.{Done}
use Rattle.folder.specs.Crash.{LeavesOnly, World}
use Rattle.folder.specs.Manifest.{order_name}
use Rattle.folder.specs.Orders.{order_cmp}
use Rattle.folder.specs.declared.folder.Folder.{Ghosts}
use Rattle.compact.specs.OneThread.{Answer}
use Rattle.install.specs.FolderChange.{change_of}
use Rattle.install.specs.Installation.{ReadsEither, place_with}
use Rattle.install.specs.Naming.{IsNamedEdit, tables_of}
use Rattle.install.specs.ReadsOf.{NamedVersion, Stands}
use Rattle.store.specs.Runs.{AreInstallCalls, HasMade}
use Rattle.store.specs.VersionSync.{AlwaysReadsBy, syncs_of}
use Rattle.store.specs.declared.compaction_step.CompactionStep.{CompactionStep}

-- If the folder stands for a version, a crash at any moment of the calls that install an answer
-- leaves it or the next one, each with its manifest. At Ok the folder stands for the next one,
-- which the answer's edit makes (`EditedVersion`).
abbrev pub CompactionsSurvive : {F : Type 0} → Ghosts F → Type 0
CompactionsSurvive {F = F} g = (v next : NamedVersion) (answer : Answer) (old new : F)
    (result : Result CompactionStep Fault) (tables : List (ℕ × List ℕ)) (start : World) →
    AreInstallCalls (order_name v.order) (order_cmp v.order) v.version answer (change_of g old new)
    result → IsNamedEdit v answer.tables answer.edit next → Stands v tables start (g.calls old) →
    LeavesOnly start (g.calls old) (g.calls new)
    (ReadsEither (place_with v answer.tables answer.edit next) tables)
    × OnOk result (Stands next (tables_of next (answer.tables ++ tables)) start (g.calls new))

-- After just the syncs of a version the folder stands for it, if it read as it before.
abbrev pub SyncsStand : {F : Type 0} → Ghosts F → Type 0
SyncsStand {F = F} g = (v : NamedVersion) (first at : F) (tables : List (ℕ × List ℕ))
    (start : World) →
    HasMade g first (map Done (syncs_of v)) at →
    AlwaysReadsBy (order_cmp v.order) v.order v.version v.manifest tables start (g.calls first) →
    Stands v tables start (g.calls at)
