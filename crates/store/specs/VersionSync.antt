-- The calls that sync what a version rests on, and the folders for which they make it stand.
use Rattle.std.specs.Prelude.{ℕ, List, [], ◌∷◌, ◌++◌, codes}
use Rattle.std.specs.List.{flat_map}
use Rattle.folder.specs.Comparator.{KeyOrder}
use Rattle.folder.specs.Version.{State}
use Rattle.folder.specs.Calls.{Call, FolderSynced, Step, Synced}
use Rattle.folder.specs.Crash.{Leads, World}
use Rattle.folder.specs.Levels.{file_numbers}
use Rattle.folder.specs.Names.{manifest_name, old_table_name, table_name}
use Rattle.folder.specs.Orders.{order_cmp}
use Rattle.folder.specs.ReadsAs.{ReadsBy}
use Rattle.folder.specs.declared.order.Order.{Order}
use Rattle.install.specs.ReadsOf.{NamedVersion}

-- each table is synced under its name and under its older one
abbrev pub table_syncs : List ℕ → List Call
table_syncs numbers =
    flat_map (λ (number : ℕ). Synced (table_name number) ∷ Synced (old_table_name number) ∷ [])
    numbers

-- The calls that sync a version: CURRENT, the manifest of this number, the version's tables by
-- level and in version order, and then the folder.
abbrev pub sync_calls : KeyOrder → State → ℕ → List Call
sync_calls cmp v manifest =
    Synced (codes "CURRENT") ∷ Synced (manifest_name manifest)
    ∷ (table_syncs (file_numbers cmp v) ++ FolderSynced ∷ [])

abbrev pub syncs_of : NamedVersion → List Call
syncs_of v = sync_calls (order_cmp v.order) v.version v.manifest

-- After these calls from the start, the folder reads as the version and its tables, by this
-- manifest. Nothing is said of what was synced.
abbrev pub AlwaysReadsBy : KeyOrder → Order → State → ℕ → List (ℕ × List ℕ) → World → List Step →
    Type 0
AlwaysReadsBy cmp order v manifest tables start calls = (w : World) → Leads start calls w →
    ReadsBy cmp order v manifest tables w.shown.files
