-- Why an installation has an outcome.
use Rattle.std.specs.Prelude.{◌<◌, ◌^◌, ℕ, List, [], map}
use Rattle.edit.specs.Edit.{Edit, IsEdit}
use Rattle.folder.specs.Calls.{Done}
use Rattle.folder.specs.Crash.{Leads, World}
use Rattle.install.specs.Naming.{manifest_of, naming_calls}
use Rattle.install.specs.ReadsOf.{NamedVersion, Reads}

-- After the calls that name a version by no edit, the folder reads as no version at all.
abbrev pub NothingIsNamed : Type 0
NothingIsNamed = (v : NamedVersion) (e : Edit) (bytes : List ℕ) (start w : World)
    (tables : List (ℕ × List ℕ)) →
    Reads v tables start.shown.files → IsEdit [] e → IsEdit bytes e →
    manifest_of v.version < 2 ^ 64 → Leads start (map Done (naming_calls v bytes)) w →
    (u : NamedVersion) (others : List (ℕ × List ℕ)) → Reads u others w.shown.files → ⊥
