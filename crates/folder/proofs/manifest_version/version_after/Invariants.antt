use Rattle.std.proofs.Common.{◌≡◌, ℕ, List, Ok}
use Rattle.logrec.specs.LogReader.{records_of}
use Rattle.edit.specs.Edit.{Edit}
use Rattle.folder.specs.Manifest.{AreEdits}
use Rattle.folder.proofs.ManifestReadings.{VersionSoFar}
use Rattle.folder.proofs.manifest_version.version_after.Given as goal

-- the edits that are left make of the version so far what all make of the empty one
abbrev pub invariant-loop-version : goal.invariant-loop-version
invariant-loop-version g l =
    (rs : List (List ℕ)) (es : List Edit) → records_of l.bytes ≡ Ok rs → AreEdits rs es → VersionSoFar g.C.Comparator.name_bytes es l.records.ahead l.version

abbrev pub decreases-loop-version : goal.decreases-loop-version
decreases-loop-version g l = l.records.left
