use Rattle.std.proofs.Common.{◌≡◌, ℕ, List, Ok}
use Rattle.logrec.specs.LogReader.{records_of}
use Rattle.folder.proofs.ManifestReadings.{OrderSoFar}
use Rattle.folder.proofs.manifest_version.order_in.Given as goal

-- the records so far read as edits, and this is the order of their first name
abbrev pub invariant-loop-encoded : goal.invariant-loop-encoded
invariant-loop-encoded l = (rs : List (List ℕ)) → records_of l.bytes ≡ Ok rs → OrderSoFar rs l.records.ahead l.named

abbrev pub decreases-loop-encoded : goal.decreases-loop-encoded
decreases-loop-encoded l = l.records.left
