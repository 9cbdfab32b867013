use Rattle.logrec.specs.LogReader.{records_of}
use Rattle.folder.proofs.ManifestReadings.{Leads}
use Rattle.folder.proofs.manifest_version.test_log.Given as goal

-- the records that are left are the last ones of all
abbrev pub invariant-loop : goal.invariant-loop
invariant-loop l = Leads (records_of l.bytes) l.records.ahead

abbrev pub decreases-loop : goal.decreases-loop
decreases-loop l = l.records.left
