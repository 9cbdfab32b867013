use Rattle.std.proofs.Common.{◌≡◌, ℕ, Option, subst}
use Rattle.std.specs.Global.{Vec}
use Rattle.std.specs.Prelude.{IfSome}
use Rattle.logrec.specs.LogReader.{records_of, with_first}
use Rattle.folder.proofs.ManifestReadings.{leads_on}
use Rattle.folder.proofs.manifest_version.test_log.Goals as goal

pub loop-preserved-in-Some : goal.loop-preserved-in-Some
loop-preserved-in-Some c =
    let old = c.loop.records.ahead in
    let new = c.next.new.self.ahead in
    leads_on (records_of c.args.bytes.now) old new c.in-Some.field-0.items (subst (λ (o : Option (Vec ℕ)). IfSome o (λ r. old ≡ with_first r.items new)) c.in-Some.is c.in_ok-next.ensures.read) c.loop.invariant
