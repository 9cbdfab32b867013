use Rattle.edit.proofs.RisingFiles.{empty_holds}
use Rattle.edit.proofs.version.Version.empty.Goals as goal

pub invariant_of-result : goal.invariant_of-result
invariant_of-result c = empty_holds c.new.result.entries c.new-2.result c.new.ensures.empty c.new-2.ensures
