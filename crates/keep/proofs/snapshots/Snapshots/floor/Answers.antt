use Rattle.std.proofs.Common.{rules}
use Rattle.keep.proofs.snapshots.Snapshots.floor.Goals as goal

pub returns-in-From : goal.returns-in-From
returns-in-From c = search rules
