use Rattle.std.proofs.Common.{length}
use Rattle.refusals.proofs.unlawful_version.sequences_in.Given as goal

abbrev pub decreases-loop-user : goal.decreases-loop-user
decreases-loop-user g l = length l.cursor
