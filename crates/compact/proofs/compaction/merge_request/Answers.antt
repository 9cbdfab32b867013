use Rattle.std.proofs.Common.{◌∙◌}
use Rattle.compact.specs.Request.{request_in}
use Rattle.compact.proofs.compaction.merge_request.Goals as goal

pub returns-clause-leaves_reads : goal.returns-clause-leaves_reads
returns-clause-leaves_reads g c answer h = c.reads_survive.ensures (request_in c.args.request.now) answer (c.in_ok-runs.ensures.merged ∙ h)
