use Rattle.folder.proofs.ReportLemmas.{reads_then}
use Rattle.session.proofs.filter_blocks.have_filter.Goals as goal

pub loop-file-preserved : goal.loop-file-preserved
loop-file-preserved g c = reads_then c.loop-file.invariant c.has_filter.ensures.reads
