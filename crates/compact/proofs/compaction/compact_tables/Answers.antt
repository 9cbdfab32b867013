use Rattle.std.proofs.Common.{Result, subst}
use Rattle.ikey.specs.fault.Fault.{Fault}
use Rattle.ikey.specs.Answers.{EqualOrMemory}
use Rattle.compact.specs.OneThread.{Answer}
use Rattle.compact.specs.Request.{RequestView, request_in}
use Rattle.compact.specs.SurvivingReads.{LeavesReads}
use Rattle.compact.specs.AnswerIn.{answer_in}
use Rattle.compact.proofs.Joined.{if_answered}
use Rattle.compact.proofs.compaction.compact_tables.Goals as goal

pub returns : goal.returns
returns g c =
    let cmp = g.C.Comparator.cmp in
    let r : RequestView = request_in c.args.request.now in
    record {
      same = subst (λ (a : Result Answer Fault). EqualOrMemory answer_in c.written.result a) c.in_ok-merged.ensures.merged c.written.ensures;
      leaves_reads = if_answered answer_in (LeavesReads cmp r) c.written.result c.in_ok-merged.merged c.written.ensures c.in_ok-merged.ensures.leaves_reads;
    }
