use Rattle.std.proofs.Common.{ℕ, List, Result, ap, subst, ◌∙◌}
use Rattle.ikey.specs.Answers.{EqualOrMemory}
use Rattle.ikey.specs.fault.Fault.{Fault}
use Rattle.reads.specs.Tables.{NumberedContents}
use Rattle.checks.specs.TableReadings.{numbered_reading}
use Rattle.checks.proofs.TableRounds.{answer_is}
use Rattle.checks.proofs.table_check.check_at.Goals as goal

pub returns : goal.returns
returns g c =
    let cmp = g.C.Comparator.cmp in
    let t = c.index-loaded-job.result in
    λ answer at. subst (λ (a : Result NumberedContents Fault). EqualOrMemory (λ t. t) c.check_table.result a)
    (ap (λ (bytes : List ℕ). numbered_reading cmp (t.0, bytes)) c.deref.ensures.value ∙ answer_is cmp c.args.loaded.now c.args.job t answer c.requires c.index-loaded-job.is at)
    c.check_table.ensures
