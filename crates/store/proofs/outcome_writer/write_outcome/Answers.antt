use Rattle.compact.specs.AnswerIn.{answer_in}
use Rattle.store.proofs.WholeOutcomes.{whole_after, whole_or_absent}
use Rattle.store.proofs.outcome_writer.write_outcome.Goals as goal

pub returns-clause-whole : goal.returns-clause-whole
returns-clause-whole g c apart start absent =
    let calls = g.F.Folder.calls in
    let tells = g.F.Folder.tells in
    let a = c.args.folder.now in
    let b = c.write_files.new.folder in
    whole_or_absent (answer_in c.args.outcome.now) apart start (calls a) (calls b) (tells a) (tells b) c.write_files.result absent c.write_files.ensures.runs

pub returns-clause-kept : goal.returns-clause-kept
returns-clause-kept g c apart start absent =
    let calls = g.F.Folder.calls in
    let tells = g.F.Folder.tells in
    let a = c.args.folder.now in
    let b = c.write_files.new.folder in
    whole_after (answer_in c.args.outcome.now) apart start (calls a) (calls b) (tells a) (tells b) c.write_files.result absent c.write_files.ensures.runs
