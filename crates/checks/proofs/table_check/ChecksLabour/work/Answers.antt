use Rattle.board.proofs.CollectedAnswers.{work_gives, work_refuses}
use Rattle.checks.proofs.TableRounds.{some_answer}
use Rattle.checks.proofs.table_check.ChecksLabour.work.Goals as goal

pub returns-clause-ok : goal.returns-clause-ok
returns-clause-ok g c =
    let a = some_answer g.C.Comparator.cmp c.args.self.now.loaded.now c.args.job c.requires in
    work_gives (λ t. t) _ c.args.job a.0 a.1 c.check_at.result (c.check_at.ensures a.0 a.1)

pub returns-clause-err : goal.returns-clause-err
returns-clause-err g c =
    let a = some_answer g.C.Comparator.cmp c.args.self.now.loaded.now c.args.job c.requires in
    work_refuses (λ t. t) _ c.args.job a.0 a.1 c.check_at.result (c.check_at.ensures a.0 a.1)
