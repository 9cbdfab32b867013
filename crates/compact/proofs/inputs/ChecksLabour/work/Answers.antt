use Rattle.std.proofs.Common.{List, [], Result, Ok}
use Rattle.ikey.specs.fault.Fault.{Fault}
use Rattle.table.specs.EncodedEntry.{Entry}
use Rattle.board.proofs.CollectedAnswers.{work_gives, work_refuses}
use Rattle.compact.proofs.InputAnswers.{file_within, table_within, some_answer}
use Rattle.compact.proofs.inputs.ChecksLabour.work.Goals as goal

abbrev none : Result (List Entry) Fault
none = Ok []

pub check_at-requires-clause-files : goal.check_at-requires-clause-files
check_at-requires-clause-files g c = file_within g.C.Comparator.cmp c.args.self.now.files.now (λ t. t.now) c.args.self.now.tables.now c.args.job c.requires

pub check_at-requires-clause-tables : goal.check_at-requires-clause-tables
check_at-requires-clause-tables g c = table_within g.C.Comparator.cmp c.args.self.now.files.now (λ t. t.now) c.args.self.now.tables.now c.args.job c.requires

pub returns-clause-ok : goal.returns-clause-ok
returns-clause-ok g c =
    let a = some_answer g.C.Comparator.cmp c.args.self.now.files.now (λ t. t.now) c.args.self.now.tables.now c.args.job none c.requires in
    work_gives (λ t. t.entries) _ c.args.job a.0 a.1 c.check_at.result (c.check_at.ensures a.0 a.1)

pub returns-clause-err : goal.returns-clause-err
returns-clause-err g c =
    let a = some_answer g.C.Comparator.cmp c.args.self.now.files.now (λ t. t.now) c.args.self.now.tables.now c.args.job none c.requires in
    work_refuses (λ t. t.entries) _ c.args.job a.0 a.1 c.check_at.result (c.check_at.ensures a.0 a.1)
