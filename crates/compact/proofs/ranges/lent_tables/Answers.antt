use Rattle.std.proofs.Common.{Bor, List, map, ap, refl, ◌∙◌, arith}
use Rattle.std.proofs.lemmas.List.{take_all}
use Rattle.table.specs.EncodedEntry.{Entry}
use Rattle.table.specs.TableContents.{Contents}
use Rattle.reads.proofs.Answers.{entries_more}
use Rattle.compact.proofs.ranges.lent_tables.Goals as goal

pub loop-table-preserved : goal.loop-table-preserved
loop-table-preserved g c =
    entries_more (λ (t : Bor Contents). t.now.entries) (λ (t : Contents). t.entries) c.loop-table.lent.items c.push.new.self.items _ c.args.tables.now c.loop-table.table-index c.table-item.result c.loop-table-test.true c.table-item.is
    c.in_ok-push.ensures.items c.loop-table.invariant refl

pub returns-clause-tables : goal.returns-clause-tables
returns-clause-tables g c =
    let entries : Contents → List Entry = λ t. t.entries in
    c.loop-table.invariant ∙ ap (map entries) (take_all c.loop-table.table-index c.args.tables.now (omega arith))
