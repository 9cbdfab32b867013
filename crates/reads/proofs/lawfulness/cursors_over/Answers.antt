use Rattle.std.proofs.Common.{Bor, List, map, ap, sym, ◌∙◌, arith}
use Rattle.std.proofs.lemmas.List.{take_all}
use Rattle.table.specs.EncodedEntry.{Entry}
use Rattle.ikey.proofs.Binds.{ok_is}
use Rattle.table.specs.TableContents.{Contents}
use Rattle.reads.proofs.Answers.{list_more}
use Rattle.reads.proofs.lawfulness.cursors_over.Goals as goal

pub loop-table-preserved : goal.loop-table-preserved
loop-table-preserved g c =
    list_more (λ (t : Bor Contents). t.now.entries) c.loop-table.cursors.items c.push.new.self.items c.in_ok-new.field-0 c.args.tables.now c.loop-table.table-index c.table-item.result c.loop-table-test.true c.table-item.is
    c.in_ok-push.ensures.items c.loop-table.invariant (sym (ok_is _ _ c.in_ok-new.ensures))

pub returns-clause-cursors : goal.returns-clause-cursors
returns-clause-cursors g c =
    let entries : Bor Contents → List Entry = λ t. t.now.entries in
    c.loop-table.invariant ∙ ap (map entries) (take_all c.loop-table.table-index c.args.tables.now (omega arith))
