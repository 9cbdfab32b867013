use Rattle.std.proofs.Common.{Bor, List, map, ap, sym, ◌∙◌, arith}
use Rattle.std.proofs.lemmas.List.{take_all}
use Rattle.table.specs.EncodedEntry.{Entry}
use Rattle.table.specs.TableContents.{Contents}
use Rattle.reads.specs.declared.level_file.LevelFile.{LevelFile}
use Rattle.reads.specs.Tables.{table_entries}
use Rattle.reads.proofs.Answers.{entries_are, entries_more}
use Rattle.reads.proofs.lawfulness.tables_of.Goals as goal

pub loop-file-preserved : goal.loop-file-preserved
loop-file-preserved g c =
    let tables = c.args.tables.now in
    let file = c.file-item.result in
    entries_more (λ (t : Bor Contents). t.now.entries) (λ (f : LevelFile). table_entries tables f.meta.now.number) c.loop-file.found.items c.push.new.self.items c.in-Some.table c.args.files.now c.loop-file.file-index file c.loop-file-test.true c.file-item.is
    c.in_ok-push.ensures.items c.loop-file.invariant (sym (entries_are tables file.meta.now.number c.in-Some.table.now (sym c.in-Some.ensures)))

pub returns-clause-tables : goal.returns-clause-tables
returns-clause-tables g c =
    let entries : LevelFile → List Entry = λ f. table_entries c.args.tables.now f.meta.now.number in
    c.loop-file.invariant ∙ ap (map entries) (take_all c.loop-file.file-index c.args.files.now (omega arith))
