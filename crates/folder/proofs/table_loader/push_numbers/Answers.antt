use Rattle.std.proofs.Common.{Bor}
use Rattle.edit.specs.declared.meta.FileMeta.{FileMeta}
use Rattle.folder.proofs.LoadingLemmas.{numbers_more}
use Rattle.folder.proofs.table_loader.push_numbers.Goals as goal

pub loop-file-preserved : goal.loop-file-preserved
loop-file-preserved c =
    numbers_more (λ (f : Bor FileMeta). f.now.number) c.args.files.now c.loop-file.file-index c.file-item.result c.args.numbers.now.items c.loop-file.numbers.items c.push.new.self.items
    c.loop-file-test.true c.file-item.is c.in_ok-push.ensures.items c.loop-file.invariant
