use Rattle.std.proofs.Common.{◌≤◌}
use Rattle.edit.specs.Field.{AddFile}
use Rattle.edit.specs.declared.meta.NewFile.{NewFile}
use Rattle.edit.proofs.Written.{writes_on_at, writes_next_at}
use Rattle.edit.proofs.field_writer.push_added.Goals as goal

abbrev within : NewFile → Type 0
within p = p.level ≤ 6

pub push_file-requires : goal.push_file-requires
push_file-requires c =
    writes_next_at AddFile within c.args.added.now c.args.out.now.items c.loop-file.out.items c.loop-file.file-index c.file-item.result c.loop-file.invariant c.loop-file-test.true c.file-item.is

pub loop-file-preserved : goal.loop-file-preserved
loop-file-preserved c =
    rw c.in_ok-push_file.ensures.ok (writes_on_at AddFile within c.args.added.now c.args.out.now.items c.loop-file.out.items c.loop-file.file-index c.file-item.result c.loop-file.invariant c.loop-file-test.true c.file-item.is c.in_ok-push_file.ensures.lawful)
