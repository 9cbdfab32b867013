use Rattle.std.proofs.Common.{◌≤◌}
use Rattle.edit.specs.Field.{DeleteFile}
use Rattle.edit.specs.declared.meta.DeletedFile.{DeletedFile}
use Rattle.edit.proofs.Written.{Writes}
use Rattle.edit.proofs.field_writer.push_deleted.Given as goal

abbrev pub invariant-loop-file : goal.invariant-loop-file
invariant-loop-file l = Writes DeleteFile (λ (file : DeletedFile). file.level ≤ 6) l.deleted.keys l.fn.out.items l.out.items l.file-iterator
