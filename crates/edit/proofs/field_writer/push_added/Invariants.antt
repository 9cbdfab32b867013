use Rattle.std.proofs.Common.{◌≤◌, drop}
use Rattle.edit.specs.Field.{AddFile}
use Rattle.edit.specs.declared.meta.NewFile.{NewFile}
use Rattle.edit.proofs.Written.{Writes}
use Rattle.edit.proofs.field_writer.push_added.Given as goal

abbrev pub invariant-loop-file : goal.invariant-loop-file
invariant-loop-file l = Writes AddFile (λ (file : NewFile). file.level ≤ 6) l.added l.fn.out.items l.out.items (drop l.file-index l.added)
