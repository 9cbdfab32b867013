use Rattle.std.proofs.Common.{length}
use Rattle.edit.specs.Edit.{edit_in}
use Rattle.edit.proofs.Edits.{ReadsEdit}
use Rattle.edit.proofs.version_edit.VersionEdit.read.Given as goal

abbrev pub invariant-loop-rest : goal.invariant-loop-rest
invariant-loop-rest l = ReadsEdit l.bytes (edit_in l.edit) l.rest

abbrev pub decreases-loop-rest : goal.decreases-loop-rest
decreases-loop-rest l = length l.rest
