use Rattle.edit.specs.Edit.{edit_in}
use Rattle.edit.proofs.Edits.{only_edit}
use Rattle.edit.proofs.version_edit.VersionEdit.decode.Goals as goal

pub returns-clause-only : goal.returns-clause-only
returns-clause-only c = only_edit edit_in c.args.bytes.now c.read.result c.read.ensures.found c.read.ensures.refused
