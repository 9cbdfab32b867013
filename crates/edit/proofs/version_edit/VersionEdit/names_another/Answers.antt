use Rattle.std.proofs.Common.{rules}
use Rattle.edit.proofs.version_edit.VersionEdit.names_another.Goals as goal

pub returns-in-Some : goal.returns-in-Some
returns-in-Some g c = search rules
