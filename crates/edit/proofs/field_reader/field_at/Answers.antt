use Rattle.std.proofs.Common.{rules}
use Rattle.edit.specs.FieldReader.{field_at}
use Rattle.edit.proofs.field_reader.field_at.Goals as goal

pub returns-in_default-listed : goal.returns-in_default-listed
unfolding field_at
returns-in_default-listed c = search rules
