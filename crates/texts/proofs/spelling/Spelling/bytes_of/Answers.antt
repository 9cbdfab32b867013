use Rattle.std.proofs.Common.{rules}
use Rattle.texts.proofs.spelling.Spelling.bytes_of.Goals as goal

pub returns-in-Text : goal.returns-in-Text
returns-in-Text c = search rules
