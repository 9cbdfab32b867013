use Rattle.std.proofs.Common.{rules}
use Rattle.ikey.proofs.shortlex.ShortlexComparator.compare.Goals as goal

pub returns : goal.returns
returns c = search rules
