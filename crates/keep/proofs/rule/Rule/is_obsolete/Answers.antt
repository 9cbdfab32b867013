use Rattle.std.proofs.Common.{rules}
use Rattle.keep.proofs.rule.Rule.is_obsolete.Goals as goal

pub returns-then-is_below_all : goal.returns-then-is_below_all
returns-then-is_below_all g c = search rules
