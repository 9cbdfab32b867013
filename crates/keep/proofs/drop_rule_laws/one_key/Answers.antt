use Rattle.keep.proofs.Dropped.{one_key_law}
use Rattle.keep.proofs.drop_rule_laws.one_key.Goals as goal

pub returns : goal.returns
returns g c = one_key_law g.C.Comparator.cmp
