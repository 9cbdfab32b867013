use Rattle.ikey.proofs.Ordered.{internal_cmp-total}
use Rattle.ikey.proofs.key.order_is_total.Goals as goal

pub returns : goal.returns
returns g c = internal_cmp-total g.met.C.Comparator.total
