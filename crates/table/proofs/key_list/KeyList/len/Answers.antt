use Rattle.std.proofs.Common.{length, ap, arith}
use Rattle.table.proofs.KeyLists.{counted}
use Rattle.table.proofs.key_list.KeyList.len.Goals as goal

pub returns : goal.returns
returns c =
    omega (arith, ap length c.as_slice.ensures.value, counted 0 c.self.inside.ends.items c.self.inside.bytes.items, ap length c.self.view_is)
