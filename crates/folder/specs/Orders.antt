-- How an order compares user keys, and shortens them.
use Rattle.std.specs.Prelude.{ℕ, List}
use Rattle.std.specs.declared.cmp.Ordering.{Ordering}
use Rattle.ikey.specs.Comparator.{ShortKeys}
use Rattle.ikey.specs.Bytewise.{bytewise_cmp, bytewise_short_keys}
use Rattle.ikey.specs.Shortlex.{shortlex_cmp, shortlex_short_keys}
use Rattle.folder.specs.declared.order.Order.{Order}
use Rattle.folder.specs.declared.order.Order.TheVariants.{Bytewise, Shortlex}

-- the comparison of two user keys
abbrev pub order_cmp : Order → List ℕ → List ℕ → Ordering
order_cmp Bytewise = bytewise_cmp
order_cmp Shortlex = shortlex_cmp

-- the short keys that it finds
abbrev pub order_short_keys : Order → ShortKeys
order_short_keys Bytewise = bytewise_short_keys
order_short_keys Shortlex = shortlex_short_keys
