-- An order of user keys, and how it compares them and shortens them.
use Rattle.folder.specs.Comparator.{KeyOrder, ShortKeys}
use Rattle.folder.specs.Orders.{order_cmp, order_short_keys}
use Rattle.folder.specs.declared.order.Order.{Order}

-- the order that a manifest names, with its comparison of two keys and the short keys that it finds
pub record OrderView : Type 0 where
  pub order : Order
  pub cmp : KeyOrder
  pub short_keys : ShortKeys

abbrev pub order_by : Order → KeyOrder → ShortKeys → OrderView
order_by order cmp short_keys = record { order = order; cmp = cmp; short_keys = short_keys }

-- an order with its own comparison and short keys
abbrev pub order_view : Order → OrderView
order_view order = order_by order (order_cmp order) (order_short_keys order)
