-- The order of internal keys.
use Rattle.std.specs.Prelude.{ℕ, List}
use Rattle.std.specs.declared.cmp.Ordering.{Ordering}
use Rattle.std.specs.Ordering.{nat_cmp, ordering_then}
use Rattle.ikey.specs.Key.{user_of, sequence_of, kind_of, kind_number}
use Rattle.ikey.specs.Comparator.{KeyOrder}

-- internal keys by user key rising, then sequence falling, then type falling
unfoldable pub internal_cmp : KeyOrder → List ℕ → List ℕ → Ordering
internal_cmp cmp a b = ordering_then (cmp (user_of a) (user_of b))
    (ordering_then (nat_cmp (sequence_of b) (sequence_of a))
    (nat_cmp (kind_number (kind_of b)) (kind_number (kind_of a))))
