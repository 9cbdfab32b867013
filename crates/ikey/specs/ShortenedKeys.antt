-- Short internal keys between two internal keys, and above one.
use Rattle.std.specs.Prelude.{ℕ, nat_lt, ◌&&◌, if◌then◌else◌, List, length}
use Rattle.std.specs.Ordering.{is_eq, is_lt}
use Rattle.ikey.specs.declared.kind.Kind.TheVariants.{Put}
use Rattle.ikey.specs.declared.key.TheConstants.{MAX_SEQUENCE}
use Rattle.ikey.specs.Key.{user_of, internal_key}
use Rattle.ikey.specs.Comparator.{KeyOrder}

-- short with the greatest sequence and type 1, if short is shorter than the user key and greater;
-- else the key
unfoldable pub shortened_key : KeyOrder → List ℕ → List ℕ → List ℕ
shortened_key cmp key short =
    if nat_lt (length short) (length (user_of key)) && is_lt (cmp (user_of key) short)
    then internal_key short MAX_SEQUENCE Put else key

-- a if the user keys are equal, else a shortened by the separator of the user keys
unfoldable pub internal_separator_of : KeyOrder → (List ℕ → List ℕ → List ℕ) → List ℕ → List ℕ →
    List ℕ
internal_separator_of cmp separator_of a b =
    if is_eq (cmp (user_of a) (user_of b)) then a else shortened_key cmp a
    (separator_of (user_of a) (user_of b))

-- the key shortened by the successor of its user key
unfoldable pub internal_successor_of : KeyOrder → (List ℕ → List ℕ) → List ℕ → List ℕ
internal_successor_of cmp successor_of key = shortened_key cmp key (successor_of (user_of key))
