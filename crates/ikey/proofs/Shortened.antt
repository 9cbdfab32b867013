-- A short key is between, or above, the keys that it was made of, in the order of internal keys.
use Rattle.std.proofs.Common.{◌≡◌, ◌≢◌, ℕ, ◌-◌, ◌^◌, Bool, true, false, ◌&&◌, nat_lt, if◌then◌else◌, List, length, refl, sym, ap, ◌∙◌, arith}
use Rattle.std.specs.declared.cmp.Ordering.{Ordering}
use Rattle.std.specs.declared.cmp.Ordering.TheVariants.{Less, Equal, Greater}
use Rattle.std.specs.Ordering.{nat_cmp, ordering_then, is_eq, is_lt}
use Rattle.std.specs.Cmp.{IsTotalOrder}
use Rattle.std.proofs.lemmas.Cmp.{tied_itself}
use Rattle.ikey.specs.declared.kind.Kind.TheVariants.{Put}
use Rattle.ikey.specs.Comparator.{IsBetween, Separates, Succeeds}
use Rattle.ikey.specs.Key.{user_of, sequence_of, kind_of, kind_number, internal_key, IsInternalKey}
use Rattle.ikey.specs.Order.{internal_cmp}
use Rattle.ikey.specs.ShortenedKeys.{shortened_key, internal_separator_of, internal_successor_of}
use borrow.Author.Tests.{ltb-true}
use Rattle.ikey.proofs.Keys.{IsInternalKey-internal_key, length-user_of, user_of-internal_key}
use Rattle.ikey.proofs.Ordered.{internal_cmp-total, is_lt-true}

-- a lower user key makes a lower internal key
pub internal_cmp-Less : (cmp : List ℕ → List ℕ → Ordering) (a b : List ℕ) → cmp (user_of a) (user_of b) ≡ Less → internal_cmp cmp a b ≡ Less
unfolding internal_cmp
internal_cmp-Less cmp a b h =
    ap (λ o. ordering_then o (ordering_then (nat_cmp (sequence_of b) (sequence_of a)) (nat_cmp (kind_number (kind_of b)) (kind_number (kind_of a))))) h

lower_user : (o rest : Ordering) → ordering_then o rest ≡ Less → is_eq o ≡ false → o ≡ Less
lower_user Less rest h e = refl
lower_user Equal rest h e = absurd (cc)
lower_user Greater rest h e = absurd (cc)

-- of internal keys in order with unequal user keys, the first user key is the lower one
users_rise : (cmp : List ℕ → List ℕ → Ordering) (a b : List ℕ) → internal_cmp cmp a b ≡ Less → is_eq (cmp (user_of a) (user_of b)) ≡ false → cmp (user_of a) (user_of b) ≡ Less
unfolding internal_cmp
users_rise cmp a b h e =
    lower_user (cmp (user_of a) (user_of b)) (ordering_then (nat_cmp (sequence_of b) (sequence_of a)) (nat_cmp (kind_number (kind_of b)) (kind_number (kind_of a)))) h e

module _ (cmp : List ℕ → List ℕ → Ordering) (total : IsTotalOrder cmp) where
  not_above_itself : (a : List ℕ) → internal_cmp cmp a a ≢ Greater
  not_above_itself a e =
      let both : Equal ≡ Greater = sym (tied_itself (internal_cmp-total total) a) ∙ e in cc

  -- the first internal key of a greater user key is above
  raised-above : (key short : List ℕ) → cmp (user_of key) short ≡ Less → internal_cmp cmp key (internal_key short (2 ^ 56 - 1) Put) ≢ Greater
  raised-above key short h e =
      let users : cmp (user_of key) (user_of (internal_key short (2 ^ 56 - 1) Put)) ≡ Less = ap (cmp (user_of key)) (user_of-internal_key short (2 ^ 56 - 1) Put) ∙ h in
      let both : Less ≡ Greater = sym (internal_cmp-Less cmp key (internal_key short (2 ^ 56 - 1) Put) users) ∙ e in
      cc

  raised-below : (short limit : List ℕ) → cmp short (user_of limit) ≡ Less → internal_cmp cmp (internal_key short (2 ^ 56 - 1) Put) limit ≡ Less
  raised-below short limit h =
      internal_cmp-Less cmp (internal_key short (2 ^ 56 - 1) Put) limit
      (ap (λ user. cmp user (user_of limit)) (user_of-internal_key short (2 ^ 56 - 1) Put) ∙ h)

  shortened-above-by : (key short : List ℕ) (shorter lower : Bool) → is_lt (cmp (user_of key) short) ≡ lower → internal_cmp cmp key (if shorter && lower then internal_key short (2 ^ 56 - 1) Put else key) ≢ Greater
  shortened-above-by key short true true e = raised-above key short (is_lt-true (cmp (user_of key) short) e)
  shortened-above-by key short true false e = not_above_itself key
  shortened-above-by key short false lower e = not_above_itself key

  -- a shortened key is not below the key
  pub shortened-above : (key short : List ℕ) → internal_cmp cmp key (shortened_key cmp key short) ≢ Greater
  unfolding shortened_key
  shortened-above key short =
      shortened-above-by key short (nat_lt (length short) (length (user_of key))) (is_lt (cmp (user_of key) short)) refl

  shortened-below-by : (key short limit : List ℕ) (both : Bool) → cmp short (user_of limit) ≡ Less → internal_cmp cmp key limit ≡ Less → internal_cmp cmp (if both then internal_key short (2 ^ 56 - 1) Put else key) limit ≡ Less
  shortened-below-by key short limit true below h = raised-below short limit below
  shortened-below-by key short limit false below h = h

  -- a key shortened by a user key below the limit's stays below the limit
  pub shortened-below : (key short limit : List ℕ) → cmp short (user_of limit) ≡ Less → internal_cmp cmp key limit ≡ Less → internal_cmp cmp (shortened_key cmp key short) limit ≡ Less
  unfolding shortened_key
  shortened-below key short limit below h =
      shortened-below-by key short limit (nat_lt (length short) (length (user_of key)) && is_lt (cmp (user_of key) short)) below h

  separator-by : (separator_of : List ℕ → List ℕ → List ℕ) → Separates cmp separator_of → (a b : List ℕ) (same : Bool) → is_eq (cmp (user_of a) (user_of b)) ≡ same → internal_cmp cmp a b ≡ Less → IsBetween (internal_cmp cmp) a b (if same then a else shortened_key cmp a (separator_of (user_of a) (user_of b)))
  separator-by separator_of law a b true e h = record { at_least = not_above_itself a; below = h }
  separator-by separator_of law a b false e h =
      let short : List ℕ = separator_of (user_of a) (user_of b) in
      let lies : IsBetween cmp (user_of a) (user_of b) (separator_of (user_of a) (user_of b)) = law (user_of a) (user_of b) (users_rise cmp a b h e) in
      record { at_least = shortened-above a short; below = shortened-below a short b lies.below h }

  -- a separator of two internal keys is at least the first and below the second
  pub internal_separator_of-between : (separator_of : List ℕ → List ℕ → List ℕ) → Separates cmp separator_of → Separates (internal_cmp cmp) (internal_separator_of cmp separator_of)
  unfolding internal_separator_of
  internal_separator_of-between separator_of law a b h =
      separator-by separator_of law a b (is_eq (cmp (user_of a) (user_of b))) refl h

  -- a successor of an internal key is at least the key
  pub internal_successor_of-above : (successor_of : List ℕ → List ℕ) → Succeeds (internal_cmp cmp) (internal_successor_of cmp successor_of)
  unfolding internal_successor_of
  internal_successor_of-above successor_of key = shortened-above key (successor_of (user_of key))

lawful_by : (key short : List ℕ) (shorter lower : Bool) → nat_lt (length short) (length (user_of key)) ≡ shorter → IsInternalKey key → IsInternalKey (if shorter && lower then internal_key short (2 ^ 56 - 1) Put else key)
lawful_by key short true true e l =
    let less = ltb-true (length short) (length (user_of key)) e in
    let most = length-user_of key l in
    IsInternalKey-internal_key short (2 ^ 56 - 1) Put (omega arith) (omega arith)
lawful_by key short true false e l = l
lawful_by key short false lower e l = l

-- a shortened key is an internal key
pub IsInternalKey-shortened : (cmp : List ℕ → List ℕ → Ordering) (key short : List ℕ) → IsInternalKey key → IsInternalKey (shortened_key cmp key short)
unfolding shortened_key
IsInternalKey-shortened cmp key short l =
    lawful_by key short (nat_lt (length short) (length (user_of key))) (is_lt (cmp (user_of key) short)) refl l

kept_or : (same : Bool) (a b : List ℕ) → IsInternalKey a → IsInternalKey b → IsInternalKey (if same then a else b)
kept_or true a b la lb = la
kept_or false a b la lb = lb

pub IsInternalKey-internal_separator_of : (cmp : List ℕ → List ℕ → Ordering) (separator_of : List ℕ → List ℕ → List ℕ) (a b : List ℕ) → IsInternalKey a → IsInternalKey (internal_separator_of cmp separator_of a b)
unfolding internal_separator_of
IsInternalKey-internal_separator_of cmp separator_of a b l =
    let short : List ℕ = separator_of (user_of a) (user_of b) in
    kept_or (is_eq (cmp (user_of a) (user_of b))) a (shortened_key cmp a short) l (IsInternalKey-shortened cmp a short l)

pub IsInternalKey-internal_successor_of : (cmp : List ℕ → List ℕ → Ordering) (successor_of : List ℕ → List ℕ) (key : List ℕ) → IsInternalKey key → IsInternalKey (internal_successor_of cmp successor_of key)
unfolding internal_successor_of
IsInternalKey-internal_successor_of cmp successor_of key l = IsInternalKey-shortened cmp key (successor_of (user_of key)) l
