-- The ranges of user keys between boundaries.
use Rattle.std.specs.Prelude.{◌≡◌, ◌≢◌, ℕ, zero, suc, ◌<◌, ◌≤◌, List, length, Option, None}
use Rattle.std.specs.Prelude.{slice_get}
use Rattle.std.specs.Option.{option_map, ForSome}
use Rattle.std.specs.declared.cmp.Ordering.TheVariants.{Less}
use Rattle.table.specs.Comparator.{KeyOrder}
use Rattle.split.specs.declared.range.Range.{Range}

-- the first user key that may be in a range, and the first after it
pub record KeyRange : Type 0 where
  pub lower : Option (List ℕ)
  pub upper : Option (List ℕ)

abbrev pub key_range : Range → KeyRange
key_range range = record {
  lower = option_map (λ key. key.now) range.lower;
  upper = option_map (λ key. key.now) range.upper;
}

-- the boundary before range i; none for the first range
abbrev pub boundary_before : List (List ℕ) → ℕ → Option (List ℕ)
boundary_before boundaries zero = None
boundary_before boundaries (suc i) = slice_get boundaries i

-- range i: at or after boundary i - 1, and before boundary i
abbrev pub range_at : List (List ℕ) → ℕ → KeyRange
range_at boundaries i =
    record { lower = boundary_before boundaries i; upper = slice_get boundaries i }

-- the user key is at or after the lower bound, and before the upper bound, if there are these
pub record IsIn (cmp : KeyOrder) (range : KeyRange) (key : List ℕ) : Type 0 where
  pub from : ForSome range.lower (λ lower. cmp key lower ≢ Less)
  pub before : ForSome range.upper (λ upper. cmp key upper ≡ Less)

-- the user key is in exactly one range
pub record LiesInOne (cmp : KeyOrder) (boundaries : List (List ℕ)) (key : List ℕ) : Type 0 where
  pub number : ℕ
  pub below : number ≤ length boundaries
  pub within : IsIn cmp (range_at boundaries number) key
  pub only : (other : ℕ) → other ≤ length boundaries → IsIn cmp (range_at boundaries other) key →
      other ≡ number

-- the ranges between boundaries hold each user key once, in order
pub record IsCover (cmp : KeyOrder) (boundaries : List (List ℕ)) : Type 0 where
  pub each_once : (key : List ℕ) → LiesInOne cmp boundaries key
  pub in_order : (i j : ℕ) (key later : List ℕ) → i < j → j ≤ length boundaries
      → IsIn cmp (range_at boundaries i) key → IsIn cmp (range_at boundaries j) later →
      cmp key later ≡ Less
