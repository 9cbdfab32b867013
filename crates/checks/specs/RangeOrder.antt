-- What a walk over one range of user keys finds.
use Rattle.std.specs.Prelude.{ℕ, List, Option, Some, None}
use Rattle.std.specs.Prelude.{if◌then◌else◌}
use Rattle.std.specs.Ordering.{is_lt}
use Rattle.ikey.specs.Comparator.{KeyOrder}
use Rattle.split.specs.Ranges.{KeyRange}

-- the later of two lower bounds
abbrev pub later_bound : KeyOrder → Option (List ℕ) → Option (List ℕ) → Option (List ℕ)
later_bound cmp None two = two
later_bound cmp (Some first) None = Some first
later_bound cmp (Some first) (Some second) = if is_lt (cmp first second) then Some second else Some
    first

-- the earlier of two upper bounds
abbrev pub earlier_bound : KeyOrder → Option (List ℕ) → Option (List ℕ) → Option (List ℕ)
earlier_bound cmp None two = two
earlier_bound cmp (Some first) None = Some first
earlier_bound cmp (Some first) (Some second) = if is_lt (cmp first second) then Some first else Some
    second

-- what two ranges have in common
abbrev pub common_of : KeyOrder → KeyRange → KeyRange → KeyRange
common_of cmp one two = record {
  lower = later_bound cmp one.lower two.lower;
  upper = earlier_bound cmp one.upper two.upper;
}
