-- Where a walk is in a chunk.
use Rattle.std.specs.Prelude.{◌≡◌, ℕ, ◌+◌, ◌≤◌, List, [], length}
use Rattle.std.specs.Prelude.{take, drop, slice_get, Option}
use Rattle.std.specs.Option.{option_map}
use Rattle.block.specs.EncodedEntry.{Entry}

-- A slice is the first of the entries from `start` on. The first `passed` of it are passed: all
-- only if no entry comes after it. And `before` is the key of the last passed one.
pub record IsInSlice (start slice : List Entry) (passed : ℕ) (before : Option (List ℕ)) : Type 0
  where
    pub front : take (length slice) start ≡ slice
    pub within : passed ≤ length slice
    pub ended : length slice ≤ passed → drop passed start ≡ []
    pub last : (n : ℕ) → passed ≡ n + 1 → before ≡ option_map (λ e. e.key) (slice_get slice n)
