-- A walk over the kept entries of runs.
use Rattle.std.specs.Prelude.{ℕ, nat_eq, ◌==◌, if◌then◌else◌, List}
use Rattle.std.specs.Prelude.{Option, Some, None}
use Rattle.std.specs.List.{common_prefix_len}
use Rattle.block.specs.EncodedEntry.{Entry}

-- the key before the next entry, if there is one, and the entries still to come
pub record EntryWalkView : Type 0 where
  pub before : Option (List ℕ)
  pub rest : List Entry

-- how many bytes a key shares with the one before it, if there is one
abbrev pub shared_with_before : Option (List ℕ) → List ℕ → ℕ
shared_with_before None key = 0
shared_with_before (Some before) key = common_prefix_len nat_eq before key

-- How many bytes of its key an entry leaves out: none if a restart points at it, which is so if no
-- entry comes after the last whole interval.
abbrev pub left_out_len : ℕ → Option (List ℕ) → List ℕ → ℕ
left_out_len since before key = if since == 0 then 0 else shared_with_before before key
