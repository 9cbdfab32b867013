-- A data block that is measured entry by entry, before any of its bytes is made.
use Rattle.std.specs.Prelude.{◌≡◌, ℕ, ◌+◌, ◌-◌, ◌%◌, ◌^◌, ◌≤◌, ◌==◌, ◌&&◌, if◌then◌else◌}
use Rattle.std.specs.Prelude.{List, [], ◌∷◌, ◌++◌, length, take, drop, Option, Some, None}
use Rattle.std.specs.List.{last_or}
use Rattle.std.specs.Option.{is_some, option_map}
use Rattle.coding.specs.Saturated.{saturated}
use Rattle.block.specs.EncodedEntry.{Entry}
use Rattle.block.specs.BlockFormat.{block}
use Rattle.cut.specs.EntryWalkView.{left_out_len}
use Rattle.keep.specs.Sizes.{encoded_entry_size}
use Rattle.block.specs.declared.builder.TheConstants.{MAX_RESTART_INTERVAL}

-- an open data block: its restart interval, its entries, and the entries still to come
pub record BlockInProgress : Type 0 where
  pub interval : ℕ
  pub entries : List Entry
  pub behind : List Entry

-- the open block after n more entries
abbrev pub block_after_entries : ℕ → BlockInProgress → BlockInProgress
block_after_entries n m = record {
  interval = m.interval;
  entries = m.entries
      ++ take n m.behind;
  behind = drop n m.behind;
}

-- The state of the block of these entries: its length, and the number of entries after the last
-- whole interval. There are at most 2 ^ 64 - 1 entries.
pub record IsMetered (interval : ℕ) (entries : List Entry) (len since : ℕ) : Type 0 where
  pub positive : 1 ≤ interval
  pub limited : interval ≤ MAX_RESTART_INTERVAL
  pub len_is : len ≡ saturated (length (block interval entries))
  pub since_is : since ≡ length entries % interval
  pub counted : length entries ≤ 2 ^ 64 - 1

-- the number of entries after the last whole interval, with one entry more
abbrev pub next_since : ℕ → ℕ → ℕ
next_since interval since = if since + 1 == interval then 0 else since + 1

-- the key of the last of these entries; None if there is none
abbrev pub last_entry_key : List Entry → Option (List ℕ)
last_entry_key q = option_map (λ (e : Entry). e.key) (last_or None q)

-- How many bytes an entry adds to a block: its own bytes, and those of its restart if it has one
-- and is not the first.
abbrev pub added_size : ℕ → Option (List ℕ) → List ℕ → ℕ → ℕ
added_size since before key value =
    encoded_entry_size (left_out_len since before key) (length key - left_out_len since before key)
    value
    + (if since == 0 && is_some before then 4 else 0)

-- the key before the entries after some; `before` is the key before these
abbrev pub key_after : Option (List ℕ) → List Entry → Option (List ℕ)
key_after before [] = before
key_after before (e ∷ es) = key_after (Some e.key) es

-- how many bytes entries add to a block if no restart points at them
abbrev pub stretch_size : Option (List ℕ) → List Entry → ℕ
stretch_size before [] = 0
stretch_size before (e ∷ es) =
    added_size 1 before e.key (length e.value) + stretch_size (Some e.key) es
