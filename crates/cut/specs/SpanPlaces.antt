-- Consecutive entries by their two places.
use Rattle.std.specs.Prelude.{◌≡◌, ℕ, ◌-◌, List, length, take, drop, Option, None}
use Rattle.std.specs.List.{last_or}
use Rattle.std.specs.Option.{option_map}
use Rattle.coding.specs.Saturated.{saturated}
use Rattle.block.specs.EncodedEntry.{Entry}
use Rattle.cut.specs.EntrySpanView.{EntrySpanView}

-- the entries from one place up to a later one; a place is the entries from it on
abbrev pub span_between : List Entry → List Entry → EntrySpanView
span_between from to = record { entries = take (length from - length to) from; behind = to }

-- The second place is not before the first, n entries lie between them (2 ^ 64 - 1 if there are
-- more), and the last of these has this key.
pub record IsSpanBetween (from to : List Entry) (n : ℕ) (last : Option (List ℕ)) : Type 0 where
  pub later : drop (length from - length to) from ≡ to
  pub count : n ≡ saturated (length from - length to)
  pub ended : last ≡ option_map (λ e. e.key) (last_or None (take (length from - length to) from))
