-- Which rows are chosen.
use Rattle.std.specs.Prelude.{ℕ, List, take, Option, Some, None, unwrap_or}
use Rattle.std.specs.Option.{option_map}
use Rattle.folder.specs.Version.{State}
use Rattle.reads.specs.Ranges.{KeyRange}
use Rattle.scan.specs.Row.{Row}
use Rattle.scan.specs.declared.row_choice.RowChoice.{RowChoice}

-- the range of the user keys that may have a row
abbrev pub chosen_range : RowChoice → KeyRange
chosen_range choice = record {
  lower = option_map (λ key. key.now) choice.from;
  upper = option_map (λ key. key.now) choice.to;
}

-- the sequence of the gets: the version's last one, if none is given
abbrev pub chosen_sequence : State → Option ℕ → ℕ
chosen_sequence v at = unwrap_or at (unwrap_or v.last_sequence 0)

-- the rows, or as many of the first as there may be
abbrev pub rows_within : Option ℕ → List Row → List Row
rows_within None rows = rows
rows_within (Some limit) rows = take limit rows
