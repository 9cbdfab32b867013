-- Where a place among the kept entries of runs is.
use Rattle.std.specs.Prelude.{ℕ, ◌<◌, List, [], ◌∷◌, length, flat_map}
use Rattle.block.specs.EncodedEntry.{Entry}
use Rattle.keep.specs.Runs.{Run}

-- the kept entries of runs, one run after the other
abbrev pub kept_of_runs : List Run → List Entry
kept_of_runs runs = flat_map (λ r. r.kept) runs

-- The first run has more than `entry` entries, so the place is at one of them; or there is no run.
abbrev pub IsPlaceInRuns : List Run → ℕ → Type 0
IsPlaceInRuns [] entry = Unit {0}
IsPlaceInRuns (r ∷ rs) entry = entry < length r.kept
