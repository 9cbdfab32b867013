-- What is counted, an entry after the other.
use Rattle.std.specs.Prelude.{ℕ, ◌+◌, ◌-◌, ◌^◌, min, max, false, ◌||◌, List, [], ◌∷◌, Option, Some}
use Rattle.block.specs.EncodedEntry.{Entry}
use Rattle.ikey.specs.Key.{sequence_of}
use Rattle.ikey.specs.declared.key.TheConstants.{MAX_SEQUENCE}
use Rattle.table.specs.Tallies.{is_twin}
use Rattle.table.specs.declared.tally.Tally.{Tally}

-- of no entry
abbrev pub tally_of_none : Tally
tally_of_none = record { entries = 0; oldest = MAX_SEQUENCE; newest = 0; has_twins = false }

-- with one entry more, which is after the key `before`
abbrev pub tally_with : Tally → Option (List ℕ) → List ℕ → Tally
tally_with t before key = record {
  entries = min (t.entries + 1) (2 ^ 64 - 1);
  oldest = min t.oldest (sequence_of key);
  newest = max t.newest (sequence_of key);
  has_twins = t.has_twins || is_twin before key;
}

-- with more entries, which are after the key `before`
abbrev pub tally_after : Tally → Option (List ℕ) → List Entry → Tally
tally_after t before [] = t
tally_after t before (e ∷ es) = tally_after (tally_with t before e.key) (Some e.key) es
