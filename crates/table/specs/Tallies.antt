-- What is counted of entries.
use Rattle.std.specs.Prelude.{ℕ, ◌-◌, ◌^◌, min, max, Bool, false, ◌&&◌, ◌||◌, nat_eq, List, [], ◌∷◌}
use Rattle.std.specs.Prelude.{length, Option, Some, None}
use Rattle.std.specs.Str.{bytes_eq}
use Rattle.block.specs.EncodedEntry.{Entry}
use Rattle.ikey.specs.Key.{user_of, sequence_of}
use Rattle.ikey.specs.declared.key.TheConstants.{MAX_SEQUENCE}
use Rattle.table.specs.declared.tally.Tally.{Tally}

-- whether an internal key has the user key and the sequence of the one before it, if there is one
abbrev pub is_twin : Option (List ℕ) → List ℕ → Bool
is_twin None key = false
is_twin (Some before) key = nat_eq (sequence_of before) (sequence_of key)
    && bytes_eq (user_of before) (user_of key)

-- whether one of the entries has the user key and the sequence of the one before it, the first
-- those of the key `before`
abbrev pub has_twins : Option (List ℕ) → List Entry → Bool
has_twins before [] = false
has_twins before (e ∷ es) = is_twin before e.key || has_twins (Some e.key) es

-- the least sequence of entries; MAX_SEQUENCE if there is none
abbrev pub least_sequence : List Entry → ℕ
least_sequence [] = MAX_SEQUENCE
least_sequence (e ∷ es) = min (sequence_of e.key) (least_sequence es)

-- the greatest sequence of entries; 0 if there is none
abbrev pub greatest_sequence : List Entry → ℕ
greatest_sequence [] = 0
greatest_sequence (e ∷ es) = max (sequence_of e.key) (greatest_sequence es)

-- what is counted of entries
abbrev pub tally_of : List Entry → Tally
tally_of entries = record {
  entries = min (length entries) (2 ^ 64 - 1);
  oldest = least_sequence entries;
  newest = greatest_sequence entries;
  has_twins = has_twins None entries;
}
